-- The head, the lines and the end are put one after the other, and what is behind the end is cleared: `whole_put`.
use mathlib.Core.Path.{◌≡◌, sym, ap, ap₂, ◌∙◌}
use Prim.Native.Nat.{◌+◌, ◌*◌, ◌^◌}
use native.Mathlib.Omega.{arith}
use lib.ListN.{length, set, take}
use Rattle.words.specs.Bytes.{words_of}
use Rattle.words.specs.Rows.{concat, put, padded}
use Rattle.words.proofs.Puts.{front_take}
use Rattle.words.proofs.Words.{words_count}
use Rattle.checks.specs.Heads.{head_words, head_for, is_wide}
use Rattle.sheet.specs.Recording.{network, recording}
use Rattle.answers.specs.Answer.{line_words, answer_head, answer_words}
use Rattle.evaluation.specs.Lent.{found_in}
use Rattle.engine.proofs.Sizes.{head_fits}
use Rattle.engine.proofs.WholeWriting.{end_room, whole_length, whole_put}
use Rattle.engine.proofs.answer.write_answer.Goals as goal

pub put_head-requires : goal.put_head-requires
put_head-requires c =
    let g = c.args in
    rw (c.number.ensures, c.is_wide.ensures) (head_fits c.args.accepted.accepting, (end_room (words_of g.accepted.sheet.now) (found_in g.accepted.sheet.now g.accepted.distances.now) c.requires).1)

pub returns-clause-written : goal.returns-clause-written
returns-clause-written c =
    let g = c.args.accepted in
    let s = words_of g.sheet.now in
    let L = found_in g.sheet.now g.distances.now in
    let w = words_of c.args.answer.now in
    let done = c.write_lines-written.ensures.written in
    let bytes = c.put_word.new.s in
    let middle = concat (line_words (network s L) L.sizes.samples (recording s L) L.lines) (length L.lines) in
    let whole = answer_words (network s L) L.sizes.samples (recording s L) L.lines (is_wide s) in
    let head = c.put_head.ensures.stored ∙ ap (λ k. put w 0 (head_for k c.is_wide.result g.layout.places g.layout.lines g.layout.samples)) c.number.ensures
    ∙ ap₂ (λ b l. put w 0 (answer_head b l.places l.lines l.samples)) c.is_wide.ensures g.accepting.laid in
    let lines = done.written ∙ ap (λ v. put v (head_words (is_wide s)) middle) head in
    let parts = c.put_word.ensures.stored ∙ ap (set (words_of c.write_lines-written.new.answer) c.write_lines-written.result.end) c.word.ensures ∙ ap₂ (λ v i. set v i (15 * 2 ^ 28 + i)) lines done.ends ∙ whole_put s L w (end_room s L c.requires).0 in
    let count : length whole ≡ c.write_lines-written.result.end + 1 = whole_length s L ∙ ap (λ n. n + 1) (sym done.ends) in
    let same : length (words_of bytes) ≡ length w =
    omega (arith, c.put_word.auto.s ∙ c.write_lines-written.auto.answer ∙ c.put_head.auto.s, words_count bytes, words_count c.args.answer.now) in
    record {
      written = c.clear_behind.ensures.kept ∙ ap₂ padded (ap (take _) parts ∙ front_take w whole _ count) same;
      ends = done.ends;
      greatest = done.greatest;
      counted = done.counted;
    }
