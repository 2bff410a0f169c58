-- Each turn puts the word of one place more after those of the sample, and counts its verdict.
use mathlib.Core.Path.{◌≡◌, refl, sym, ap, ap₂, ◌∙◌}
use Prim.Native.Nat.{ℕ, ◌+◌, ◌*◌, ◌≤◌, ◌<◌}
use native.Mathlib.Omega.{arith}
use lib.ListN.{length, set}
use Rattle.words.specs.Bytes.{words_of}
use Rattle.words.specs.Rows.{row, put}
use Rattle.words.proofs.Puts.{put_nil, put_more}
use Rattle.words.proofs.Words.{words_count}
use Rattle.counting.specs.Totals.{count, sum_below}
use Rattle.counting.proofs.Totals.{sum_more, yes_bound}
use Rattle.values.specs.Chain.{chain_word, chain_verdict}
use Rattle.values.proofs.Machine.{byte_count}
use Rattle.samples.specs.Sample.{entry}
use Rattle.words.proofs.Tails.{word_tail}
use Rattle.std.proofs.Common.{rules}
use Rattle.samples.proofs.sample.write_sample.Goals as goal
use Rattle.samples.proofs.sample.write_sample.Goals.{In-loop-l, Start}

abbrev Value : (c : Start) → ℕ → ℕ
Value c l = entry c.args.values.now c.args.stride c.args.offset l

room : (c : In-loop-l) → (c.args.to + c.loop-l.l < length (words_of c.args.line.now))
    × (c.args.to + c.loop-l.l < length (words_of c.loop-l.line))
room c =
    let first = words_count c.args.line.now in
    let now = words_count c.loop-l.line in
    (omega arith, omega arith)

pub loop-l-init : goal.loop-l-init
unfolding row sum_below
loop-l-init c = (search rules, search rules, sym (put_nil _ _), search rules, refl)

-- the index of the value
inside : (c : In-loop-l) → c.loop-l.l * c.args.stride + c.args.offset < length c.args.values.now
inside c = c.requires.0.inside c.loop-l.l c.loop-l-test.true

pub overflow_mul-value : goal.overflow_mul-value
overflow_mul-value c = omega (arith, inside c, c.well_formed)

pub overflow_add-value : goal.overflow_add-value
overflow_add-value c = omega (arith, inside c, c.well_formed)

pub offset_bounds-values-l : goal.offset_bounds-values-l
offset_bounds-values-l c = omega (arith, inside c, c.well_formed)

pub bounds-values-l : goal.bounds-values-l
bounds-values-l c = inside (goal.at.bounds-values-l c).In-loop-l

pub overflow_add-to : goal.overflow_add-to
overflow_add-to c = omega (arith, words_count c.args.line.now, room (goal.at.overflow_add-to c).In-loop-l)

pub word_of-requires : goal.word_of-requires
word_of-requires c =
    c.requires.0.bound c.loop-l.l c.loop-l-test.true

pub put_word-requires : goal.put_word-requires
put_word-requires c = (room (goal.at.put_word-requires c).In-loop-l).1

pub overflow_add-yes : goal.overflow_add-yes
overflow_add-yes c =
    let loop = c.loop-l in
    let small : loop.yes ≤ loop.l = rw loop.invariant.3 (yes_bound (λ k. chain_verdict (Value (goal.at.overflow_add-yes c).Start k)) loop.l) in
    omega (arith, byte_count c.yes.result, words_count c.args.line.now, c.well_formed)

pub loop-l-preserved : goal.loop-l-preserved
loop-l-preserved c =
    let loop = c.loop-l in
    let word = c.word_of in
    let stored = c.put_word.ensures.stored ∙ ap (λ w. set w (c.args.to + loop.l) word.result) loop.invariant.2 in
    let more = put_more (words_of c.args.line.now) c.args.to (λ k. chain_word (Value (goal.at.loop-l-preserved c).Start k)) loop.l word.result (room (goal.at.loop-l-preserved c).In-loop-l).0 word.ensures in
    let one = (byte_count c.yes.result).0 ∙ ap count c.yes.ensures in
    let tail = word_tail loop.line _ (c.args.to + loop.l) word.result (room (goal.at.loop-l-preserved c).In-loop-l).1 c.put_word.ensures.bytes in
    (search rules, search rules, stored ∙ more, ap₂ ◌+◌ loop.invariant.3 one ∙ sym (sum_more _ loop.l), tail ∙ loop.invariant.4)

pub returns : goal.returns
returns c =
    let ended : c.loop-l.l ≡ c.args.places = omega arith in record {
      written = c.loop-l.invariant.2 ∙ ap (λ n. put (words_of c.args.line.now) c.args.to (row (λ k. chain_word (Value (goal.at.returns c).Start k)) n)) ended;
      counted = c.loop-l.invariant.3 ∙ ap (sum_below _) ended;
      tail = c.loop-l.invariant.4;
    }
