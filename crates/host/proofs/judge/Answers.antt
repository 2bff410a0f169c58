-- Where all lengths are whole, the bytes that the engine leaves are those of its words, and the words are what its contract says.
use mathlib.Core.Path.{sym, ◌∙◌, ap}
use mathlib.Core.List.{List}
use native.Mathlib.Omega.{arith}
use Prim.Native.Nat.{ℕ, ◌/◌}
use lib.ListN.{length}
use Rattle.words.specs.Bytes.{bytes_of, halves_of}
use Rattle.words.proofs.RoundTrips.{words_bytes, numbers_bytes}
use Rattle.answers.specs.Judged.{Result}
use Rattle.host.specs.Host.{result_bytes}
use Rattle.host.proofs.Lent.{whole_lengths, judged_whole}
use Rattle.host.proofs.judge.Goals as goal

pub returns : goal.returns
returns c =
    let g = c.args in
    let call = c.judge in
    let tested = sym c.lent_whole.ensures ∙ c.if-not-lent_whole.false in
    let lengths = whole_lengths _ _ _ _ tested in
    let A = call.new.answer in
    let D = call.new.distances in
    let words = words_bytes A (length A / 4) (λ i. (c.type_inv.answer i).fits) (omega (arith, lengths.0, call.auto.answer)) in
    let numbers = numbers_bytes D (length D / 8) (λ i. (c.type_inv.distances i).fits) (omega (arith, lengths.1, call.auto.distances)) in
    let whole = judged_whole g.sheet.now g.distances.now g.answer.now g.res.now tested in
    record {
      told = rw whole (c.put_result.ensures.number ∙ ap (λ (r : Result). r.number) call.ensures.told);
      said = rw whole (sym words ∙ ap bytes_of call.ensures.said);
      measured = rw whole (sym numbers ∙ ap (λ (x : List ℕ). bytes_of (halves_of x)) call.ensures.measured);
      held = rw whole (c.put_result.ensures.held ∙ ap result_bytes call.ensures.told);
    }
