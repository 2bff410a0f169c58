-- Once all the numbers of the list are stored, they pin every byte.
use Prim.Native.Nat.{ℕ, ◌*◌}
use mathlib.Core.Path.{◌≡◌, sym, ◌∙◌, ap}
use mathlib.Core.List.{List}
use native.Mathlib.Omega.{arith}
use lib.ListN.{length, take}
use lib.Seq.{take_all}
use Rattle.words.specs.Bytes.{words_of, numbers_of, bytes_of, halves_of}
use Rattle.words.proofs.Numbers.{length_numbers}
use Rattle.words.proofs.RoundTrips.{numbers_bytes}
use Rattle.words.proofs.put_numbers.Goals as goal

pub returns : goal.returns
returns c =
    let s = c.loop-i.s in
    let numbers = c.args.numbers.now in
    let count = length numbers in
    let long : length s ≡ count * 8 = omega arith in
    let all : c.loop-i.i ≡ count = omega arith in
    let same : take count (numbers_of (words_of s)) ≡ take count numbers = rw all at c.loop-i.invariant.3 in
    sym (numbers_bytes s count c.loop-i.invariant.2 long)
    ∙ ap (λ (x : List ℕ). bytes_of (halves_of x))
    (sym (take_all count (numbers_of (words_of s)) (omega (arith, length_numbers s))) ∙ same ∙ take_all count numbers (omega arith))
