-- The samples one by one: what one more adds, what acceptance tells of each, and that a recording has numbers of 27 bits.
use Prim.Native.Nat.{ℕ, zero, suc, ◌+◌, ◌-◌, ◌*◌, ◌<◌}
use mathlib.Core.List.{List}
use mathlib.Core.Bool.{true, false}
use mathlib.Core.Path.{◌≡◌, ap, ◌∙◌}
use native.Mathlib.Omega.{arith}
use lib.Dec.{eqb}
use borrow.Author.Tests.{eqb-true}
use Rattle.words.specs.Word.{bits}
use Rattle.formulas.specs.Formulas.{InBits}
use Rattle.checks.specs.Checked.{accepted, refused, require, word_at, is_kind}
use Rattle.checks.proofs.Checks.{require_accepted}
use Rattle.checks.proofs.Tests.{kind_told}
use Rattle.lines.proofs.AcceptedLines.{sample_bits}
use Rattle.sheet.specs.Layout.{samples_from}
use Rattle.sheet.specs.Recording.{recording_of}
use Rattle.sheet.specs.Alike.{IsSample}

pub sample_more : (s : List ℕ) (left at : ℕ) → 0 < left
    → samples_from s left at ≡ require (is_kind 4 s at) 8 at (require (eqb (bits 27 1 (word_at s at)) 0) 9 at (samples_from s (left - 1) (at + 1)))
unfolding samples_from
sample_more s zero at some = absurd (omega arith)
sample_more s (suc left) at some = let one_less : suc left - 1 ≡ left = omega arith in rw one_less

-- the first sample that is left is at fault, or nothing is left of it
pub not_sample : (s : List ℕ) (left at : ℕ) → 0 < left → is_kind 4 s at ≡ false → samples_from s left at ≡ refused 8 at
not_sample s left at some other = sample_more s left at some ∙ simp other

pub spare_bit_set : (s : List ℕ) (left at : ℕ) → 0 < left → is_kind 4 s at ≡ true → eqb (bits 27 1 (word_at s at)) 0 ≡ false → samples_from s left at ≡ refused 9 at
spare_bit_set s left at some right set = sample_more s left at some ∙ simp (right, set)

pub one_less : (s : List ℕ) (left at : ℕ) → 0 < left → is_kind 4 s at ≡ true → eqb (bits 27 1 (word_at s at)) 0 ≡ true
    → samples_from s left at ≡ samples_from s (left - 1) (at + 1)
one_less s left at some right clear = sample_more s left at some ∙ simp (right, clear)

pub none_left : (s : List ℕ) (count start i : ℕ) → i ≡ count → samples_from s count start ≡ samples_from s (count - i) (start + i)
    → accepted (start + count) ≡ samples_from s count start
unfolding samples_from
none_left s count start i all e =
    let none : 0 ≡ count - i = omega arith in
    let end : start + count ≡ start + i = omega arith in
    rw (e, end) (ap (λ (left : ℕ). samples_from s left (start + i)) none)

-- each word of samples that are accepted is one
pub samples_told : (s : List ℕ) (count at : ℕ) {next : ℕ} → samples_from s count at ≡ accepted next → (i : ℕ) → i < count → IsSample (word_at s (at + i))
unfolding samples_from
samples_told s zero at e i h = absurd (omega arith)
samples_told s (suc count) at e i h =
    let kind = require_accepted (is_kind 4 s at) 8 at _ e in
    let bit = require_accepted (eqb (bits 27 1 (word_at s at)) 0) 9 at _ kind.1 in
    by_index i h (record { kind = (kind_told 4 s at kind.0).1; spare = eqb-true _ _ bit.0 }) (samples_told s count (at + 1) bit.1)
  where
    by_index : (i : ℕ) → i < suc count → IsSample (word_at s at) → ((i : ℕ) → i < count → IsSample (word_at s (at + 1 + i))) → IsSample (word_at s (at + i))
    by_index zero h first rest = let here : at + 0 ≡ at = omega arith in rw here first
    by_index (suc i) h first rest = let next : at + suc i ≡ at + 1 + i = omega arith in rw next (rest i (omega arith))

pub recording_bits : (s : List ℕ) (start places signals x t l : ℕ) → InBits 27 (recording_of s start places signals x t l)
recording_bits s start places signals x t l = sample_bits (word_at s (start + ((t * places + l) * signals + x)))
