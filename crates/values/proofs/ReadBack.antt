-- Every verdict has one of the kinds 9 to 12, and reading its word gives back the verdict and margin that it was made from: they agree and
-- the margin is below 2^27 in size.
use mathlib.Core.Path.{◌≡◌, refl, ap, ap₂, ◌∙◌}
use mathlib.Core.Bool.{Bool, true, false}
use Prim.Native.Nat.{ℕ, zero, suc, ◌-◌, ◌^◌, ◌<◌, ◌≤◌}
use native.Mathlib.Omega.{arith}
use lib.Dec.{leb→le}
use lib.IntN.{pos, negsuc}
use borrow.Author.Tests.{lt-ltb, le-ltb, ne_eqb}
use Rattle.words.specs.Word.{kind_of, payload_of, word_of, signed}
use Rattle.logic.specs.Margin.{Margin, minus_infinity, finite, plus_infinity}
use Rattle.logic.specs.Steadiness.{Agree}
use Rattle.logic.proofs.Small.{Small}
use Rattle.values.specs.Said.{verdict_word, says, said, said_by}

-- ---- two's complement of 28 bits, there and back
signed_negsuc : (x : ℕ) → suc x < 2 ^ 27 → signed 28 (2 ^ 28 - suc x) ≡ negsuc x
signed_negsuc x h =
    let high : 2 ^ 27 ≤ 2 ^ 28 - suc x = omega arith in
    let back : 2 ^ 28 - suc (2 ^ 28 - suc x) ≡ x = omega arith in
    rw (le-ltb (2 ^ 28 - suc x) (2 ^ 27) high, back) refl

-- ---- a word of a kind and a payload
pub kind_word : (k p : ℕ) → p < 2 ^ 28 → kind_of (word_of k p) ≡ k
kind_word k p h = omega arith

pub payload_word : (k p : ℕ) → p < 2 ^ 28 → payload_of (word_of k p) ≡ p
payload_word k p h = omega arith

said_word : (k p : ℕ) → p < 2 ^ 28 → said_by (word_of k p) ≡ said k p
said_word k p h = ap₂ said (kind_word k p h) (payload_word k p h)

-- ---- kinds 9 and 10
said_yes : (x : ℕ) → x < 2 ^ 27 → said 9 x ≡ says true (finite (pos x))
unfolding said
said_yes x h = rw (lt-ltb x (2 ^ 27) h) refl

said_no : (x : ℕ) → suc x < 2 ^ 27 → said 10 (2 ^ 28 - suc x) ≡ says false (finite (negsuc x))
unfolding said
said_no x h =
    let high : 2 ^ 27 < 2 ^ 28 - suc x = omega arith in
    let some : (2 ^ 28 - suc x ≡ 0) → ⊥ = λ e. omega arith in
    simp (lt-ltb (2 ^ 27) (2 ^ 28 - suc x) high, ne_eqb (2 ^ 28 - suc x) 0 some) (ap (λ z. says false (finite z)) (signed_negsuc x h))

pub read_back_lem : (v : Bool) (m : Margin) → Agree m v → Small m → said_by (verdict_word v m) ≡ says v m
unfolding said
read_back_lem true minus_infinity a s = absurd a
read_back_lem true (finite (pos x)) a s = said_word 9 x (omega arith) ∙ said_yes x s
read_back_lem true (finite (negsuc x)) a s = absurd a
read_back_lem true plus_infinity a s = refl
read_back_lem false minus_infinity a s = refl
read_back_lem false (finite (pos zero)) a s = refl
read_back_lem false (finite (pos (suc x))) a s = absurd (positive x (leb→le (suc x) 0 a))
  where
    positive : (x : ℕ) → suc x ≤ 0 → ⊥
    positive x h = omega arith
read_back_lem false (finite (negsuc x)) a s = said_word 10 (2 ^ 28 - suc x) (omega arith) ∙ said_no x s
read_back_lem false plus_infinity a s = absurd a
