-- What the walk over an answer rests on: a test of all is decided by one that fails, or by each that passes; a word says something where its
-- number is not 0; and no line of 255 begins at an index of more than 36 bits, whatever the words are.
use mathlib.Core.Path.{◌≡◌, refl, sym, ap, ◌∙◌}
use mathlib.Core.Bool.{Bool, true, false}
use mathlib.Core.List.{List, [], ◌∷◌}
use Prim.Native.Nat.{ℕ, zero, suc, ◌+◌, ◌*◌, ◌^◌, ◌<◌, ◌≤◌}
use native.Mathlib.Nat.{mul-le-mul}
use native.Mathlib.Numerals.{add-one}
use native.Mathlib.Omega.{arith}
use lib.Dec.{T}
use lib.ListN.{length}
use Rattle.std.specs.List.{fold}
use Rattle.logic.specs.Lattice.{verdict_lattice, least_over}
use Rattle.counting.proofs.Tests.{bool_ext}
use Rattle.logic.proofs.Quantifiers.{all_e, all_i}
use Rattle.checks.specs.Heads.{head_words, is_wide, places_of}
use Rattle.checks.proofs.Heads.{few_head_words, places_few}
use Rattle.values.specs.Said.{Said, says, nothing}
use Rattle.lookup.specs.Lookup.{is_said, verdict_number, extent_at, line_start}

-- ---- all numbers below n that pass the test t
pub one_fails : (t f : ℕ → Bool) (n l : ℕ) → l < n → T (t l) → f l ≡ false → least_over verdict_lattice t f n ≡ false
one_fails t f n l below passes fails = bool_ext (least_over verdict_lattice t f n) false (λ h. rw fails at (all_e t f n h l below passes)) (λ h. absurd h)

pub none_fails : (t f : ℕ → Bool) (n : ℕ) → ((l : ℕ) → l < n → T (t l) → f l ≡ true) → least_over verdict_lattice t f n ≡ true
none_fails t f n holds = bool_ext (least_over verdict_lattice t f n) true (λ _. tt) (λ _. all_i t f n (λ l below passes. rw (holds l below passes) tt))

-- a search that tells whether all pass tells the test of all
pub all_told : (t f : ℕ → Bool) (n : ℕ) (all : Bool) → (all ≡ true → (l : ℕ) → l < n → T (t l) → f l ≡ true) → (all ≡ false → (l : ℕ) × (l < n) × T (t l) × (f l ≡ false)) → all ≡ least_over verdict_lattice t f n
all_told t f n true pass fails = sym (none_fails t f n (pass refl))
all_told t f n false pass fails = let (l, below, passes, none) = fails refl in sym (one_fails t f n l below passes none)

-- ---- what a word says
pub says_something : (s : Said) → (verdict_number s ≡ 0 → ⊥) → is_said s ≡ true
says_something (says v m) some = refl
says_something nothing some = absurd (some refl)

pub says_nothing : (s : Said) → verdict_number s ≡ 0 → is_said s ≡ false
says_nothing (says true m) none = absurd (omega arith)
says_nothing (says false m) none = absurd (omega arith)
says_nothing nothing none = refl

-- ---- where the lines begin
module _ (a : List ℕ) where
  pub next_start : {at : ℕ} (i : ℕ) → at ≡ line_start a i → at + 1 + (extent_at a at).length * places_of a ≡ line_start a (i + 1)
  unfolding line_start
  next_start i here = rw (here, add-one i) refl

  -- a fold goes from each to the next, whatever it goes over
  abbrev pub next_of : ℕ → ℕ → ℕ
  next_of at _ = at + 1 + (extent_at a at).length * places_of a

  starts_folded : (k : ℕ) (items : List ℕ) → fold next_of (line_start a k) items ≡ line_start a (k + length items)
  starts_folded k [] = ap (line_start a) (omega arith)
  starts_folded k (x ∷ items) = ap (λ at. fold next_of at items) (next_start k refl) ∙ starts_folded (k + 1) items ∙ ap (line_start a) (omega arith)

  pub start_told : {first : ℕ} (items : List ℕ) → first ≡ head_words (is_wide a) → fold next_of first items ≡ line_start a (length items)
  unfolding line_start
  start_told items e = ap (λ at. fold next_of at items) e ∙ starts_folded 0 items ∙ ap (line_start a) (omega arith)

  -- a length has 12 bits, and the places have at most 16
  pub line_size : {m n : ℕ} (at : ℕ) → m ≤ (extent_at a at).length → n ≤ places_of a → m * n ≤ 4095 * 65535
  line_size at samples places = mul-le-mul {n₂ = 4095} {m₂ = 65535} (omega arith) (omega (arith, places_few a))

  start_bound : (i : ℕ) → line_start a i ≤ 2 + i * (1 + 4095 * 65535)
  unfolding line_start
  start_bound zero = omega (arith, few_head_words (is_wide a))
  start_bound (suc i) = omega (arith, start_bound i, line_size {m = (extent_at a (line_start a i)).length} {n = places_of a} (line_start a i) (omega arith) (omega arith))

  pub start_small : {at : ℕ} (i : ℕ) → at ≡ line_start a i → i < 2 ^ 8 → at < 2 ^ 36
  start_small i here few = omega (arith, start_bound i)
