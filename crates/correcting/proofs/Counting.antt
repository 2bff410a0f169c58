-- Which corrections count: one that no other of its sample exceeds; and the word at an index when all have been made: the value of one that counts, or the word as
-- it was, where none does.
use mathlib.Core.Path.{◌≡◌, refl, sym, ◌∙◌}
use mathlib.Core.Logic.{◌⊎◌, inl, inr, ⊎_elim}
use mathlib.Core.Bool.{Bool, true, false}
use mathlib.Core.List.{List}
use Prim.Native.Nat.{ℕ, zero, suc, ◌<◌, ◌≤◌}
use native.Mathlib.Nat.{le_antisymm}
use native.Mathlib.Omega.{arith}
use borrow.Author.Tests.{eqb-true}
use lib.Dec.{T, eqb}
use Rattle.counting.proofs.Tests.{holds, and_i, and_l, and_r, below}
use Rattle.counting.proofs.Totals.{le_over, over_le}
use Rattle.checks.specs.Checked.{accepted}
use Rattle.checks.proofs.Tests.{equal}
use Rattle.corrections.specs.declared.correction.Grid.{Grid}
use Rattle.corrections.specs.Corrections.{count, revision, value, target, in_turn, agrees}
use Rattle.clashes.proofs.Disagreeing.{same_by}
use Rattle.clashes.proofs.Searching.{values_agree}
use Rattle.correcting.specs.Corrected.{aimed_here, highest, counts, word_after}

module _ (c : List ℕ) (g : Grid) where
  pub counts_told : (index k : ℕ) → T (counts c g index k) → (target c g k ≡ index) × (revision c k ≡ highest c g index (count c))
  counts_told index k h =
      let here = aimed_here c g index k in
      let top = eqb (revision c k) (highest c g index (count c)) in
      (eqb-true _ _ (holds here (and_l here top h)), eqb-true _ _ (holds top (and_r here top h)))

  -- one that no other of its sample exceeds
  pub unexceeded_counts : (k : ℕ) → k < count c → ((i : ℕ) → i < count c → target c g i ≡ target c g k → revision c i ≤ revision c k) → T (counts c g (target c g k) k)
  unexceeded_counts k l none =
      let index : ℕ = target c g k in
      let aimed : T (aimed_here c g index k) = equal index index refl in
      let top : revision c k ≡ highest c g index (count c) = le_antisymm
      (le_over (aimed_here c g index) (revision c) (count c) k l aimed)
      (over_le (aimed_here c g index) (revision c) (count c) (revision c k) (λ i b h. none i b (eqb-true _ _ (holds (aimed_here c g index i) h)))) in
      and_i (aimed_here c g index k) (eqb (revision c k) (highest c g index (count c))) aimed (equal _ _ top)

  -- two that count for one sample have one value
  pub counting_agree : in_turn (agrees c g) (count c) ≡ accepted tt → (index i k : ℕ) → i < count c → k < count c → T (counts c g index i) → T (counts c g index k)
      → value c i ≡ value c k
  counting_agree passed index i k l b h j =
      let first = counts_told index i h in
      let second = counts_told index k j in
      values_agree c g (count c) passed i k l b (same_by c g i k (first.0 ∙ sym second.0) (first.1 ∙ sym second.1))

  module _ (index word : ℕ) where
    abbrev Untouched : ℕ → Type 0
    Untouched n = ((k : ℕ) → k < n → counts c g index k ≡ false) × (word_after c g index word n ≡ word)

    abbrev Replaced : ℕ → Type 0
    Replaced n = (k : ℕ) × (k < n) × T (counts c g index k) × (word_after c g index word n ≡ value c k)

    pub after_told : (n : ℕ) → Untouched n ⊎ Replaced n
    unfolding word_after
    after_told zero = inl ((λ k l. absurd (omega arith)), refl)
    after_told (suc n) = by (counts c g index n) refl (after_told n)
      where
        by : (t : Bool) → counts c g index n ≡ t → Untouched n ⊎ Replaced n → Untouched (suc n) ⊎ Replaced (suc n)
        by true e before = inr (n, omega arith, rw e tt, rw e refl)
        by false e (inl (none, same)) = inl ((λ k l. ⊎_elim (λ h. rw h e) (none k) (below l)), rw e same)
        by false e (inr (k, l, h, v)) = inr (k, omega arith, h, rw e v)
