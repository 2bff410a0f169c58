-- What is carried along a window (M-102), from sample to sample, for every reading: nothing is read yet, one sample more, all of them. And what the
-- numbers carried by the engine say: the least margin and the verdicts of left so far, and until's margin and verdict for the window read so far,
-- which are minus infinity and no before the lower bound.
use mathlib.Core.Path.{◌≡◌, refl, sym, ap, ap₂, ◌∙◌}
use mathlib.Core.Bool.{false}
use Prim.Native.Nat.{ℕ, suc, ◌+◌, ◌<◌, ◌≤◌}
use native.Mathlib.Nat.{le_of_lt}
use native.Mathlib.Numerals.{add-one}
use native.Mathlib.Omega.{arith}
use Rattle.formulas.specs.Formulas.{Direction}
use Rattle.logic.specs.Lattice.{least_over, greatest_over}
use Rattle.logic.specs.Margin.{minus_infinity}
use Rattle.logic.specs.Table.{Reading, verdicts, margins, Signal, away, least_so_far, until_so_far, until_at}
use Rattle.logic.proofs.Keeps.{Keeps}
use Rattle.logic.proofs.SoFar.{least_more, until_more, before_lower, least_related, until_related}
use Rattle.values.specs.Chain.{chains, chain_lattice, chain_margin, chain_verdict}
use Rattle.values.proofs.Projections.{margin_kept, verdict_kept}
use Rattle.windows.specs.Carried.{Carries}
use Rattle.windows.proofs.Windows.{until_known}

pub none_read : (R : Reading) (side : Direction) (left right : Signal R) (lower t l : ℕ) {least best : R.lattice.Value} → least ≡ R.lattice.top → best ≡ R.lattice.bottom
    → Carries R side left right lower t l 0 least best
unfolding least_so_far least_over until_so_far greatest_over
none_read R side left right lower t l highest lowest = record { least_so_far_lem = highest; until_so_far_lem = lowest }

module _ {R : Reading} {side : Direction} {left right : Signal R} {lower t l n : ℕ} {least best : R.lattice.Value} (carried : Carries R side left right lower t l n least best) where
  -- nothing before the lower bound
  pub carried_none : R.lattice.join R.lattice.bottom R.lattice.bottom ≡ R.lattice.bottom → n ≤ lower → best ≡ R.lattice.bottom
  carried_none none h = carried.until_so_far_lem ∙ before_lower R side left right lower t l none n h

  -- one sample more: left there
  module _ {lesser : R.lattice.Value} (left_read : lesser ≡ R.lattice.meet least (left (away side t n) l)) where
    lesser_so_far : lesser ≡ least_so_far R side left t l (n + 1)
    lesser_so_far = rw (add-one n) (left_read ∙ ap (λ v. R.lattice.meet v (left (away side t n) l)) carried.least_so_far_lem ∙ sym (least_more R side left right lower t l n))

    -- before the lower bound
    pub one_passed_over : R.lattice.join R.lattice.bottom R.lattice.bottom ≡ R.lattice.bottom → n < lower → Carries R side left right lower t l (n + 1) lesser best
    one_passed_over none h = record {
      least_so_far_lem = lesser_so_far;
      until_so_far_lem = rw (add-one n) (carried_none none (le_of_lt h) ∙ sym (before_lower R side left right lower t l none (suc n) h));
    }

    -- and from there on, where right is read too
    pub one_read : {greater : R.lattice.Value} → greater ≡ R.lattice.join best (R.lattice.meet (right (away side t n) l) lesser) → lower ≤ n → Carries R side left right lower t l (n + 1) lesser greater
    one_read right_read h = record {
      least_so_far_lem = lesser_so_far;
      until_so_far_lem = rw (add-one n) (right_read
          ∙ ap₂ (λ b v. R.lattice.join b (R.lattice.meet (right (away side t n) l) v)) carried.until_so_far_lem (rw (add-one n) at lesser_so_far)
          ∙ sym (until_more R side left right lower t l n h));
    }

-- all of them, or as many as it takes
module _ {side : Direction} {left right : Signal chains} {lower t l n least best : ℕ} (upper : ℕ) (carried : Carries chains side left right lower t l n least best) where
  pub all_read : n ≡ upper + 1 → best ≡ until_at chains side left right lower upper t l
  unfolding until_at
  all_read e = carried.until_so_far_lem ∙ ap (until_so_far chains side left right lower t l) (e ∙ add-one upper)

  pub enough_read : n ≤ upper + 1 → least ≤ best → best ≡ until_at chains side left right lower upper t l
  enough_read h low = carried.until_so_far_lem ∙ until_known side left right lower upper t l n (omega arith) (omega (arith, carried.least_so_far_lem, carried.until_so_far_lem))

-- ---- what the engine carries, as margins and as verdicts
module _ {side : Direction} {left right : Signal chains} {lower t l n least best : ℕ} (carried : Carries chains side left right lower t l n least best) where
  through : (R : Reading) (h : ℕ → R.lattice.Value) → Keeps chain_lattice R.lattice (λ c v. h c ≡ v) → Carries R side (λ t l. h (left t l)) (λ t l. h (right t l)) lower t l n (h least) (h best)
  through R h kept = record {
    least_so_far_lem = ap h carried.least_so_far_lem ∙ least_related chains R (λ c v. h c ≡ v) kept side left right (λ t l. h (left t l)) (λ t l. h (right t l)) t t l n (λ k _. refl);
    until_so_far_lem = ap h carried.until_so_far_lem ∙ until_related chains R (λ c v. h c ≡ v) kept side left right (λ t l. h (left t l)) (λ t l. h (right t l)) t t l lower n (λ k _. refl) (λ k _. refl);
  }

  pub carried_margin : Carries margins side (λ t l. chain_margin (left t l)) (λ t l. chain_margin (right t l)) lower t l n (chain_margin least) (chain_margin best)
  carried_margin = through margins chain_margin margin_kept

  pub carried_verdict : Carries verdicts side (λ t l. chain_verdict (left t l)) (λ t l. chain_verdict (right t l)) lower t l n (chain_verdict least) (chain_verdict best)
  carried_verdict = through verdicts chain_verdict verdict_kept

  pub carried_before_lower : n ≤ lower → (chain_margin best ≡ minus_infinity) × (chain_verdict best ≡ false)
  carried_before_lower h = (carried_none carried_margin refl h, carried_none carried_verdict refl h)
