-- Request M-103 at the level of values: in a table without codes 2 and 3, samples that are no lower keep each yes, lower no margin and leave no fewer
-- yes verdicts. Inside of or, always, everywhere and historically, which are defined by two negations, the order is the flipped one.
use mathlib.Core.Path.{◌≡◌, refl, sym, ap, subst, ◌∙◌}
use mathlib.Core.Logic.{⊎_elim}
use mathlib.Core.Bool.{Bool, true, false, cond}
use mathlib.Core.List.{List}
use Prim.Native.Nat.{ℕ, zero, suc, ◌+◌, ◌-◌, ◌<◌, ◌≤◌, zero-le}
use native.Mathlib.Omega.{arith}
use lib.Dec.{T, T_not, not_T, leb, ltb, leb→le, le→leb, ltb→lt, nltb→le, leb-suc-zero, leb-suc-suc, lit≤}
use lib.IntN.{ℤ, pos, negsuc, sub_ℕ, ◌-ℤ◌}
use lib.Signed.{le_z}
use Rattle.counting.specs.Totals.{count}
use Rattle.counting.proofs.Tests.{holds, bool_ext, and_i, and_l, and_r, or_l, or_r, or_e}
use Rattle.counting.proofs.Totals.{sum_le}
use Rattle.network.specs.Network.{Network}
use Rattle.formulas.specs.Formulas.{Line, Recording, LinesFit}
use Rattle.logic.specs.Lattice.{verdict_lattice}
use Rattle.logic.specs.Margin.{finite}
use Rattle.logic.specs.Table.{Reading, verdicts, margins, value_at}
use Rattle.logic.specs.Counts.{yes_count}
use Rattle.logic.specs.Raising.{Rising, RaisedVerdicts}
use Rattle.logic.proofs.Keeps.{Keeps, flipped}
use Rattle.logic.proofs.Order.{Up, le_z→up, up→le, up_negate, at_most_trans}
use Rattle.logic.proofs.Margins.{up_kept}
use Rattle.logic.proofs.Steadiness.{same_shift}
use Rattle.logic.proofs.TableKeeps.{value_at_turned}

-- ---- atoms
-- a difference is not negative exactly where the one is at least the other
sub_sign : (a b : ℕ) → le_z (pos 0) (sub_ℕ a b) ≡ leb b a
sub_sign a b = go (ltb a b) refl
  where
    go : (t : Bool) → ltb a b ≡ t → le_z (pos 0) (cond t (negsuc (b - suc a)) (pos (a - b))) ≡ leb b a
    go true e = bool_ext false (leb b a) (λ u. absurd u) (λ u. let h = ltb→lt a b (rw e tt) in let k = leb→le b a u in omega arith)
    go false e = bool_ext _ _ (λ u. le→leb b a (nltb→le a b (rw e tt))) (λ u. le→leb 0 (a - b) zero-le)

difference_sign : (x c : ℤ) → le_z (pos 0) (x -ℤ c) ≡ le_z c x
difference_sign (pos a) (pos zero) = bool_ext (leb 0 (a + 0)) (leb 0 a) (λ u. le→leb 0 a zero-le) (λ u. le→leb 0 (a + 0) zero-le)
difference_sign (pos a) (pos (suc c)) = sub_sign a (suc c)
difference_sign (pos a) (negsuc c) = bool_ext (leb 0 (a + suc c)) true (λ u. tt) (λ u. le→leb 0 (a + suc c) zero-le)
difference_sign (negsuc a) (pos zero) = sub_sign 0 (suc a) ∙ leb-suc-zero a
difference_sign (negsuc a) (pos (suc c)) = refl
difference_sign (negsuc a) (negsuc c) = sub_sign (suc c) (suc a) ∙ leb-suc-suc a c

-- a constant taken away from both leaves the order
shifted : (x y c : ℤ) → T (le_z x y) → T (le_z (x -ℤ c) (y -ℤ c))
shifted x y c = subst T (sym (difference_sign y x) ∙ ap (le_z (pos 0)) (sym (same_shift y x c)) ∙ difference_sign (y -ℤ c) (x -ℤ c))

-- ---- verdicts
abbrev Implies : Bool → Bool → Type 0
Implies a b = T a → T b

implies_kept : Keeps verdict_lattice verdict_lattice Implies
implies_kept = record {
  keeps_top = λ h. h;
  keeps_bottom = λ h. h;
  keeps_meet = λ a b c d f g h. and_i c d (f (and_l a b h)) (g (and_r a b h));
  keeps_join = λ a b c d f g h. ⊎_elim (λ u. or_l c d (f u)) (λ u. or_r c d (g u)) (or_e a b h);
}

count_le : (v w : Bool) → (v ≡ true → w ≡ true) → count v ≤ count w
count_le false w h = zero-le
count_le true w h = rw (h refl) (lit≤ tt)

-- ---- tables
module _ (N : Network) (x y : Recording) (no_lower : (s t l : ℕ) → T (le_z (x s t l) (y s t l))) (lines : List Line) (rising : LinesFit Rising lines) where
  -- an order that meet and join keep, that the opposite turns round, and in which a higher difference makes no lower atom
  rises : (R : Reading) (Le : R.lattice.Value → R.lattice.Value → Type 0) → Keeps R.lattice R.lattice Le
      → ((a b : R.lattice.Value) → Le a b → Le (R.opposite b) (R.opposite a)) → ((z w : ℤ) → T (le_z z w) → Le (R.atom z) (R.atom w))
      → (i t l : ℕ) → l < N.places → Le (value_at R N x lines i t l) (value_at R N y lines i t l)
  rises R Le kept turned atoms = value_at_turned R R N Le (λ a b. Le b a) kept (flipped R.lattice R.lattice Le kept) turned (λ a b. turned b a)
      Rising (λ _ fit. absurd fit) x y (λ s t l c _. atoms _ _ (shifted (x s t l) (y s t l) c (no_lower s t l))) (λ _ _ _ _ fit. absurd fit) lines rising

  verdicts_rise : (i t l : ℕ) → l < N.places → Implies (value_at verdicts N x lines i t l) (value_at verdicts N y lines i t l)
  verdicts_rise = rises verdicts Implies implies_kept (λ a b f u. not_T a (λ v. T_not b u (f v))) (λ z w h u. at_most_trans (finite (pos 0)) (finite z) (finite w) u h)

  margins_rise : (i t l : ℕ) → l < N.places → Up 0 (value_at margins N x lines i t l) (value_at margins N y lines i t l)
  margins_rise = rises margins (Up 0) (up_kept 0) (up_negate 0) le_z→up

  pub values_raised : (i t l : ℕ) → l < N.places
      → RaisedVerdicts (value_at verdicts N x lines i t l) (value_at verdicts N y lines i t l) (value_at margins N x lines i t l) (value_at margins N y lines i t l)
  values_raised i t l b = record {
    stays_yes = λ e. holds _ (verdicts_rise i t l b (rw e tt));
    no_lower = up→le (value_at margins N x lines i t l) (value_at margins N y lines i t l) (margins_rise i t l b);
  }

  pub yes_raised : yes_count N x lines ≤ yes_count N y lines
  unfolding yes_count
  yes_raised = sum_le _ _ _ (λ i _. sum_le _ _ _ (λ t _. sum_le _ _ _ (λ l b. count_le _ _ (values_raised i _ l b).stays_yes)))
