-- Remark 3.5: a margin and its verdict agree, a yes has a margin of 0 or more and a no of 0 or less. With nearness: where a margin is beyond d,
-- its verdict and that of a margin at most d away are both yes above 0 and both no below.
use mathlib.Core.Path.{◌≡◌, refl}
use mathlib.Core.Logic.{⊎_elim}
use mathlib.Core.Bool.{Bool, true, false, not, ◌&&◌, ◌||◌}
use mathlib.Core.List.{List}
use Prim.Native.Nat.{ℕ, ◌<◌}
use native.Mathlib.Omega.{arith}
use lib.Dec.{T, leb→le}
use lib.IntN.{ℤ, pos, negsuc, ◌-ℤ◌}
use lib.Signed.{le_z}
use borrow.Author.Tests.{not-true}
use Rattle.logic.specs.Lattice.{verdict_lattice}
use Rattle.logic.specs.Margin.{Margin, minus_infinity, finite, plus_infinity, at_most, negate, margin_lattice}
use Rattle.network.specs.Network.{Network}
use Rattle.formulas.specs.Formulas.{Line, Recording}
use Rattle.logic.specs.Table.{verdicts, margins, value_at}
use Rattle.logic.specs.Steadiness.{Near, Above, SteadyVerdicts, Agree}
use Rattle.logic.proofs.Keeps.{Keeps}
use Rattle.logic.proofs.Order.{Up, le→up, up→le, up_negate, at_most_trans, at_most_total, near}
use Rattle.logic.proofs.TotalOrder.{meet_by, join_by}
use Rattle.counting.proofs.Lists.{all_any}
use Rattle.logic.proofs.TableKeeps.{value_at_kept}

abbrev zero_margin : Margin
zero_margin = finite (pos 0)

-- the lesser and the greater of two margins, by cases
lesser : (P : Margin → Type 0) (x y : Margin) → (T (at_most x y) → P x) → (T (at_most y x) → P y) → P (margin_lattice.meet x y)
lesser = meet_by at_most minus_infinity plus_infinity at_most_trans at_most_total

greater : (P : Margin → Type 0) (x y : Margin) → (T (at_most x y) → P y) → (T (at_most y x) → P x) → P (margin_lattice.join x y)
greater = join_by at_most minus_infinity plus_infinity at_most_trans at_most_total

agree_meet : (a b : Margin) (c d : Bool) → Agree a c → Agree b d → Agree (margin_lattice.meet a b) (c && d)
agree_meet a b true true h k = lesser (λ v. T (at_most zero_margin v)) a b (λ _. h) (λ _. k)
agree_meet a b true false h k = lesser (λ v. T (at_most v zero_margin)) a b (λ u. at_most_trans a b zero_margin u k) (λ _. k)
agree_meet a b false d h k = lesser (λ v. T (at_most v zero_margin)) a b (λ _. h) (λ u. at_most_trans b a zero_margin u h)

agree_join : (a b : Margin) (c d : Bool) → Agree a c → Agree b d → Agree (margin_lattice.join a b) (c || d)
agree_join a b true d h k = greater (λ v. T (at_most zero_margin v)) a b (λ u. at_most_trans zero_margin a b h u) (λ _. h)
agree_join a b false true h k = greater (λ v. T (at_most zero_margin v)) a b (λ _. k) (λ u. at_most_trans zero_margin b a k u)
agree_join a b false false h k = greater (λ v. T (at_most v zero_margin)) a b (λ _. k) (λ _. h)

agree_kept : Keeps margin_lattice verdict_lattice Agree
agree_kept = record { keeps_top = tt; keeps_bottom = tt; keeps_meet = agree_meet; keeps_join = agree_join }

agree_negate : (m : Margin) (b : Bool) → Agree m b → Agree (negate m) (not b)
agree_negate m true h = up→le (negate m) zero_margin (up_negate 0 zero_margin m (le→up zero_margin m h))
agree_negate m false h = up→le zero_margin (negate m) (up_negate 0 m zero_margin (le→up m zero_margin h))

agree_atom : (z : ℤ) → Agree (finite z) (le_z (pos 0) z)
agree_atom z = go (le_z (pos 0) z) refl
  where
    go : (b : Bool) → le_z (pos 0) z ≡ b → Agree (finite z) b
    go true e = rw e tt
    go false e = ⊎_elim (λ u. absurd (rw e at u)) (λ u. u) (at_most_total zero_margin (finite z))

pub agreement : (N : Network) (x : Recording) (lines : List Line) (i t l : ℕ) → l < N.places → Agree (value_at margins N x lines i t l) (value_at verdicts N x lines i t l)
agreement N x lines = value_at_kept margins verdicts N Agree agree_kept agree_negate (λ _. Unit {0}) x x
    (λ s t l c _. agree_atom (x s t l -ℤ c)) (λ s t l c _. agree_atom (c -ℤ x s t l)) lines (all_any lines)

-- ---- both verdicts where the margin is beyond d
-- a margin above 0 is a yes
above_yes : (d : ℕ) (m : Margin) (b : Bool) → Above d m → Agree m b → b ≡ true
above_yes d m true h k = refl
above_yes d minus_infinity false h k = absurd h
above_yes d (finite (pos a)) false h k = absurd (omega (arith, leb→le))
above_yes d (finite (negsuc a)) false h k = absurd h
above_yes d plus_infinity false h k = absurd k

-- what lies above d is still above 0 where it falls by d
above_near : (d : ℕ) (m m' : Margin) → Up d m m' → Above d m → Above 0 m'
above_near d minus_infinity m' u h = absurd h
above_near d (finite (negsuc a)) m' u h = absurd h
above_near d (finite (pos a)) minus_infinity u h = u
above_near d (finite (pos a)) (finite (pos b)) u h = omega arith
above_near d (finite (pos a)) (finite (negsuc b)) u h = omega arith
above_near d (finite (pos a)) plus_infinity u h = tt
above_near d plus_infinity minus_infinity u h = u
above_near d plus_infinity (finite b) u h = absurd u
above_near d plus_infinity plus_infinity u h = tt

up_both_yes : (d : ℕ) (m m' : Margin) (b b' : Bool) → Up d m m' → Above d m → Agree m b → Agree m' b' → (b ≡ true) × (b' ≡ true)
up_both_yes d m m' b b' u h k k' = (above_yes d m b h k, above_yes 0 m' b' (above_near d m m' u h) k')

pub steady_verdicts : (d : ℕ) (m m' : Margin) (b b' : Bool) → Near d m m' → Agree m b → Agree m' b' → SteadyVerdicts d b b' m m'
steady_verdicts d m m' b b' n k k' =
    let ups = (near d m m').0 n in
    record {
      near = n;
      both_yes = λ above. up_both_yes d m m' b b' ups.0 above k k';
      both_no = λ below.
          let yes = up_both_yes d (negate m) (negate m') (not b) (not b') (up_negate d m' m ups.1) below (agree_negate m b k) (agree_negate m' b' k') in
          (not-true b yes.0, not-true b' yes.1);
    }
