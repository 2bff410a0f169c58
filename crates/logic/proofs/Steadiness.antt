-- Steadiness at the level of values (Remark 3.6): over every table of lines, codes 0 to 15, recordings at most d apart give margins at most d
-- apart or the same infinity, and where the margin is beyond d both verdicts are yes if it is positive and both are no if it is negative.
use mathlib.Core.Path.{◌≡◌}
use mathlib.Core.List.{List}
use Prim.Native.Nat.{ℕ, ◌≤◌, ◌<◌}
use lib.IntN.{ℤ, neg_ℤ, nat_abs, ◌-ℤ◌, neg_ℤ-+ℤ, neg_ℤ-neg_ℤ, +ℤ_assoc, +ℤ_comm, +ℤ_invl, +ℤ_idl}
use Rattle.logic.specs.Margin.{finite}
use Rattle.network.specs.Network.{Network}
use Rattle.formulas.specs.Formulas.{Line, Recording}
use Rattle.logic.specs.Table.{verdicts, margins, value_at}
use Rattle.logic.specs.Steadiness.{Near, SteadyVerdicts}
use Rattle.logic.proofs.Margins.{near_kept, near_negate}
use Rattle.counting.proofs.Lists.{all_any}
use Rattle.logic.proofs.TableKeeps.{value_at_kept}
use Rattle.logic.proofs.Agreement.{agreement, steady_verdicts}

-- the two atoms: a constant taken away from both, or both from it, leaves them as far apart
difference_turned : (x c : ℤ) → c -ℤ x ≡ neg_ℤ (x -ℤ c)
difference_turned x c = rw (neg_ℤ-+ℤ, neg_ℤ-neg_ℤ, +ℤ_comm c (neg_ℤ x))

pub same_shift : (x y c : ℤ) → (x -ℤ c) -ℤ (y -ℤ c) ≡ x -ℤ y
same_shift x y c = simp (neg_ℤ-+ℤ, neg_ℤ-neg_ℤ, +ℤ_assoc, +ℤ_comm (neg_ℤ y) c) (rw (← +ℤ_assoc (neg_ℤ c) c (neg_ℤ y), +ℤ_invl, +ℤ_idl))

at_least_near : (d : ℕ) (x y c : ℤ) → nat_abs (x -ℤ y) ≤ d → nat_abs ((x -ℤ c) -ℤ (y -ℤ c)) ≤ d
at_least_near d x y c h = rw same_shift h

at_most_near : (d : ℕ) (x y c : ℤ) → nat_abs (x -ℤ y) ≤ d → nat_abs ((c -ℤ x) -ℤ (c -ℤ y)) ≤ d
at_most_near d x y c h = rw (difference_turned x c, difference_turned y c) (near_negate d (finite (x -ℤ c)) (finite (y -ℤ c)) (at_least_near d x y c h))

pub steady : (d : ℕ) (N : Network) (x y : Recording) → ((s t l : ℕ) → nat_abs (x s t l -ℤ y s t l) ≤ d) → (lines : List Line)
    → (i t l : ℕ) → l < N.places → Near d (value_at margins N x lines i t l) (value_at margins N y lines i t l)
steady d N x y h lines = value_at_kept margins margins N (Near d) (near_kept d) (near_negate d) (λ _. Unit {0}) x y
    (λ s t l c _. at_least_near d (x s t l) (y s t l) c (h s t l)) (λ s t l c _. at_most_near d (x s t l) (y s t l) c (h s t l)) lines (all_any lines)

-- with their verdicts
pub values_steady : (d : ℕ) (N : Network) (x y : Recording) → ((s t l : ℕ) → nat_abs (x s t l -ℤ y s t l) ≤ d) → (lines : List Line) (i t l : ℕ) → l < N.places
    → SteadyVerdicts d (value_at verdicts N x lines i t l) (value_at verdicts N y lines i t l) (value_at margins N x lines i t l) (value_at margins N y lines i t l)
values_steady d N x y h lines i t l b =
    steady_verdicts d _ _ _ _ (steady d N x y h lines i t l b) (agreement N x lines i t l b) (agreement N y lines i t l b)
