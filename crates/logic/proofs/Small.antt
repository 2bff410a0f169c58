-- Margins of samples and constants of 27 bits are below 2^27 in size, over every table: so they fit 28 bits and never are -2^27.
use mathlib.Core.List.{List}
use Prim.Native.Nat.{ℕ, zero, suc, ◌-◌, ◌<◌, ◌≤◌, ◌^◌}
use native.Mathlib.Omega.{arith}
use lib.IntN.{ℤ, pos, negsuc, nat_abs, ◌-ℤ◌}
use Rattle.logic.specs.Margin.{Margin, minus_infinity, finite, plus_infinity, at_most, negate, margin_lattice}
use Rattle.network.specs.Network.{Network}
use Rattle.formulas.specs.Formulas.{Line, Recording, InBits, ConstantIn, ConstantsIn}
use Rattle.logic.specs.Table.{margins, value_at}
use Rattle.logic.proofs.Keeps.{Keeps}
use Rattle.logic.proofs.Order.{UpZ, near_z, at_most_trans, at_most_total}
use Rattle.logic.proofs.TotalOrder.{each_kept}
use Rattle.logic.proofs.TableKeeps.{value_at_kept}

abbrev pub Small : Margin → Type 0
Small minus_infinity = Unit {0}
Small (finite z) = nat_abs z < 2 ^ 27
Small plus_infinity = Unit {0}

pub small_negate : (m : Margin) → Small m → Small (negate m)
small_negate minus_infinity h = tt
small_negate (finite (pos zero)) h = h
small_negate (finite (pos (suc x))) h = h
small_negate (finite (negsuc x)) h = h
small_negate plus_infinity h = tt

small_kept : Keeps margin_lattice margin_lattice (λ a _. Small a)
small_kept = each_kept at_most minus_infinity plus_infinity at_most_trans at_most_total Small tt tt

up_small : (a b : ℤ) → InBits 27 a → InBits 27 b → UpZ (2 ^ 27 - 1) a b
up_small (pos a) (pos b) h k = omega arith
up_small (pos a) (negsuc b) h k = omega arith
up_small (negsuc a) (pos b) h k = tt
up_small (negsuc a) (negsuc b) h k = omega arith

pub difference_small : (a b : ℤ) → InBits 27 a → InBits 27 b → nat_abs (a -ℤ b) < 2 ^ 27
difference_small a b h k =
    let s : nat_abs (a -ℤ b) ≤ (2 ^ 27 - 1) = (near_z (2 ^ 27 - 1) a b).1 (up_small a b h k, up_small b a k h) in
    omega arith

pub margins_small : (N : Network) (x : Recording) → ((s t l : ℕ) → InBits 27 (x s t l)) → (lines : List Line) → ConstantsIn (InBits 27) lines
    → (i t l : ℕ) → l < N.places → Small (value_at margins N x lines i t l)
margins_small N x h = value_at_kept margins margins N (λ a _. Small a) small_kept (λ a _. small_negate a) (ConstantIn (InBits 27)) x x
    (λ s t l c fit. difference_small (x s t l) c (h s t l) fit) (λ s t l c fit. difference_small c (x s t l) fit (h s t l))
