-- The margin and the verdict of a chain number. Both maps are monotone, so they go through lesser and greater; they also go through the opposite,
-- and of a difference they are what the atoms say.
use mathlib.Core.Path.{◌≡◌, refl, ap, ◌∙◌}
use mathlib.Core.Logic.{⊎_elim}
use mathlib.Core.Bool.{Bool, not}
use Prim.Native.Nat.{ℕ, suc, ◌+◌, ◌-◌, ◌*◌, ◌/◌, ◌<◌, ◌^◌, zero-le}
use native.Mathlib.Omega.{arith}
use lib.Dec.{leb, leb→le}
use lib.IntN.{ℤ, pos, negsuc, nat_abs}
use lib.Signed.{le_z}
use borrow.Author.Tests.{lt-ltb, le-ltb, le-leb}
use Rattle.logic.specs.Lattice.{verdict_lattice}
use Rattle.logic.specs.Margin.{Margin, minus_infinity, finite, plus_infinity, at_most, negate, margin_lattice}
use Rattle.logic.proofs.Keeps.{Keeps}
use Rattle.logic.proofs.Order.{at_most_trans, at_most_anti, at_most_total}
use Rattle.logic.proofs.Small.{Small}
use Rattle.logic.proofs.TotalOrder.{at_least}
use Rattle.logic.proofs.Monotone.{monotone_kept}
use Rattle.values.specs.Chain.{margin_code, margin_at, highest, chain_of, chain_margin, chain_verdict, chain_lattice, chain_opposite, chain_difference}
use Rattle.values.proofs.Naturals.{le_or_lt, leb_trans, leb_total}
use Rattle.values.proofs.Codes.{at_infinite, at_code, at_monotone, at_negate}
use Rattle.values.proofs.Machine.{byte_count}

-- ---- margins
pub margin_kept : Keeps chain_lattice margin_lattice (λ c m. chain_margin c ≡ m)
unfolding margin_at
margin_kept = monotone_kept leb 0 highest leb_trans leb_total at_most minus_infinity plus_infinity at_most_trans at_most_total at_most_anti
    chain_margin (λ a b h. let k = leb→le a b h in at_monotone (a / 2) (b / 2) (omega arith)) refl refl

pub margin_opposite : (c : ℕ) → chain_margin (chain_opposite c) ≡ negate (chain_margin c)
unfolding margin_at
margin_opposite c = ⊎_elim
    (λ h. let e : chain_opposite c / 2 ≡ 2 ^ 28 - c / 2 = omega arith in ap margin_at e ∙ at_negate (c / 2) (omega arith))
    (λ h. let e : chain_opposite c ≡ 0 = omega arith in rw (e, at_infinite (c / 2) (omega arith)) refl)
    (le_or_lt c highest)

pub margin_of : (v : Bool) (m : Margin) → Small m → chain_margin (chain_of v m) ≡ m
margin_of v m s =
    let e : chain_of v m / 2 ≡ margin_code m = omega (arith, byte_count v) in
    ap margin_at e ∙ at_code m s

pub margin_difference : (z : ℤ) → nat_abs z < 2 ^ 27 → chain_margin (chain_difference z) ≡ finite z
margin_difference z h = margin_of (le_z (pos 0) z) (finite z) h

-- ---- verdicts
pub verdict_kept : Keeps chain_lattice verdict_lattice (λ c v. chain_verdict c ≡ v)
verdict_kept = at_least leb 0 highest leb_trans leb_total (suc (2 ^ 28)) tt tt

pub verdict_opposite : (c : ℕ) → chain_verdict (chain_opposite c) ≡ not (chain_verdict c)
verdict_opposite c = ⊎_elim
    (λ no. simp (le-ltb (2 ^ 28) c no, lt-ltb (2 ^ 28) (chain_opposite c) (omega arith)))
    (λ yes. simp (lt-ltb (2 ^ 28) c yes, le-ltb (2 ^ 28) (chain_opposite c) (omega arith)))
    (le_or_lt c (2 ^ 28))

pub verdict_difference : (z : ℤ) → nat_abs z < 2 ^ 27 → chain_verdict (chain_difference z) ≡ le_z (pos 0) z
verdict_difference (pos x) h = rw (le-leb 0 x zero-le) (lt-ltb (2 ^ 28) (2 * (2 ^ 27 + x) + 1) (omega arith))
verdict_difference (negsuc x) h = le-ltb (2 ^ 28) (chain_difference (negsuc x)) (omega arith)
