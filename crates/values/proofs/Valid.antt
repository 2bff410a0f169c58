-- Valid chain numbers: those of a no are the even ones up to 2^28, those of a yes the odd ones above it. The operations keep them, and each is
-- determined by its margin and its verdict.
use mathlib.Core.Path.{◌≡◌, refl, sym, ap₂, ◌∙◌}
use mathlib.Core.Logic.{◌⊎◌, inl, inr, ⊎_elim}
use Prim.Native.Nat.{ℕ, ◌+◌, ◌*◌, ◌/◌, ◌%◌, ◌<◌, ◌≤◌, ◌^◌, zero-le}
use native.Mathlib.Omega.{arith}
use lib.Dec.{leb}
use lib.IntN.{ℤ, pos, negsuc, nat_abs}
use borrow.Author.Tests.{lt-ltb, le-ltb, le-leb}
use Rattle.logic.proofs.Keeps.{Keeps}
use Rattle.logic.proofs.TotalOrder.{each_kept}
use Rattle.values.specs.Chain.{highest, chain_of, chain_margin, chain_verdict, Valid, chain_lattice, chain_opposite, chain_difference}
use Rattle.values.proofs.Naturals.{le_or_lt, leb_trans, leb_total}
use Rattle.values.proofs.Codes.{code_at}

-- ---- the two kinds
valid_no : (c : ℕ) → c ≤ 2 ^ 28 → c % 2 ≡ 0 → Valid c
valid_no c low even = record { bounded = omega arith; agrees = rw (le-ltb (2 ^ 28) c low) even }

valid_yes : (c : ℕ) → 2 ^ 28 < c → c ≤ highest → c % 2 ≡ 1 → Valid c
valid_yes c high h odd = record { bounded = h; agrees = rw (lt-ltb (2 ^ 28) c high) odd }

pub kinds : (c : ℕ) → Valid c → ((c ≤ 2 ^ 28) × (c % 2 ≡ 0)) ⊎ ((2 ^ 28 < c) × (c % 2 ≡ 1))
kinds c valid = ⊎_elim
    (λ low. inl (low, valid.agrees ∙ simp (le-ltb (2 ^ 28) c low)))
    (λ high. inr (high, valid.agrees ∙ simp (lt-ltb (2 ^ 28) c high)))
    (le_or_lt c (2 ^ 28))

-- ---- they are kept
pub valid_kept : Keeps chain_lattice chain_lattice (λ c _. Valid c)
valid_kept = each_kept leb 0 highest leb_trans leb_total Valid (valid_yes highest (omega arith) (omega arith) refl) (valid_no 0 zero-le refl)

pub valid_opposite : (c : ℕ) → Valid c → Valid (chain_opposite c)
valid_opposite c valid = let b = valid.bounded in ⊎_elim
    (λ no. valid_yes (chain_opposite c) (omega arith) (omega arith) (omega arith))
    (λ yes. valid_no (chain_opposite c) (omega arith) (omega arith))
    (kinds c valid)

pub valid_difference : (z : ℤ) → nat_abs z < 2 ^ 27 → Valid (chain_difference z)
valid_difference (pos x) h = rw (le-leb 0 x zero-le) (valid_yes (2 * (2 ^ 27 + x) + 1) (omega arith) (omega arith) (omega arith))
valid_difference (negsuc x) h = valid_no (chain_difference (negsuc x)) (omega arith) (omega arith)

-- ---- they are determined by margin and verdict
pub recovered : (c : ℕ) → Valid c → chain_of (chain_verdict c) (chain_margin c) ≡ c
recovered c valid = omega (arith, code_at (c / 2) (omega (arith, valid.bounded)), valid.agrees)

pub determined : (a b : ℕ) → Valid a → Valid b → chain_margin a ≡ chain_margin b → chain_verdict a ≡ chain_verdict b → a ≡ b
determined a b va vb m v = sym (recovered a va) ∙ ap₂ chain_of v m ∙ recovered b vb
