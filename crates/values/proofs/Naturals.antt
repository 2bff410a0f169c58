-- The order of natural numbers, as a case and as a test, and the lesser and the greater by it.
use mathlib.Core.Logic.{◌⊎◌, inl, inr, ⊎_elim}
use mathlib.Core.Path.{◌≡◌}
use Prim.Native.Nat.{ℕ, ◌<◌, ◌≤◌, min, max}
use native.Mathlib.Nat.{le_trans}
use native.Mathlib.Omega.{arith}
use lib.Dec.{T, leb, le→leb, leb→le, nleb→lt}
use Rattle.logic.proofs.TotalOrder.{meet_by, join_by}
use Rattle.counting.proofs.Tests.{dec_T}
use Rattle.values.specs.Chain.{chain_lattice, highest}

pub le_or_lt : (a b : ℕ) → (a ≤ b) ⊎ (b < a)
le_or_lt a b = ⊎_elim (λ h. inl (leb→le a b h)) (λ h. inr (nleb→lt a b h)) (dec_T (leb a b))

pub leb_trans : (a b c : ℕ) → T (leb a b) → T (leb b c) → T (leb a c)
leb_trans a b c h k = le→leb a c (le_trans (leb→le a b h) (leb→le b c k))

pub leb_total : (a b : ℕ) → T (leb a b) ⊎ T (leb b a)
leb_total a b = ⊎_elim (λ h. inl (le→leb a b h)) (λ h. inr (le→leb b a (omega arith))) (le_or_lt a b)

pub meet_min : (a b : ℕ) → chain_lattice.meet a b ≡ min a b
meet_min a b = meet_by leb 0 highest leb_trans leb_total (λ m. m ≡ min a b) a b (λ h. let k = leb→le a b h in omega arith) (λ h. let k = leb→le b a h in omega arith)

pub join_max : (a b : ℕ) → chain_lattice.join a b ≡ max a b
join_max a b = join_by leb 0 highest leb_trans leb_total (λ m. m ≡ max a b) a b (λ h. let k = leb→le a b h in omega arith) (λ h. let k = leb→le b a h in omega arith)
