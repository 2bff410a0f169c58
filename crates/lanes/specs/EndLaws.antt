-- The laws of the two ends: of no number, of one number more, and of numbers that are the same.
use mathlib.Core.Path.{◌≡◌, refl}
use mathlib.Core.Bool.{Bool, true, false}
use Prim.Native.Nat.{ℕ, zero, suc, ◌+◌, ◌<◌, ◌≤◌}
use native.Mathlib.Numerals.{add-one}
use native.Mathlib.Omega.{arith}
use Rattle.logic.specs.Lattice.{least_over, greatest_over}
use Rattle.logic.proofs.Keeps.{same_kept, least_kept, greatest_kept}
use Rattle.values.specs.Chain.{chain_lattice, highest}
use Rattle.values.proofs.Naturals.{meet_min, join_max}

pub least_small : (test : ℕ → Bool) (f : ℕ → ℕ) (n : ℕ) → least_over chain_lattice test f n ≤ highest
unfolding least_over
least_small test f zero = omega arith
least_small test f (suc n) = rw meet_min (omega (arith, least_small test f n))

module _ (test : ℕ → Bool) (f : ℕ → ℕ) where
  pub least_none : least_over chain_lattice test f 0 ≡ highest
  unfolding least_over
  least_none = refl

  pub greatest_none : greatest_over chain_lattice test f 0 ≡ 0
  unfolding greatest_over
  greatest_none = refl

  module _ (k : ℕ) where
    pub least_more : test k ≡ true → least_over chain_lattice test f (k + 1) ≡ chain_lattice.meet (least_over chain_lattice test f k) (f k)
    unfolding least_over
    least_more e = rw (add-one k, e) refl

    pub greatest_more : test k ≡ true → greatest_over chain_lattice test f (k + 1) ≡ chain_lattice.join (greatest_over chain_lattice test f k) (f k)
    unfolding greatest_over
    greatest_more e = rw (add-one k, e) refl

    pub least_past : test k ≡ false → least_over chain_lattice test f (k + 1) ≡ least_over chain_lattice test f k
    unfolding least_over
    least_past e = rw (add-one k, e, meet_min) (omega (arith, least_small test f k))

    pub greatest_past : test k ≡ false → greatest_over chain_lattice test f (k + 1) ≡ greatest_over chain_lattice test f k
    unfolding greatest_over
    greatest_past e = rw (add-one k, e, join_max) (omega arith)

  module _ (g : ℕ → ℕ) (n : ℕ) (same : (k : ℕ) → k < n → f k ≡ g k) where
    pub least_same : least_over chain_lattice test f n ≡ least_over chain_lattice test g n
    least_same = least_kept chain_lattice chain_lattice (λ u v. u ≡ v) (same_kept chain_lattice) test f g n (λ k b _. same k b)

    pub greatest_same : greatest_over chain_lattice test f n ≡ greatest_over chain_lattice test g n
    greatest_same = greatest_kept chain_lattice chain_lattice (λ u v. u ≡ v) (same_kept chain_lattice) test f g n (λ k b _. same k b)
