-- The last number below n that passes a test: it passes, and none after it does; one number more; none at all; tests that agree.
use mathlib.Core.Path.{◌≡◌, refl, sym, ap₂, subst}
use mathlib.Core.Bool.{Bool, false, cond}
use Prim.Native.Nat.{ℕ, zero, suc, ◌+◌, ◌<◌, ◌≤◌}
use mathlib.Core.Logic.{⊎_elim}
use native.Mathlib.Numerals.{add-one}
use native.Mathlib.Omega.{arith}
use lib.Dec.{T}
use Rattle.counting.proofs.Tests.{by_test, below}
use Rattle.clashes.specs.Chains.{last_below}

module _ (test : ℕ → Bool) where
  pub last_more : (n : ℕ) → last_below test (n + 1) ≡ cond (test n) (n + 1) (last_below test n)
  unfolding last_below
  last_more n = rw (add-one n) refl

  pub last_bound : (n : ℕ) → last_below test n ≤ n
  unfolding last_below
  last_bound zero = omega arith
  last_bound (suc n) = by_test (test n) (λ t. cond t (suc n) (last_below test n) ≤ suc n) (λ _. omega arith) (λ _. omega (arith, last_bound n))

  pub last_passes : (n i : ℕ) → last_below test n ≡ suc i → T (test i)
  unfolding last_below
  last_passes zero i e = absurd (omega arith)
  last_passes (suc n) i e = by_test (test n) (λ t. cond t (suc n) (last_below test n) ≡ suc i → T (test i))
      (λ h e. let same : n ≡ i = omega (arith, e) in subst (λ (m : ℕ). T (test m)) same h)
      (λ _ e. last_passes n i e)
      e

  pub none_after : (n i : ℕ) → last_below test n ≤ i → i < n → test i ≡ false
  unfolding last_below
  none_after zero i h l = absurd (omega arith)
  none_after (suc n) i h l = ⊎_elim
      (λ e. subst (λ (m : ℕ). test m ≡ false) (sym e) (by_test (test n) (λ t. cond t (suc n) (last_below test n) ≤ i → t ≡ false) (λ _ h. absurd (omega (arith, h))) (λ _ _. refl) h))
      (λ b. none_after n i (by_test (test n) (λ t. cond t (suc n) (last_below test n) ≤ i → last_below test n ≤ i) (λ _ h. absurd (omega (arith, h))) (λ _ h. h) h) b)
      (below l)

-- where none passes there is none
pub last_none : (test : ℕ → Bool) (n : ℕ) → ((i : ℕ) → i < n → T (test i) → ⊥) → last_below test n ≡ 0
unfolding last_below
last_none test zero h = refl
last_none test (suc n) h = by_test (test n) (λ t. (T t → ⊥) → cond t (suc n) (last_below test n) ≡ 0)
    (λ _ it. absurd (it tt))
    (λ _ _. last_none test n (λ i l. h i (omega arith)))
    (h n (omega arith))

pub last_same : (f g : ℕ → Bool) (n : ℕ) → ((i : ℕ) → i < n → f i ≡ g i) → last_below f n ≡ last_below g n
unfolding last_below
last_same f g zero h = refl
last_same f g (suc n) h = ap₂ (λ t m. cond t (suc n) m) (h n (omega arith)) (last_same f g n (λ i l. h i (omega arith)))
