-- A family of sets of numbers below n that only loses numbers, stays at rest once it rests, and rests at once where it begins with all of them,
-- rests after n - 1 steps at the latest: each step before loses a number, and a first step that loses one starts from fewer than all n. Rounds
-- and the bound on distances are instances.
use mathlib.Core.Logic.{◌⊎◌, inl, inr, ⊎_elim}
use mathlib.Core.Bool.{Bool, true, false, not}
use Prim.Native.Nat.{ℕ, zero, suc, ◌+◌, ◌<◌, ◌≤◌, zero-le}
use native.Mathlib.Nat.{not-suc-le-zero, lt-suc_self, le-suc, le_trans}
use native.Mathlib.Decide.{le_ind}
use native.Mathlib.Omega.{arith}
use lib.Dec.{T, T_not, lit≤}
use Rattle.counting.specs.Totals.{count, sum_below}
use Rattle.counting.proofs.Tests.{below, dec_T}
use Rattle.counting.proofs.Totals.{count_one, yes_bound}

count_le : (a b : Bool) → (T a → T b) → count a ≤ count b
count_le true true f = lit≤ tt
count_le true false f = absurd (f tt)
count_le false b f = zero-le

count_lt : (a b : Bool) → T (not a) → T b → count a < count b
count_lt true b h k = absurd h
count_lt false true h k = lit≤ tt
count_lt false false h k = absurd k

count_full : (a : Bool) → 1 ≤ count a → T a
count_full true h = tt
count_full false h = not-suc-le-zero h

-- how many numbers below n pass f
abbrev passing : (ℕ → Bool) → ℕ → ℕ
passing f n = sum_below (λ l. count (f l)) n

full : (f : ℕ → Bool) (n : ℕ) → n ≤ passing f n → (l : ℕ) → l < n → T (f l)
unfolding sum_below
full f zero h l b = absurd (not-suc-le-zero b)
full f (suc n) h l b = ⊎_elim
    (λ e. rw e (count_full (f n) (omega (arith, yes_bound f n))))
    (λ c. full f n (omega (arith, count_one (f n))) l c)
    (below b)

-- a smaller set is the same, or has a smaller count
module _ (f g : ℕ → Bool) where
  lose : (n : ℕ) → ((l : ℕ) → l < n → T (g l) → T (f l)) → (((l : ℕ) → l < n → T (f l) → T (g l)) × (passing g n ≤ passing f n)) ⊎ (passing g n < passing f n)
  unfolding sum_below
  lose zero s = inl (λ l b. absurd (not-suc-le-zero b), zero-le)
  lose (suc n) s = ⊎_elim
      (λ r. ⊎_elim
      (λ (u : T (g n)). inl (λ l b a. ⊎_elim (λ e. rw e u) (λ c. r.0 l c a) (below b), omega (arith, count_le (g n) (f n) (s n (lt-suc_self n)), r.1)))
      (λ (u : T (not (g n))). ⊎_elim
      (λ (v : T (f n)). inr (omega (arith, count_lt (g n) (f n) u v, r.1)))
      (λ (v : T (not (f n))). inl (λ l b a. ⊎_elim (λ e. absurd (T_not (f n) v (rw e at a))) (λ c. r.0 l c a) (below b), omega (arith, count_le (g n) (f n) (s n (lt-suc_self n)), r.1)))
      (dec_T (f n)))
      (dec_T (g n)))
      (λ r. inr (omega (arith, r, count_le (g n) (f n) (s n (lt-suc_self n)))))
      (lose n (λ l b. s l (le_trans b (le-suc n))))

-- at step i nothing is lost
abbrev pub Rest : (ℕ → ℕ → Bool) → ℕ → ℕ → Type 0
Rest C n i = (l : ℕ) → l < n → T (C i l) → T (C (suc i) l)

module _ (C : ℕ → ℕ → Bool) (n : ℕ) (loses : (i l : ℕ) → T (C (suc i) l) → T (C i l)) (rest_suc : (i : ℕ) → Rest C n i → Rest C n (suc i))
    (rest_full : ((l : ℕ) → l < n → T (C 0 l)) → Rest C n 0) where
  falls : (i : ℕ) → Rest C n i ⊎ (passing (C (suc i)) n < passing (C i) n)
  falls i = ⊎_elim (λ r. inl r.0) inr (lose (C i) (C (suc i)) n (λ l b h. loses i l h))

  fall : (i : ℕ) → Rest C n i ⊎ (passing (C (suc i)) n + suc i ≤ passing (C 0) n)
  fall zero = ⊎_elim inl (λ h. inr (omega arith)) (falls zero)
  fall (suc i) = ⊎_elim
      (λ r. inl (rest_suc i r))
      (λ h. ⊎_elim inl (λ k. inr (omega arith)) (falls (suc i)))
      (fall i)

  pub settles : (m : ℕ) → n ≤ suc m → Rest C n m
  settles m b = ⊎_elim
      (λ r. r)
      (λ h. le_ind (Rest C n) (rest_full (full (C 0) n (omega arith))) (λ i _ r. rest_suc i r) m zero-le)
      (fall m)
