-- The sum and the greatest of f below n: one number more, the same numbers, bounds, parts, and how many verdicts can be a yes.
use mathlib.Core.Path.{◌≡◌, refl, ap₂}
use mathlib.Core.Logic.{◌⊎◌, inl, inr, ⊎_elim}
use mathlib.Core.Bool.{Bool, true, false, cond}
use Prim.Native.Nat.{ℕ, zero, suc, ◌+◌, ◌*◌, ◌<◌, ◌≤◌, zero-le, max}
use native.Mathlib.Nat.{not-suc-le-zero, suc-mul, add-zero, add-suc, le_trans, le_antisymm}
use native.Mathlib.Numerals.{add-one}
use native.Mathlib.Decide.{dec_lt}
use native.Mathlib.Omega.{arith}
use lib.Dec.{T, lit≤}
use Rattle.counting.specs.Totals.{count, sum_below, most_below, most_over}
use Rattle.counting.proofs.Tests.{holds, by_test, below}

-- ---- sums
pub sum_more : (f : ℕ → ℕ) (n : ℕ) → sum_below f (n + 1) ≡ sum_below f n + f n
unfolding sum_below
sum_more f n = rw (add-one n) refl

pub sum_same : (f g : ℕ → ℕ) (n : ℕ) → ((i : ℕ) → i < n → f i ≡ g i) → sum_below f n ≡ sum_below g n
unfolding sum_below
sum_same f g zero h = refl
sum_same f g (suc n) h = ap₂ ◌+◌ (sum_same f g n (λ i l. h i (omega arith))) (h n (omega arith))

pub sum_parts : (f : ℕ → ℕ) (a b : ℕ) → sum_below f (a + b) ≡ sum_below f a + sum_below (λ i. f (a + i)) b
unfolding sum_below
sum_parts f a zero = rw (add-zero a) (omega arith)
sum_parts f a (suc b) = rw (add-suc a b) (omega (arith, sum_parts f a b))

-- a sum is no less than that of the first numbers
pub sum_below_lem : (f : ℕ → ℕ) (i n : ℕ) → i < n → sum_below f i + f i ≤ sum_below f n
unfolding sum_below
sum_below_lem f i zero h = absurd (not-suc-le-zero h)
sum_below_lem f i (suc n) h = ⊎_elim (λ e. rw e (omega arith)) (λ l. omega (arith, sum_below_lem f i n l)) (below h)

pub sum_le : (f g : ℕ → ℕ) (n : ℕ) → ((i : ℕ) → i < n → f i ≤ g i) → sum_below f n ≤ sum_below g n
unfolding sum_below
sum_le f g zero h = zero-le
sum_le f g (suc n) h = omega (arith, sum_le f g n (λ i l. h i (omega arith)), h n (omega arith))

pub sum_lt : (f g : ℕ → ℕ) (n k : ℕ) → ((i : ℕ) → i < n → f i ≤ g i) → k < n → f k < g k → sum_below f n < sum_below g n
unfolding sum_below
sum_lt f g zero k h b l = absurd (not-suc-le-zero b)
sum_lt f g (suc n) k h b l = ⊎_elim
    (λ e. let m : f n < g n = rw e at l in omega (arith, sum_le f g n (λ i c. h i (omega arith))))
    (λ c. omega (arith, sum_lt f g n k (λ i d. h i (omega arith)) c l, h n (omega arith)))
    (below b)

pub sum_bound : (f : ℕ → ℕ) (n b : ℕ) → ((i : ℕ) → i < n → f i ≤ b) → sum_below f n ≤ n * b
unfolding sum_below
sum_bound f zero b h = zero-le
sum_bound f (suc n) b h = rw suc-mul (omega (arith, sum_bound f n b (λ i l. h i (omega arith)), h n (omega arith)))

-- ---- yes verdicts
pub count_one : (a : Bool) → count a ≤ 1
count_one true = lit≤ tt
count_one false = lit≤ tt

-- at most one for each number
pub yes_bound : (verdict : ℕ → Bool) (n : ℕ) → sum_below (λ l. count (verdict l)) n ≤ n
yes_bound verdict n = omega (arith, sum_bound (λ l. count (verdict l)) n 1 (λ l _. count_one (verdict l)))

-- at most one for each sample and place
pub table_yes_bound : (verdict : ℕ → ℕ → Bool) (samples n : ℕ) → sum_below (λ t. sum_below (λ l. count (verdict t l)) n) samples ≤ samples * n
table_yes_bound verdict samples n = sum_bound _ samples n (λ t _. yes_bound (verdict t) n)

-- ---- greatest numbers
pub most_more : (f : ℕ → ℕ) (n : ℕ) → most_below f (n + 1) ≡ max (most_below f n) (f n)
unfolding most_below
most_more f n = rw (add-one n) refl

pub most_same : (f g : ℕ → ℕ) (n : ℕ) → ((i : ℕ) → i < n → f i ≡ g i) → most_below f n ≡ most_below g n
unfolding most_below
most_same f g zero h = refl
most_same f g (suc n) h = ap₂ max (most_same f g n (λ i l. h i (omega arith))) (h n (omega arith))

pub most_parts : (f : ℕ → ℕ) (a b : ℕ) → most_below f (a + b) ≡ max (most_below f a) (most_below (λ i. f (a + i)) b)
unfolding most_below
most_parts f a zero = rw (add-zero a) (omega arith)
most_parts f a (suc b) = rw (add-suc a b) (omega (arith, most_parts f a b))

pub most_le : (f : ℕ → ℕ) (n b : ℕ) → ((i : ℕ) → i < n → f i ≤ b) → most_below f n ≤ b
unfolding most_below
most_le f zero b h = zero-le
most_le f (suc n) b h = omega (arith, most_le f n b (λ i l. h i (omega arith)), h n (omega arith))

pub le_most : (f : ℕ → ℕ) (n i : ℕ) → i < n → f i ≤ most_below f n
unfolding most_below
le_most f zero i l = absurd (not-suc-le-zero l)
le_most f (suc n) i l = ⊎_elim (λ e. rw e (omega arith)) (λ k. omega (arith, le_most f n i k)) (below l)

-- it is reached, unless it is 0
abbrev pub Reached : (ℕ → ℕ) → (n most : ℕ) → Type 0
Reached f n most = (most ≡ 0) ⊎ ((i : ℕ) × (i < n) × (f i ≡ most))

pub most_reached : (f : ℕ → ℕ) (n : ℕ) → Reached f n (most_below f n)
unfolding most_below
most_reached f zero = inl refl
most_reached f (suc n) = by_last (dec_lt (most_below f n) (f n)) (most_reached f n)
  where
    by_last : Dec (most_below f n < f n) → Reached f n (most_below f n) → Reached f (suc n) (max (most_below f n) (f n))
    by_last (yes h) before = inr (n, omega arith, omega arith)
    by_last (no h) (inl none) = inl (omega arith)
    by_last (no h) (inr (i, l, e)) = inr (i, omega arith, omega arith)

-- where a test passes
pub over_le : (test : ℕ → Bool) (f : ℕ → ℕ) (n b : ℕ) → ((i : ℕ) → i < n → T (test i) → f i ≤ b) → most_over test f n ≤ b
over_le test f n b h = most_le _ n b (λ i l. by_test (test i) (λ t. cond t (f i) 0 ≤ b) (h i l) (λ _. zero-le))

pub le_over : (test : ℕ → Bool) (f : ℕ → ℕ) (n i : ℕ) → i < n → T (test i) → f i ≤ most_over test f n
le_over test f n i l t = let h : cond (test i) (f i) 0 ≤ most_over test f n = le_most (λ k. cond (test k) (f k) 0) n i l in rw (holds (test i) t) at h

pub over_reached : (test : ℕ → Bool) (f : ℕ → ℕ) (n : ℕ) → (most_over test f n ≡ 0) ⊎ ((i : ℕ) × (i < n) × T (test i) × (f i ≡ most_over test f n))
over_reached test f n = ⊎_elim inl
    (λ r. by_test (test r.0) (λ t. cond t (f r.0) 0 ≡ most_over test f n → (most_over test f n ≡ 0) ⊎ ((i : ℕ) × (i < n) × T (test i) × (f i ≡ most_over test f n)))
    (λ passes e. inr (r.0, r.1, passes, e)) (λ _ e. inl (omega arith)) r.2)
    (most_reached (λ k. cond (test k) (f k) 0) n)

-- numbers from k on that are no greater than one before them
pub most_front : (f : ℕ → ℕ) (k n j : ℕ) → k ≤ n → j < k → ((i : ℕ) → k ≤ i → i < n → f i ≤ f j) → most_below f n ≡ most_below f k
most_front f k n j h b low = le_antisymm
    (most_le f n (most_below f k) (λ i l. at i l (dec_lt i k)))
    (most_le f k (most_below f n) (λ i l. le_most f n i (omega arith)))
  where
    at : (i : ℕ) → i < n → Dec (i < k) → f i ≤ most_below f k
    at i l (yes c) = le_most f k i c
    at i l (no c) = let u = low i (omega arith) l in omega (arith, le_most f k j b)

-- of a table, by rows or by columns
most_swap_le : (f : ℕ → ℕ → ℕ) (n m : ℕ) → most_below (λ i. most_below (f i) m) n ≤ most_below (λ j. most_below (λ i. f i j) n) m
most_swap_le f n m = most_le _ n _ (λ i a. most_le (f i) m _ (λ j b. le_trans (le_most (λ k. f k j) n i a) (le_most (λ k. most_below (λ i. f i k) n) m j b)))

pub most_swap : (f : ℕ → ℕ → ℕ) (n m : ℕ) → most_below (λ i. most_below (f i) m) n ≡ most_below (λ j. most_below (λ i. f i j) n) m
most_swap f n m = le_antisymm (most_swap_le f n m) (most_swap_le (λ j i. f i j) m n)

-- of a table of zeros
pub most_none : (n m : ℕ) → 0 ≡ most_below (λ _. most_below (λ _. 0) m) n
most_none n m = omega (arith, most_le (λ _. most_below (λ _. 0) m) n 0 (λ _ _. most_le (λ _. 0) m 0 (λ _ _. omega arith)))
