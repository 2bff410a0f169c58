-- The greatest and the sum of numbers below n, and how many tests pass.
use Rattle.std.specs.Prelude.{Bool, true, false, cond, ℕ, zero, suc, ◌+◌, max}

-- the greatest of f below n, 0 for none
unfoldable pub most_below : (ℕ → ℕ) → ℕ → ℕ
most_below f zero = 0
most_below f (suc n) = max (most_below f n) (f n)

-- the greatest of f below n where the test passes, 0 where it passes nowhere
abbrev pub most_over : (ℕ → Bool) → (ℕ → ℕ) → ℕ → ℕ
most_over test f = most_below (λ k. cond (test k) (f k) 0)

-- and the sum
unfoldable pub sum_below : (ℕ → ℕ) → ℕ → ℕ
sum_below f zero = 0
sum_below f (suc n) = sum_below f n + f n

abbrev pub count : Bool → ℕ
count true = 1
count false = 0
