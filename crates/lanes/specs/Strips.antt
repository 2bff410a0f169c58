-- What the loops over the lanes of one strip do. These are for contracts inside the engine: no promise to a host speaks of them.
use Rattle.std.specs.Prelude.{◌≡◌, Bool, true, false, List, ℕ, ◌<◌, get_or}

-- the first k numbers of a strip
pub record Held (k : ℕ) (f : ℕ → ℕ) (strip : List ℕ) : Type 0 where
  pub at : (lane : ℕ) → lane < k → get_or strip lane 0 ≡ f lane

-- whether a reading h tells two strips apart in one of the first k lanes
pub record StripsApart (r : Bool) (h : ℕ → ℕ) (a b : List ℕ) (k : ℕ) : Type 0 where
  pub alike : r ≡ false → (lane : ℕ) → lane < k → h (get_or a lane 0) ≡ h (get_or b lane 0)
  pub apart : r ≡ true → (lane : ℕ) × (lane < k) × (h (get_or a lane 0) ≡ h (get_or b lane 0) → ⊥)
