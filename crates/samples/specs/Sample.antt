-- For inner contracts only: the values of one sample, one for each place, or among those of several, every `stride`-th number from `offset` on.
use Rattle.std.specs.Prelude.{List, ℕ, ◌+◌, ◌*◌, ◌<◌, ◌≤◌, length, get_or}
use Rattle.values.specs.Chain.{highest}

abbrev pub entry : List ℕ → ℕ → ℕ → ℕ → ℕ
entry values stride offset l = get_or values (l * stride + offset) 0

-- a chain number for each place
pub record SampleThere (values : List ℕ) (stride offset places : ℕ) : Type 0 where
  pub inside : (l : ℕ) → l < places → l * stride + offset < length values
  pub bound : (l : ℕ) → l < places → entry values stride offset l ≤ highest

-- each is a chain number
abbrev pub ValuesThere : List ℕ → Type 0
ValuesThere values = (l : ℕ) → l < length values → get_or values l 0 ≤ highest
