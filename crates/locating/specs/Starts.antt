-- For inner contracts only: where the earlier lines' signals stand in the words of an answer.
use Rattle.std.specs.Prelude.{List, ℕ, ◌+◌, ◌-◌, ◌*◌, ◌<◌, ◌≤◌, ◌^◌, get_or}
use Rattle.checks.specs.Limits.{most_places}
use Rattle.lines.specs.declared.extent.Extent.{Extent}
use Rattle.lines.specs.Decoding.{extent_in}

-- an index is small enough for so many samples to be added
pub record StartsLow (starts : List ℕ) (places : ℕ) : Type 0 where
  pub few_places : places ≤ most_places
  pub low : (j : ℕ) → get_or starts j 0 < 2 ^ 62

-- the index of a line's sample: `starts` tells at which index the signal of each earlier line begins and `extents` with which sample; that of a line
-- that is not there begins at 0
abbrev pub start_at : List ℕ → List Extent → (places sample line : ℕ) → ℕ
start_at starts extents places sample j = get_or starts j 0 + (sample - (extent_in extents j).first) * places
