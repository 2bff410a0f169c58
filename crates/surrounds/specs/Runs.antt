-- The runs of which a surround is made in lanes (M-101). Run 0 leaves nothing out, and run k + 1 leaves out the place k, whose left counts as the
-- lowest. Where islands count, run 0 is all. Else there is a run for each other place with a distance from the centre, and all those for a place beyond the
-- ball are run 0: the left of such a place is masked in any case. These are for contracts inside the engine: no promise to a host speaks of them.
use Rattle.std.specs.Prelude.{◌≡◌, Bool, true, not, cond, ◌&&◌, ◌||◌, ℕ, zero, suc, ◌<◌, ◌≤◌, eqb}
use Rattle.network.specs.Network.{Network, joined, within, reached}
use Rattle.logic.specs.Lattice.{Lattice, verdict_lattice, greatest_over}
use Rattle.logic.specs.Margin.{Margin, margin_lattice}
use Rattle.logic.specs.Surround.{surround}
use Rattle.logic.specs.Iteration.{except}
use Rattle.logic.specs.Counts.{run_rounds, surround_rounds}
use Rattle.counting.specs.Totals.{most_below}
use Rattle.codes.specs.declared.operator.Bounds.{Bounds}
use Rattle.values.specs.Chain.{chain_lattice, chain_margin}
use Rattle.lanes.specs.Lanes.{lanes, Numbers}
use Rattle.lanes.specs.Rows.{RowOf}

-- the values without those that a run leaves out
unfoldable pub left_out : (L : Lattice) → ℕ → (ℕ → L.Value) → ℕ → L.Value
left_out L zero left = left
left_out L (suc k) left = except L k left

-- so many runs there can be about a centre
abbrev pub runs_of : Bool → ℕ → ℕ
runs_of islands n = cond islands 1 (suc n)

-- what leaving out leaves in the lanes of a row
pub record LeftOut (run : ℕ) (before after : Numbers) : Type 0 where
  pub at : (place lane : ℕ) → lane < lanes → after lane place ≡ left_out chain_lattice run (before lane) place

-- which places lie in the ball about a centre, and which have a distance from it
module _ (inside there : ℕ → Bool) (n : ℕ) where
  -- some place with a distance lies beyond the ball
  unfoldable pub beyond : Bool
  beyond = greatest_over verdict_lattice there (λ k. not (inside k)) n

  -- which runs are made about the centre
  unfoldable pub is_made : ℕ → Bool → ℕ → Bool
  is_made centre islands zero = islands || beyond
  is_made centre islands (suc k) = not (eqb k centre) && inside k

-- rows of the operands
module _ (left right : Numbers) (N : Network) (b : Bounds) (islands : Bool) where
  abbrev margins : Numbers → ℕ → ℕ → Margin
  margins row lane l = chain_margin (row lane l)

  abbrev made : ℕ → ℕ → Bool
  made run centre = is_made (within N centre 0 b.upper) (reached N centre) N.places centre islands run

  -- the surround of one lane at a centre, and its rounds
  unfoldable pub lane_surround : ℕ → ℕ → ℕ
  lane_surround lane centre = surround chain_lattice (joined N) N.places islands (within N centre 0 b.upper) (within N centre b.lower b.upper) (left lane) (right lane) centre

  unfoldable pub lane_rounds : ℕ → ℕ → ℕ
  lane_rounds centre lane = surround_rounds N b.lower b.upper islands (margins left lane) (margins right lane) centre

  -- the surrounds of all centres in a row, with the greatest rounds of a lane
  pub record CentresDone (after : Numbers) (r : ℕ) : Type 0 where
    pub values : RowOf lane_surround after N.places
    pub rounds : r ≡ most_below (λ centre. most_below (lane_rounds centre) lanes) N.places

  -- what one run gives a lane at a centre, where it is made, and its rounds
  unfoldable pub run_surround : ℕ → ℕ → ℕ → ℕ
  run_surround run lane centre = cond (made run centre)
      (surround chain_lattice (joined N) N.places true (within N centre 0 b.upper) (within N centre b.lower b.upper) (left_out chain_lattice run (left lane)) (right lane) centre) 0

  unfoldable pub run_rounds_at : ℕ → ℕ → ℕ → ℕ
  run_rounds_at run centre lane = cond (made run centre)
      (run_rounds N b.lower b.upper (left_out margin_lattice run (margins left lane)) (margins right lane) centre) 0

  -- a run is made about the first k centres: what stands in the row is raised to what it gives, and is kept past them
  pub record RunDone (run k : ℕ) (before after : Numbers) (r : ℕ) : Type 0 where
    pub values : RowOf (λ lane centre. chain_lattice.join (before lane centre) (run_surround run lane centre)) after k
    pub kept : (place lane : ℕ) → k ≤ place → lane < lanes → after lane place ≡ before lane place
    pub rounds : r ≡ most_below (λ centre. most_below (run_rounds_at run centre) lanes) k

  -- the first k runs are made: the row has the greatest that they give
  pub record RunsDone (k : ℕ) (after : Numbers) (r : ℕ) : Type 0 where
    pub values : RowOf (λ lane centre. most_below (λ run. run_surround run lane centre) k) after N.places
    pub rounds : r ≡ most_below (λ run. most_below (λ centre. most_below (run_rounds_at run centre) lanes) N.places) k

  -- a run about one centre: what stands there is raised to what it gives, and is kept elsewhere
  pub record CentreRun (run centre : ℕ) (before after : Numbers) (r : ℕ) : Type 0 where
    pub raised : (lane : ℕ) → lane < lanes → after lane centre ≡ chain_lattice.join (before lane centre) (run_surround run lane centre)
    pub kept : (place lane : ℕ) → lane < lanes → (place ≡ centre → ⊥) → after lane place ≡ before lane place
    pub rounds : r ≡ most_below (run_rounds_at run centre) lanes
