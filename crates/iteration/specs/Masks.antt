-- The rows of a centre: the left operand masked by the ball about it, the right one by both bounds. These are for contracts inside the engine: no promise
-- to a host speaks of them.
use Rattle.std.specs.Prelude.{◌≡◌, Bool, true, cond, List, ℕ, ◌+◌, ◌<◌, length, get_or}
use Rattle.codes.specs.declared.operator.Bounds.{Bounds}
use Rattle.distances.specs.declared.table.Distances.{Distances}
use Rattle.lanes.specs.declared.Place.{Place}
use Rattle.lanes.specs.Lanes.{lanes, left_row, right_row, ring_row, x_row, place_at, row_in}
use Rattle.lanes.specs.Rows.{RowOf, Kept, KeptPast, within, Marked, masked_by}
use Rattle.iteration.specs.WorkRows.{operands, LowOutside}

-- the ball ends where the ring does, and begins at the centre
abbrev pub ball_of : Bounds → Bounds
ball_of b = record { lower = 0; upper = b.upper }

-- x has the left operand, and the ring the right one, or the lowest number; all else is kept
pub record PlaceMasked (ring : Bool) (before after : Place) : Type 0 where
  pub left_there : after.x ≡ before.left
  pub right_there : (lane : ℕ) → lane < lanes → get_or after.ring lane 0 ≡ cond ring (get_or before.right lane 0) 0
  pub former_kept : after.former ≡ before.former
  pub both_kept : after.both ≡ before.both
  pub kept : operands after ≡ operands before

-- the flags of the first k places are those of the ball about a centre, x is the left row masked by the ball, and the ring the right row masked by the bounds;
-- in the ball the strips beside x and the ring are kept, and outside all strips to work in are lowest
pub record CentreMasked (n : ℕ) (distances : List ℕ) (b : Bounds) (centre k : ℕ) (before : List Place) (inside : List Bool) (after : List Place) : Type 0 where
  pub ball : Marked (within distances n centre (ball_of b)) inside k
  pub left_masked : RowOf (masked_by (within distances n centre (ball_of b)) (row_in before left_row)) (row_in after x_row) k
  pub right_masked : RowOf (masked_by (within distances n centre b) (row_in before right_row)) (row_in after ring_row) k
  pub former_kept : (p : ℕ) → p < k → within distances n centre (ball_of b) p ≡ true → (place_at after p).former ≡ (place_at before p).former
  pub both_kept : (p : ℕ) → p < k → within distances n centre (ball_of b) p ≡ true → (place_at after p).both ≡ (place_at before p).both
  pub kept : Kept operands before after
  pub past : KeptPast k before after
  pub low : LowOutside inside after

-- ---- by the distances that are lent

-- there is a flag for each place
abbrev pub FlagsFor : Distances → List Bool → Type 0
FlagsFor d inside = length inside ≡ d.places

module _ (d : Distances) (b : Bounds) (centre k : ℕ) where
  abbrev pub MaskedBelow : List Place → List Bool → List Place → Type 0
  MaskedBelow = CentreMasked d.places d.table.now b centre k

-- where the first k places are masked, one more is
abbrev pub MaskedNext : (d : Distances) (b : Bounds) (centre k : ℕ) (inside : List Bool) (rows : List Place) (inside' : List Bool) (rows' : List Place) → Type 0
MaskedNext d b centre k inside rows inside' rows' = (before : List Place) → MaskedBelow d b centre k before inside rows → MaskedBelow d b centre (k + 1) before inside' rows'

-- one place more can be masked about a centre
abbrev pub NextReady : Distances → (centre place : ℕ) → List Bool → List Place → Type 0
NextReady d centre place inside rows = (centre < d.places) × (place < d.places) × FlagsFor d inside × LowOutside inside rows
