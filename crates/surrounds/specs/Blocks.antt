-- What is done for a block of samples: the rows of the operands are read once, and masked, settled and written centre by centre. These are for contracts
-- inside the engine: no promise to a host speaks of them.
use Rattle.std.specs.Prelude.{◌≡◌, Bool, not, List, [], ℕ, ◌+◌, ◌*◌, ◌<◌, ◌≤◌, ◌^◌, eqb, length, get_or}
use Rattle.words.specs.Bytes.{words_of, numbers_of}
use Rattle.network.specs.Distance.{none}
use Rattle.checks.specs.Limits.{most_places}
use Rattle.codes.specs.declared.operator.Bounds.{Bounds}
use Rattle.roads.specs.Roads.{network_of}
use Rattle.distances.specs.Distances.{distance_number, Measured}
use Rattle.values.specs.Chain.{Valid, chain_lattice}
use Rattle.values.specs.Signals.{signal_in}
use Rattle.lanes.specs.declared.Place.{Place}
use Rattle.lanes.specs.declared.rows.Block.{Block}
use Rattle.lanes.specs.Lanes.{lanes, Numbers, left_row, right_row, out_row, x_row, place_at, row_in}
use Rattle.lanes.specs.Rows.{RowOf, Kept, KeptPast, lane_signal}
use Rattle.surrounds.specs.declared.surround.Surround.{Surround}
use Rattle.surrounds.specs.Surround.{surround_in, block_rounds}
use Rattle.iteration.specs.Steps.{RoadsIn, ValidRow}

-- a place has a distance from a centre, by the bytes of such a table
abbrev pub reached_by : List ℕ → ℕ → ℕ → ℕ → Bool
reached_by distances n centre place = not (eqb (get_or (numbers_of (words_of distances)) (centre * n + place) 0) (distance_number none))

-- what a place is given: the operands
abbrev pub given : Place → Place
given p = record { left = p.left; right = p.right; out = []; ring = []; x = []; former = []; both = [] }

-- what comes of the operands at one place is raised to what it has, and all else is kept
pub record CentreRaised (centre : ℕ) (before after : List Place) : Type 0 where
  pub raised : (lane : ℕ) → lane < lanes → row_in after out_row lane centre ≡ chain_lattice.join (row_in before out_row lane centre) (row_in before x_row lane centre)
  pub kept : Kept out_row.others before after
  pub elsewhere : (p : ℕ) → (p ≡ centre → ⊥) → place_at after p ≡ place_at before p

-- the signals of both operands stand in their rows at the first k places; all other rows are kept, and what stands past these places
pub record OperandsLoaded (words : List ℕ) (s : Surround) (n : ℕ) (block : Block) (k : ℕ) (before after : List Place) : Type 0 where
  pub left : RowOf (lane_signal words s.left n block) (row_in after left_row) k
  pub right : RowOf (lane_signal words s.right n block) (row_in after right_row) k
  pub kept : Kept (λ p. left_row.others (right_row.others p)) before after
  pub past : KeptPast k before after

-- what the rows of the operands, the sheet and the distances must be
pub record RowsReady (left right : Numbers) (n : ℕ) (sheet : List ℕ) (roads : ℕ) (distances : List ℕ) (b : Bounds) : Type 0 where
  pub few_places : n ≤ most_places
  pub left_valid : ValidRow left n
  pub right_valid : ValidRow right n
  pub roads_in : RoadsIn sheet roads n
  pub measured : Measured (network_of sheet n roads) distances
  pub small : b.upper < 2 ^ 28

-- words with the signals of the operands, n to a sample; samples `first` to first + count - 1
module _ (words : List ℕ) (s : Surround) (n : ℕ) (sheet : List ℕ) (roads : ℕ) (first count : ℕ) where
  -- what is lent holds all that is read, the signals are numbers that can arise, and the distances those of the roads
  pub record BlockReady (distances : List ℕ) : Type 0 where
    pub few_places : n ≤ most_places
    pub some : 1 ≤ count
    pub few : count ≤ lanes
    pub left_there : s.left + (first + count) * n ≤ length words
    pub right_there : s.right + (first + count) * n ≤ length words
    pub roads_in : RoadsIn sheet roads n
    pub measured : Measured (network_of sheet n roads) distances
    pub small : s.bounds.upper < 2 ^ 28
    pub left_valid : (t l : ℕ) → first ≤ t → t < first + count → l < n → Valid (signal_in words s.left n t l)
    pub right_valid : (t l : ℕ) → first ≤ t → t < first + count → l < n → Valid (signal_in words s.right n t l)

  -- the lanes of the row of what comes of the operands are the surrounds of the samples from `first` on, and r the greatest rounds; a lane without a sample
  -- is lowest. The rows of the operands have their signals, and what stands past the n places is kept
  pub record BlockDone (before after : List Place) (r : ℕ) : Type 0 where
    pub values : (centre lane : ℕ) → centre < n → lane < count → row_in after out_row lane centre ≡ surround_in words s (network_of sheet n roads) (first + lane) centre
    pub idle : (centre lane : ℕ) → centre < n → count ≤ lane → lane < lanes → row_in after out_row lane centre ≡ 0
    pub left_row_lem : RowOf (lane_signal words s.left n (record { first = first; count = count })) (row_in after left_row) n
    pub right_row_lem : RowOf (lane_signal words s.right n (record { first = first; count = count })) (row_in after right_row) n
    pub past : KeptPast n before after
    pub long : length after ≡ length before
    pub rounds : r ≡ block_rounds words s (network_of sheet n roads) first count
