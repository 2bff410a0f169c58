-- What the functions of the surround are asked and what they leave, of the bytes that a call is lent and the numbers that it is given.
use Rattle.std.specs.Prelude.{◌≡◌, Bool, true, List, ℕ, ◌<◌, ◌≤◌}
use Rattle.words.specs.Bytes.{words_of, numbers_of}
use Rattle.network.specs.Network as Roads
use Rattle.codes.specs.declared.operator.Bounds.{Bounds}
use Rattle.roads.specs.Roads.{network_of}
use Rattle.distances.specs.declared.table.Distances.{Distances}
use Rattle.lanes.specs.declared.rows.Block.{Block}
use Rattle.lanes.specs.declared.Place.{Place}
use Rattle.lanes.specs.Lanes.{left_row, right_row, out_row, row_in}
use Rattle.lanes.specs.Rows.{Room, BlockThere, within_in}
use Rattle.surrounds.specs.declared.surround.Surround.{Surround}
use Rattle.surrounds.specs.declared.surround.SheetNetwork.{SheetNetwork}
use Rattle.surrounds.specs.declared.runs.Run.{Run}
use Rattle.iteration.specs.WorkRows.{LowOutside}
use Rattle.iteration.specs.Masks.{ball_of, FlagsFor}
use Rattle.surrounds.specs.Runs.{beyond, is_made, CentresDone, RunDone, CentreRun}
use Rattle.surrounds.specs.Blocks.{reached_by, RowsReady, BlockReady, BlockDone}

-- the network of a sheet's roads
abbrev pub network_in : SheetNetwork → Roads.Network
network_in network = network_of (words_of network.sheet.now) network.distances.places network.roads

-- by a table: some place with a distance from the centre lies beyond the ball, and a run is made about the centre
module _ (d : Distances) (centre : ℕ) where
  abbrev pub reached_in : ℕ → Bool
  reached_in = reached_by d.table.now d.places centre

  abbrev pub beyond_in : Bounds → Bool
  beyond_in ball = beyond (within_in d centre ball) reached_in d.places

  abbrev pub is_made_in : Run → Bool
  is_made_in run = is_made (within_in d centre (ball_of run.bounds)) reached_in d.places centre run.islands run.number

-- rows of the operands
module _ (rows : List Place) (network : SheetNetwork) where
  abbrev pub RowsReadyIn : Bounds → Type 0
  RowsReadyIn = RowsReady (row_in rows left_row) (row_in rows right_row) network.distances.places (words_of network.sheet.now) network.roads (numbers_of (words_of network.distances.table.now))

  -- a run about every centre can be made
  abbrev pub RunReadyIn : Run → Type 0
  RunReadyIn run = RowsReadyIn run.bounds × Room network.distances.places rows × (run.number ≤ network.distances.places)

  abbrev pub CentresDoneIn : Surround → List Place → ℕ → Type 0
  CentresDoneIn s after = CentresDone (row_in rows left_row) (row_in rows right_row) (network_in network) s.bounds s.islands (row_in after out_row)

  -- a run is made about a centre, and there are flags outside of which all rows to work in are lowest
  pub record CentreReadyIn (run : Run) (centre : ℕ) (inside : List Bool) : Type 0 where
    pub ready : RowsReadyIn run.bounds
    pub here : centre < network.distances.places
    pub number : run.number ≤ network.distances.places
    pub made : is_made_in network.distances centre run ≡ true
    pub flags : FlagsFor network.distances inside
    pub low : LowOutside inside rows

  -- a run about one centre and about the first k centres, on rows that have become others
  abbrev pub CentreRunIn : Run → ℕ → List Place → ℕ → Type 0
  CentreRunIn run centre after = CentreRun (row_in rows left_row) (row_in rows right_row) (network_in network) run.bounds run.islands run.number centre (row_in rows out_row) (row_in after out_row)

  abbrev pub RunDoneIn : Run → ℕ → List Place → ℕ → Type 0
  RunDoneIn run k after = RunDone (row_in rows left_row) (row_in rows right_row) (network_in network) run.bounds run.islands run.number k (row_in rows out_row) (row_in after out_row)

-- the samples of both operands are there
abbrev pub OperandsThere : List ℕ → Surround → ℕ → Block → Type 0
OperandsThere words s places block = BlockThere words s.left places block × BlockThere words s.right places block

-- words with the signals of the operands
module _ (words : List ℕ) (s : Surround) (network : SheetNetwork) (block : Block) where
  abbrev pub BlockReadyIn : Type 0
  BlockReadyIn = BlockReady (words_of words) s network.distances.places (words_of network.sheet.now) network.roads block.first block.count (numbers_of (words_of network.distances.table.now))

  abbrev pub BlockDoneIn : List Place → List Place → ℕ → Type 0
  BlockDoneIn = BlockDone (words_of words) s network.distances.places (words_of network.sheet.now) network.roads block.first block.count
