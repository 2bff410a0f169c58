-- What the ranges are asked and what they leave, of the bytes that a call is lent and the numbers that it is given.
use Rattle.std.specs.Prelude.{Bool, List, ℕ}
use Rattle.words.specs.Bytes.{words_of, numbers_of}
use Rattle.codes.specs.declared.operator.Bounds.{Bounds}
use Rattle.distances.specs.declared.table.Distances.{Distances}
use Rattle.lanes.specs.declared.rows.Block.{Block}
use Rattle.lanes.specs.declared.Place.{Place}
use Rattle.lanes.specs.Lanes.{lanes, left_row, out_row, row_in}
use Rattle.lanes.specs.Strips.{Held}
use Rattle.lanes.specs.Rows.{RowWritten}
use Rattle.ranges.specs.declared.Range.{Range}
use Rattle.ranges.specs.Ranges.{gathered_in, RangeReady, RangeDone}

-- the least or the greatest of the operand's row within bounds of a centre, and of every centre, stands in the row of what comes of it
module _ (over : (ℕ → Bool) → (ℕ → ℕ) → ℕ → ℕ) (rows : List Place) (d : Distances) (bounds : Bounds) where
  abbrev pub CentreGatheredIn : ℕ → List ℕ → Type 0
  CentreGatheredIn centre = Held lanes (λ lane. gathered_in over d.table.now d.places bounds (row_in rows left_row) lane centre)

  abbrev pub CentresGatheredIn : List Place → Type 0
  CentresGatheredIn = RowWritten out_row d.places (gathered_in over d.table.now d.places bounds (row_in rows left_row)) rows

-- words with the signal of the operand
module _ (words : List ℕ) (range : Range) (d : Distances) (block : Block) where
  abbrev pub RangeReadyIn : Type 0
  RangeReadyIn = RangeReady (words_of words) range.left d.places (numbers_of (words_of d.table.now)) block.first block.count

  abbrev pub RangeDoneIn : List Place → List Place → Type 0
  RangeDoneIn = RangeDone (words_of words) range.left d.places (numbers_of (words_of d.table.now)) block.first block.count range.bounds.lower range.bounds.upper range.dual
