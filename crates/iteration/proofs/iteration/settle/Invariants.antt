-- Each turn is one step of the iteration in every lane; the sum of the numbers falls while something moves, so that the loop ends.
use lib.ListN.{length}
use Rattle.words.specs.Bytes.{words_of}
use Rattle.lanes.specs.Lanes.{ring_row, x_row, row_in}
use Rattle.iteration.specs.WorkRows.{stepped_part, Worked}
use Rattle.iteration.proofs.Settling.{total, Going}
use Rattle.iteration.proofs.iteration.settle.Given as goal

abbrev pub invariant-loop-rounds : goal.invariant-loop-rounds
invariant-loop-rounds l = Worked stepped_part l.inside l.initial.rows l.rows
    × Going (words_of l.network.sheet.now) l.network.roads (length l.inside) (row_in l.initial.rows ring_row) (row_in l.initial.rows x_row) (row_in l.rows x_row) l.rounds

abbrev pub decreases-loop-rounds : goal.decreases-loop-rounds
decreases-loop-rounds l = total (row_in l.rows x_row) (length l.inside)
