-- Each turn takes one road more into the least of what the neighbours hand over.
use Prim.Native.Nat.{◌-◌, ◌≤◌}
use Rattle.words.specs.Bytes.{words_of}
use lib.ListN.{length}
use Rattle.lanes.specs.Lanes.{x_row, both_row, row_in}
use Rattle.lanes.specs.Rows.{KeptPast}
use Rattle.iteration.specs.WorkRows.{KeptBut}
use Rattle.iteration.specs.Steps.{joined_by, Stepped}
use Rattle.iteration.proofs.iteration.step.Given as goal

abbrev pub invariant-loop-r : goal.invariant-loop-r
invariant-loop-r l = (l.r ≤ l.r-end) × KeptBut x_row l.initial.rows l.rows
    × KeptPast (length l.inside) l.initial.rows l.rows × Stepped (joined_by (words_of l.network.sheet.now) l.r) (row_in l.initial.rows both_row) (row_in l.initial.rows x_row) (row_in l.rows x_row)

abbrev pub decreases-loop-r : goal.decreases-loop-r
decreases-loop-r l = l.r-end - l.r
