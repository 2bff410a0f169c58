-- Each turn copies the number of one place more.
use Rattle.lanes.specs.Lanes.{out_row, row_in}
use Rattle.operators.specs.Rows.{Filled}
use Rattle.verdicts.proofs.around.copy_lane.Given as goal

abbrev pub invariant-loop-l : goal.invariant-loop-l
invariant-loop-l l = Filled l.l (row_in l.rows out_row l.lane) l.values
