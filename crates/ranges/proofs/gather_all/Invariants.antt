-- Each turn gathers about one centre more.
use Rattle.lanes.specs.Lanes.{left_row, out_row, row_in}
use Rattle.lanes.specs.Rows.{RowWritten}
use Rattle.ranges.specs.Ranges.{gathered_in}
use Rattle.ranges.proofs.gather_all.Given as goal

abbrev pub invariant-loop-centre : goal.invariant-loop-centre
invariant-loop-centre g l = RowWritten out_row l.centre (gathered_in g.E.End.over l.fn.distances.table.now l.fn.distances.places l.bounds (row_in l.initial.rows left_row)) l.initial.rows l.rows
