-- Each turn takes in one place more, if it is in range.
use Rattle.lanes.specs.Lanes.{lanes, left_row, row_in}
use Rattle.lanes.specs.Rows.{within_in}
use Rattle.lanes.proofs.RowLaws.{Filled}
use Rattle.ranges.proofs.gather.Given as goal

abbrev pub invariant-loop-place : goal.invariant-loop-place
invariant-loop-place g l = Filled lanes (λ lane. g.E.End.over (within_in l.fn.distances l.centre l.bounds) (row_in l.rows left_row lane) l.place) l.strip
