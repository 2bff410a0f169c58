-- Each turn clears the strip of one place more of the first ones.
use Rattle.std.proofs.Common.{◌++◌}
use lib.ListN.{drop}
use Rattle.lanes.specs.Lanes.{out_row}
use Rattle.lanes.specs.Rows.{RowWritten}
use Rattle.surrounds.proofs.surround.clear.Given as goal

abbrev pub invariant-loop-place : goal.invariant-loop-place
invariant-loop-place l = RowWritten out_row l.place-index (λ _ _. 0) l.fn.rows (l.place-items ++ drop l.places l.fn.rows)
