-- Each turn clears one place more of the first ones.
use Rattle.std.proofs.Common.{◌++◌}
use lib.ListN.{drop}
use Rattle.iteration.specs.WorkRows.{Cleared}
use Rattle.iteration.proofs.mask.clear_all.Given as goal

abbrev pub invariant-loop-place : goal.invariant-loop-place
invariant-loop-place l = Cleared l.place-index l.fn.rows (l.place-items ++ drop l.places l.fn.rows)
