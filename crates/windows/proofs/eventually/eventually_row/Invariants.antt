-- Each turn writes one place more; what stands there before is the value at the sample before.
use Rattle.std.proofs.Common.{◌++◌}
use lib.ListN.{drop}
use Rattle.windows.specs.Rows.{eventually_of}
use Rattle.operators.proofs.RowLaws.{Passed}
use Rattle.windows.proofs.eventually.eventually_row.Given as goal

abbrev pub invariant-loop-l : goal.invariant-loop-l
invariant-loop-l l = Passed l.fn.operand.places (eventually_of l.fn.operand l.bounds l.dual l.t) l.fn.row (l.x-items ++ drop l.fn.operand.places l.fn.row) l.l
