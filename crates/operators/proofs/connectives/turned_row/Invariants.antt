-- Each turn writes one place more of the first ones.
use Rattle.std.proofs.Common.{◌++◌}
use lib.ListN.{drop}
use Rattle.values.specs.Signals.{turned}
use Rattle.operators.specs.Rows.{operand_signal}
use Rattle.operators.proofs.RowLaws.{Passed}
use Rattle.operators.proofs.connectives.turned_row.Given as goal

abbrev pub invariant-loop-l : goal.invariant-loop-l
invariant-loop-l l = Passed l.fn.operand.places (turned l.negated (operand_signal l.fn.operand) l.t) l.fn.row (l.x-items ++ drop l.fn.operand.places l.fn.row) l.l
