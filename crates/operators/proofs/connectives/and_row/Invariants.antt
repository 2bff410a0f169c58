-- Each turn writes one place more of the first ones.
use Rattle.std.proofs.Common.{◌++◌}
use lib.ListN.{drop}
use Rattle.words.specs.Bytes.{words_of}
use Rattle.operators.specs.Rows.{and_in}
use Rattle.operators.proofs.RowLaws.{Passed}
use Rattle.operators.proofs.connectives.and_row.Given as goal

abbrev pub invariant-loop-l : goal.invariant-loop-l
invariant-loop-l l = Passed l.places (and_in (words_of l.words) l.places l.dual l.fn.left l.fn.right l.t) l.fn.row (l.x-items ++ drop l.places l.fn.row) l.l
