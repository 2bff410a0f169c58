-- Each turn writes one place more of the first ones.
use Rattle.std.proofs.Common.{◌++◌}
use lib.ListN.{drop}
use Rattle.words.specs.Bytes.{words_of}
use Rattle.operators.specs.Rows.{atom_in}
use Rattle.operators.proofs.RowLaws.{Passed}
use Rattle.operators.proofs.atoms.atom_row.Given as goal

abbrev pub invariant-loop-l : goal.invariant-loop-l
invariant-loop-l l = Passed l.places (atom_in (words_of l.samples) l.places l.signals l.signal l.atleast l.constant l.t) l.fn.row (l.x-items ++ drop l.places l.fn.row) l.l
