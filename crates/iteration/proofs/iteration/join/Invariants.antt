-- Each turn joins one place more; a place outside has been joined already, as all its numbers are lowest.
use Rattle.std.proofs.Common.{◌++◌}
use lib.ListN.{length, drop}
use Rattle.iteration.proofs.Outside.{Joining}
use Rattle.iteration.proofs.iteration.join.Given as goal

abbrev pub invariant-loop-place : goal.invariant-loop-place
invariant-loop-place l = Joining l.inside l.fn.rows (l.at-items ++ drop (length l.inside) l.fn.rows) l.place
