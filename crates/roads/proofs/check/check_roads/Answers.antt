-- No word of kind 2 ends the roads.
use mathlib.Core.Path.{sym}
use Rattle.roads.proofs.Passing.{roads_done}
use Rattle.roads.proofs.check.check_roads.Goals as goal

pub returns : goal.returns
returns c = roads_done _ _ c.loop-last.invariant (sym c.loop-last-test.ensures)
