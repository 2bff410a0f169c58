-- Each turn takes the lesser, or the greater, in one lane more.
use lib.ListN.{get_or}
use Rattle.lanes.proofs.RowLaws.{Filled}
use Rattle.lanes.proofs.strips.of_two.Given as goal

abbrev pub invariant-loop-lane : goal.invariant-loop-lane
invariant-loop-lane g l = Filled l.lane (λ lane. g.E.End.op (get_or l.a lane 0) (get_or l.b lane 0)) l.x-items
