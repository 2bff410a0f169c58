-- The sum of the numbers falls with each turn, since one of them does; where none does, every lane is at rest.
use Rattle.iteration.proofs.Settling.{in_falls, in_rest}
use Rattle.iteration.proofs.iteration.settle.Goals as goal

pub loop-rounds-smaller-then-changed : goal.loop-rounds-smaller-then-changed
loop-rounds-smaller-then-changed c =
    in_falls c.requires c.loop-rounds.invariant.0 c.loop-rounds.invariant.1 c.round.ensures.joined c.round.ensures.stepped c.changed.ensures c.if-changed.true

pub loop-rounds-smaller : goal.loop-rounds-smaller
loop-rounds-smaller c =
    in_falls c.requires c.loop-rounds.invariant.0 c.loop-rounds.invariant.1 c.round.ensures.joined c.round.ensures.stepped c.changed-else-changed.ensures c.if-not-changed.false

pub returns-clause-settled : goal.returns-clause-settled
returns-clause-settled c =
    in_rest c.requires c.loop-rounds.invariant.0 c.loop-rounds.invariant.1 c.round.ensures.joined c.round.ensures.stepped c.changed.ensures c.changed-else-changed.ensures
    c.if-changed.false c.if-not-changed.true
