-- Each turn makes the run about one centre more, if it has it, and keeps the greater rounds.
use Prim.Native.Nat.{◌-◌}
use Rattle.surrounds.proofs.RunCentres.{RunTo}
use Rattle.surrounds.proofs.surround.run_centres.Given as goal

abbrev pub invariant-loop-centre : goal.invariant-loop-centre
invariant-loop-centre l = RunTo l.fn.network l.run l.initial.rows l.centre l.inside l.rows l.most

abbrev pub decreases-loop-centre : goal.decreases-loop-centre
decreases-loop-centre l = l.fn.network.distances.places - l.centre
