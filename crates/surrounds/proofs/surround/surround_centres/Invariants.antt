-- The row of what comes of the operands is cleared, and each turn makes one run more about every centre.
use Prim.Native.Nat.{◌-◌}
use Rattle.surrounds.proofs.RunCentres.{RunsTo}
use Rattle.surrounds.proofs.surround.surround_centres.Given as goal

abbrev pub invariant-loop-number : goal.invariant-loop-number
invariant-loop-number l = RunsTo l.fn.network l.bounds l.islands l.initial.rows l.number l.runs l.rows l.most

abbrev pub decreases-loop-number : goal.decreases-loop-number
decreases-loop-number l = l.runs - l.number
