-- Each turn takes the sample at one place more into the least.
use Rattle.std.proofs.Common.{◌++◌}
use lib.ListN.{drop}
use Rattle.windows.specs.Groups.{lowered_of}
use Rattle.operators.proofs.RowLaws.{Passed}
use Rattle.windows.proofs.group.lower_least.Given as goal

abbrev pub invariant-loop-lane : goal.invariant-loop-lane
invariant-loop-lane l =
    Passed l.group.count (lowered_of l.fn.left l.u l.group l.fn.least) l.fn.least (l.x-items ++ drop l.group.count l.fn.least) l.lane
