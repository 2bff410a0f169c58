-- Each turn takes what the sample offers at one place more into the greatest.
use Rattle.std.proofs.Common.{◌++◌}
use lib.ListN.{drop}
use Rattle.windows.specs.Groups.{raised_of}
use Rattle.operators.proofs.RowLaws.{Passed}
use Rattle.windows.proofs.group.raise_best.Given as goal

abbrev pub invariant-loop-lane : goal.invariant-loop-lane
invariant-loop-lane l =
    Passed l.group.count (raised_of l.fn.right l.u l.group l.least l.fn.best) l.fn.best (l.x-items ++ drop l.group.count l.fn.best) l.lane
