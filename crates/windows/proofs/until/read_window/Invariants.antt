-- What is carried is carried on by each turn. Once the least of left is no more than until so far at every place, or all samples are read, until so far
-- is until.
use mathlib.Core.Path.{◌≡◌}
use Prim.Native.Nat.{◌-◌, ◌≤◌}
use lib.ListN.{length}
use Rattle.windows.specs.Reading.{CarriesOf}
use Rattle.windows.proofs.until.read_window.Given as goal

abbrev pub invariant-loop-k : goal.invariant-loop-k
invariant-loop-k l =
    (l.k ≤ l.end) × (length l.least ≡ length l.initial.least) × (length l.best ≡ length l.initial.best) × CarriesOf l.fn.operands l.t l.group l.k l.least l.best

abbrev pub decreases-loop-k : goal.decreases-loop-k
decreases-loop-k l = l.end - l.k
