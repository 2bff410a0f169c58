-- The loop's invariant: the table is that of the first r roads.
use Prim.Native.Nat.{◌-◌, ◌≤◌}
use mathlib.Core.Path.{◌≡◌}
use lib.ListN.{length}
use Rattle.words.specs.Bytes.{words_of, numbers_of}
use Rattle.roads.specs.Roads.{weight_among}
use Rattle.distances.specs.Stages.{stage}
use Rattle.distances.proofs.put_roads.Given as goal

abbrev pub invariant-loop-r : goal.invariant-loop-r
invariant-loop-r l = (l.r ≤ l.roads) × (length l.table ≡ length l.initial.table) × (numbers_of (words_of l.table) ≡ stage (weight_among (words_of l.s) l.r) l.n 0)

abbrev pub decreases-loop-r : goal.decreases-loop-r
decreases-loop-r l = l.roads - l.r
