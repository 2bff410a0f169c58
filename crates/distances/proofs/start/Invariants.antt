-- The loop's invariant: the diagonal of the first a rows is zero, and every other number is none.
use Prim.Native.Nat.{◌-◌, ◌≤◌}
use mathlib.Core.Path.{◌≡◌}
use lib.ListN.{length}
use Rattle.words.specs.Bytes.{words_of, numbers_of}
use Rattle.distances.proofs.StartTable.{begun}
use Rattle.distances.proofs.start.Given as goal

abbrev pub invariant-loop-a : goal.invariant-loop-a
invariant-loop-a l = (l.a ≤ l.n) × (length l.table ≡ length l.initial.table) × (numbers_of (words_of l.table) ≡ begun l.n l.a)

abbrev pub decreases-loop-a : goal.decreases-loop-a
decreases-loop-a l = l.n - l.a
