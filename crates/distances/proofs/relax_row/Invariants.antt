-- The loop's invariant, for every network whose table this is: k is let in at the entries before a * n + b. The distance from a to k that
-- was read before the loop is the same after it.
use Prim.Native.Nat.{ℕ, ◌+◌, ◌-◌, ◌*◌, ◌≤◌}
use mathlib.Core.Path.{◌≡◌}
use lib.ListN.{length}
use Rattle.words.specs.Bytes.{words_of, numbers_of}
use Rattle.network.specs.Distance.{Distance}
use Rattle.distances.specs.Stages.{relaxing}
use Rattle.distances.proofs.relax_row.Given as goal

abbrev pub invariant-loop-b : goal.invariant-loop-b
invariant-loop-b l =
    (l.b ≤ l.n) × (length l.table ≡ length l.initial.table)
    × ((weight : ℕ → ℕ → Distance) → numbers_of (words_of l.initial.table) ≡ relaxing weight l.n l.k (l.a * l.n) → numbers_of (words_of l.table) ≡ relaxing weight l.n l.k (l.a * l.n + l.b))

abbrev pub decreases-loop-b : goal.decreases-loop-b
decreases-loop-b l = l.n - l.b
