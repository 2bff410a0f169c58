-- The loop's invariant, for every network whose table this is: k is let in at the rows before a.
use Prim.Native.Nat.{ℕ, ◌-◌, ◌*◌, ◌≤◌}
use mathlib.Core.Path.{◌≡◌}
use lib.ListN.{length}
use Rattle.words.specs.Bytes.{words_of, numbers_of}
use Rattle.network.specs.Distance.{Distance}
use Rattle.distances.specs.Stages.{stage, relaxing}
use Rattle.distances.proofs.relax_through.Given as goal

abbrev pub invariant-loop-a : goal.invariant-loop-a
invariant-loop-a l =
    (l.a ≤ l.n) × (length l.table ≡ length l.initial.table)
    × ((weight : ℕ → ℕ → Distance) → numbers_of (words_of l.initial.table) ≡ stage weight l.n l.k → numbers_of (words_of l.table) ≡ relaxing weight l.n l.k (l.a * l.n))

abbrev pub decreases-loop-a : goal.decreases-loop-a
decreases-loop-a l = l.n - l.a
