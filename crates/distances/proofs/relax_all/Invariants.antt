-- The loop's invariant, for every network whose table this is: the places before k are let in.
use Prim.Native.Nat.{ℕ, ◌-◌, ◌≤◌}
use mathlib.Core.Path.{◌≡◌}
use lib.ListN.{length}
use Rattle.words.specs.Bytes.{words_of, numbers_of}
use Rattle.network.specs.Distance.{Distance}
use Rattle.distances.specs.Stages.{stage}
use Rattle.distances.proofs.relax_all.Given as goal

abbrev pub invariant-loop-k : goal.invariant-loop-k
invariant-loop-k l =
    (l.k ≤ l.n) × (length l.table ≡ length l.initial.table)
    × ((weight : ℕ → ℕ → Distance) → numbers_of (words_of l.initial.table) ≡ stage weight l.n 0 → numbers_of (words_of l.table) ≡ stage weight l.n l.k)

abbrev pub decreases-loop-k : goal.decreases-loop-k
decreases-loop-k l = l.n - l.k
