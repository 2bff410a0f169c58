-- The corrections of the part before the next one are chained, and none before the next one disagrees; `Searching` has the turns.
use mathlib.Core.Path.{◌≡◌}
use Prim.Native.Nat.{◌+◌, ◌≤◌}
use lib.ListN.{length}
use Rattle.words.specs.Bytes.{words_of}
use Rattle.clashes.specs.Chains.{part_before, Chained, Searched}
use Rattle.clashes.proofs.look_through.Given as goal

abbrev pub invariant-loop-k : goal.invariant-loop-k
invariant-loop-k l =
    (l.part.from ≤ l.k) × (l.k ≤ l.end) × (length l.links ≡ length l.initial.links) × Chained (words_of l.list.words.now) l.list.grid l.part (words_of l.links) (part_before l.part l.k)
    × Searched (words_of l.list.words.now) l.list.grid (l.part.from + l.part.size) l.k
