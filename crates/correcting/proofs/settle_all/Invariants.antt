-- The loop's invariant: whatever was raised, the corrections from k on have been settled, and there are as many bytes.
use mathlib.Core.Path.{◌≡◌}
use Prim.Native.Nat.{◌≤◌}
use lib.ListN.{length}
use Rattle.words.specs.Bytes.{words_of}
use Rattle.correcting.proofs.Settling.{SettledTo}
use Rattle.correcting.proofs.settle_all.Given as goal

abbrev pub invariant-loop-k : goal.invariant-loop-k
invariant-loop-k l =
    (l.k ≤ l.list.count) × (length l.output ≡ length l.initial.output) × SettledTo (words_of l.list.words.now) l.list.grid (words_of l.initial.output) (words_of l.output) l.k
