-- `correcting::raise_all` meets its contract. The loop's invariant: the first k corrections have been raised, and there are as many bytes.
use mathlib.Core.Path.{◌≡◌}
use lib.ListN.{length}
use Rattle.words.specs.Bytes.{words_of}
use Rattle.correcting.proofs.Raising.{Raised}
use Rattle.correcting.proofs.raise_all.Given as goal

abbrev pub invariant-loop-k : goal.invariant-loop-k
invariant-loop-k l = (length l.output ≡ length l.initial.output) × Raised (words_of l.list.words.now) l.list.grid (words_of l.initial.output) (words_of l.output) l.k
