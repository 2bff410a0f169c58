-- Each part begins with no chains, as the words are zero; `Searching` has what one part more tells.
use mathlib.Core.Path.{◌≡◌}
use Prim.Native.Nat.{◌-◌}
use lib.ListN.{length}
use Rattle.words.specs.Bytes.{words_of}
use Rattle.clashes.specs.Chains.{First}
use Rattle.clashes.proofs.first_clash.Given as goal

abbrev pub invariant-loop-from : goal.invariant-loop-from
invariant-loop-from l = (length l.links ≡ length l.initial.links) × First (words_of l.list.words.now) l.list.grid l.from l.list.count l.end

abbrev pub decreases-loop-from : goal.decreases-loop-from
decreases-loop-from l = l.end - l.from
