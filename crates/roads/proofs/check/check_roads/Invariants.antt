-- The loop knows what `Roads` says; the measure is how many words are left.
use Prim.Native.Nat.{◌-◌}
use lib.ListN.{length}
use Rattle.words.specs.Bytes.{words_of}
use Rattle.roads.proofs.Passing.{Roads}
use Rattle.roads.proofs.check.check_roads.Given as goal

abbrev pub invariant-loop-last : goal.invariant-loop-last
invariant-loop-last l = Roads (words_of l.s) l.places l.at l.last

abbrev pub decreases-loop-last : goal.decreases-loop-last
decreases-loop-last l = length (words_of l.s) - l.at
