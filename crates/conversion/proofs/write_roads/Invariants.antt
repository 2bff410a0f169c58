-- Each turn puts the two words of one road more.
use mathlib.Core.Path.{◌≡◌}
use lib.ListN.{length}
use Rattle.words.specs.Bytes.{words_of}
use Rattle.conversion.specs.Lent.{roads_put}
use Rattle.conversion.proofs.write_roads.Given as goal

abbrev pub invariant-loop-r : goal.invariant-loop-r
invariant-loop-r l = (length l.output ≡ length l.initial.output) × (words_of l.output ≡ roads_put l.to l.sheet l.r l.initial.output)
