-- Those before k have passed; the first that is refused decides the whole.
use mathlib.Core.Path.{◌≡◌}
use Rattle.words.specs.Bytes.{words_of}
use Rattle.checks.specs.Checked.{accepted}
use Rattle.corrections.specs.Corrections.{well_formed, in_turn}
use Rattle.corrections.proofs.check.check_corrections.Given as goal

abbrev pub invariant-loop-k : goal.invariant-loop-k
invariant-loop-k l = in_turn (well_formed (words_of l.list) l.grid) l.k ≡ accepted tt
