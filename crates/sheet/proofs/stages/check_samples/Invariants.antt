-- What is left to check decides the whole.
use Prim.Native.Nat.{◌-◌, ◌≤◌}
use mathlib.Core.Path.{◌≡◌}
use Rattle.words.specs.Bytes.{words_of}
use Rattle.sheet.specs.Layout.{samples_from}
use Rattle.sheet.proofs.stages.check_samples.Given as goal

abbrev pub invariant-loop-at : goal.invariant-loop-at
invariant-loop-at l = (l.at ≤ l.end) × (samples_from (words_of l.s) l.count l.start ≡ samples_from (words_of l.s) (l.end - l.at) l.at)

abbrev pub decreases-loop-at : goal.decreases-loop-at
decreases-loop-at l = l.end - l.at
