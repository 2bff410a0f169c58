-- At the end no sample is left.
use mathlib.Core.Path.{◌≡◌, refl, ap₂, ◌∙◌}
use Prim.Native.Nat.{◌+◌, ◌-◌}
use native.Mathlib.Omega.{arith}
use Rattle.words.specs.Bytes.{words_of}
use Rattle.sheet.specs.Layout.{samples_from}
use Rattle.sheet.proofs.Samples.{none_left}
use Rattle.sheet.proofs.stages.check_samples.Goals as goal

pub returns : goal.returns
returns c =
    let loop = c.loop-at in
    let left : c.args.start + c.args.count - loop.at ≡ c.args.count - c.args.count = omega arith in
    let here : loop.at ≡ c.args.start + c.args.count = omega arith in
    none_left _ _ _ _ refl (loop.invariant.1 ∙ ap₂ (samples_from (words_of c.args.s.now)) left here)
