-- One correction more is settled, by `one_settled`; when none is left all are, by `none_unsettled`.
use mathlib.Core.Path.{◌∙◌}
use Prim.Native.Nat.{◌-◌}
use native.Mathlib.Omega.{arith}
use Rattle.tool.proofs.Leaving.{same_words}
use Rattle.correcting.proofs.Settling.{one_settled, none_unsettled}
use Rattle.std.proofs.Common.{rules}
use Rattle.correcting.proofs.settle_all.Goals as goal

pub loop-k-preserved : goal.loop-k-preserved
loop-k-preserved c =
    let h = c.loop-k in (
      omega (arith, h.invariant.0),
      c.settle.auto.output ∙ h.invariant.1,
      one_settled _ _ _ _ _ h.k c.loop-k-test.true (omega (arith, h.invariant.0, c.requires.all)) (search rules)
          (omega (arith, c.loop-k-test.true, h.invariant.0, c.requires.inside (h.k - 1), same_words h.output c.args.output.now h.invariant.1)) c.settle.ensures h.invariant.2,
    )

pub returns : goal.returns
returns c = none_unsettled _ _ _ _ (omega (arith, c.loop-k-test.false)) c.loop-k.invariant.2
