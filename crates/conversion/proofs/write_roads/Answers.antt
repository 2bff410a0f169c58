-- Each turn puts the two words of one road more: `roads_more`.
use mathlib.Core.Path.{◌∙◌}
use native.Mathlib.Omega.{arith}
use Rattle.conversion.proofs.Writing.{roads_more}
use Rattle.conversion.proofs.write_roads.Goals as goal

pub loop-r-preserved : goal.loop-r-preserved
loop-r-preserved c = (
  c.put_word-in-loop-r.auto.s ∙ c.put_word.auto.s ∙ c.loop-r.invariant.0,
  roads_more c.args.to c.args.sheet.now c.args.output.now c.loop-r.r c.loop-r.invariant.1 c.put_word.ensures.stored c.put_word-in-loop-r.ensures.stored (omega (arith, c.requires.1))
      c.is_wide-from.ensures c.road_at-at.ensures c.road_at-behind.ensures c.word_at.ensures c.lay_out.ensures c.word_at-in-loop-r.ensures,
)
