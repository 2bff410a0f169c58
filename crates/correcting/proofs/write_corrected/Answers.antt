-- The sheet's words are copied, then raised, then settled: `copied_ready` and `copied_corrected`.
use mathlib.Core.Path.{◌∙◌}
use Rattle.correcting.proofs.Writing.{copied_ready, copied_corrected}
use Rattle.correcting.proofs.write_corrected.Goals as goal

pub raise_all-requires : goal.raise_all-requires
raise_all-requires c = copied_ready _ _ _ _ c.requires c.word_count-end.ensures c.copy_bytes.ensures

pub returns : goal.returns
returns c = copied_corrected _ _ _ _ c.requires c.word_count-end.ensures c.copy_bytes.ensures _ _ (c.settle_all.auto.output ∙ c.raise_all.auto.output) c.raise_all.ensures c.settle_all.ensures
