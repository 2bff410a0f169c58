-- The lanes that are filled are the samples of the block.
use Rattle.verdicts.proofs.Blocks.{block_written}
use Rattle.verdicts.proofs.around.write_block.Goals as goal

pub returns-clause-written : goal.returns-clause-written
returns-clause-written g c = block_written c.fill_block-rounds.ensures _ _ _ _ c.write_lanes-yes.ensures.written
