-- The signal is decoded into a row, and what is gathered of it in lanes is the block of samples.
use Rattle.words.specs.Bytes.{words_of}
use Rattle.ranges.proofs.Ranges.{everywhere_done, somewhere_done}
use Rattle.ranges.proofs.somewhere_block.Goals as goal

pub returns-then-range : goal.returns-then-range
returns-then-range c =
    let a = c.args in
    rw c.if-range.true (everywhere_done (words_of a.words.now) a.range.left a.distances.places a.distances.table.now a.block a.range.bounds c.requires.0 c.load.ensures c.gather_all.ensures)

pub returns-else-range : goal.returns-else-range
returns-else-range c =
    let a = c.args in
    rw c.if-range.false (somewhere_done (words_of a.words.now) a.range.left a.distances.places a.distances.table.now a.block a.range.bounds c.requires.0 c.load.ensures c.gather_all-else-range.ensures)
