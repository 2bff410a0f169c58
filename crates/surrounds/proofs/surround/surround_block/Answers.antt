-- Both operands are decoded into rows that are valid, and what the centres leave in lanes is the block of samples.
use mathlib.Core.Path.{ap, ◌∙◌}
use lib.ListN.{get_or}
use Rattle.words.specs.Bytes.{words_of, numbers_of}
use Rattle.lanes.specs.declared.Place.{Place}
use Rattle.lanes.specs.Lanes.{left_row, right_row, row_in}
use Rattle.lanes.proofs.RowLaws.{kept_past_trans}
use Rattle.surrounds.proofs.BlockLaws.{block_done}
use Rattle.surrounds.proofs.surround.surround_block.Goals as goal

pub returns : goal.returns
returns c =
    let g = c.args in
    let load = c.load_operands in
    let s = c.surround_centres in
    block_done (words_of g.words.now) g.surround g.network.distances.places (words_of g.network.sheet.now) g.network.roads (numbers_of (words_of g.network.distances.table.now)) g.block
    (row_in load.new.rows left_row) (row_in load.new.rows right_row) c.requires.0 load.ensures.left load.ensures.right g.rows.now s.new.rows s.result
    (s.auto.rows ∙ load.ensures.kept.long)
    (record { at = λ place lane _ l. ap (λ (p : Place). get_or p.left lane 0) (s.ensures.kept.same place) })
    (record { at = λ place lane _ l. ap (λ (p : Place). get_or p.right lane 0) (s.ensures.kept.same place) })
    (kept_past_trans load.ensures.past s.ensures.past) s.ensures.done
