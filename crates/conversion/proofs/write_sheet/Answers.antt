-- Head, roads, the words that are not moved and the end are put one after the other: `sheet_written`.
use mathlib.Core.Path.{refl, ap}
use Prim.Native.Nat.{◌-◌}
use Rattle.conversion.proofs.Writing.{sheet_written}
use Rattle.conversion.proofs.write_sheet.Goals as goal

pub returns : goal.returns
returns c =
    let g = c.args in
    sheet_written g.to g.sheet.now g.layout g.output.now c.requires c.put_head.new.s c.write_roads.new.output c.copy_bytes.new.to c.put_word.new.s
    c.number.ensures c.put_head.ensures.stored c.put_head.auto.s c.write_roads.ensures c.write_roads.auto.output (ap (λ k. k - 1) c.word_count-last.ensures) c.road_at-behind.ensures refl
    c.copy_bytes.ensures c.word.ensures c.put_word.ensures.stored
