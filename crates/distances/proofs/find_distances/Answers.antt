-- A table in memory has so few places that no finite distance is too large, so the last stage is the table of the distances.
use Prim.Native.Nat.{◌*◌, ◌<◌, ◌^◌}
use mathlib.Core.Path.{◌∙◌}
use native.Mathlib.Omega.{arith}
use Rattle.words.specs.Bytes.{words_of}
use Rattle.words.proofs.Numbers.{length_numbers}
use Rattle.roads.specs.Roads.{weight_among}
use Rattle.distances.proofs.Stages.{few_places, stage_all}
use Rattle.distances.proofs.StartTable.{light}
use Rattle.distances.proofs.find_distances.Goals as goal

pub returns : goal.returns
returns c =
    let g = c.args in
    let w = weight_among (words_of g.s.now) g.roads in
    let n = g.places in
    let small = few_places n (omega (arith, length_numbers g.table.now, c.requires.1)) in
    let bound : n * 2 ^ 28 < 2 ^ 64 = omega arith in
    c.relax_all.ensures w c.put_roads.ensures
    ∙ stage_all w n (2 ^ 28) (light (words_of g.s.now) g.roads) bound
