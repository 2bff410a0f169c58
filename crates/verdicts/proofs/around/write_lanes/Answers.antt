-- Each turn puts the sample of one lane more after those before it, and adds its yes verdicts.
use mathlib.Core.Path.{refl, ◌∙◌}
use Prim.Native.Nat.{◌≤◌}
use native.Mathlib.Omega.{arith}
use lib.ListN.{length, length-replicate}
use Rattle.words.proofs.Words.{words_count}
use Rattle.samples.proofs.LineRows.{none_done, next_at, yes_fits, row_room}
use Rattle.verdicts.proofs.Points.{sample_long, row_there, row_yes}
use Rattle.verdicts.proofs.Blocks.{one_lane}
use Rattle.std.proofs.Common.{rules}
use Rattle.verdicts.proofs.around.write_lanes.Goals as goal

pub loop-lane-init : goal.loop-lane-init
loop-lane-init g c = (length-replicate g.row.N 0, next_at _ _ _ _ (none_done _ _ _ _) (omega arith))

pub write_values-yes-requires : goal.write_values-yes-requires
write_values-yes-requires g c =
    let filled = c.copy_lane.ensures in
    let room : c.args.places ≤ length c.copy_lane.new.values = omega (arith, c.copy_lane.auto.values, c.loop-lane.invariant.0, c.requires.1) in
    (row_there filled room (λ l b. c.requires.0.bound l c.loop-lane.lane b c.loop-lane-test.true), omega (arith, sample_long filled room, row_room _ _ _ _ c.loop-lane.invariant.1 c.requires.2 c.loop-lane-test.true))

pub overflow_add-yes : goal.overflow_add-yes
overflow_add-yes g c =
    let loop = c.loop-lane in
    let room : c.args.places ≤ length c.copy_lane.new.values = omega (arith, c.copy_lane.auto.values, loop.invariant.0, c.requires.1) in
    omega (arith, yes_fits _ _ _ _ loop.invariant.1 _ (c.write_values-yes.ensures.counted ∙ row_yes c.copy_lane.ensures room), row_room _ _ _ _ loop.invariant.1 c.requires.2 c.loop-lane-test.true, words_count loop.own)

pub loop-lane-preserved : goal.loop-lane-preserved
loop-lane-preserved g c =
    let called = c.write_values-yes in
    (search rules, next_at _ _ _ _ (one_lane c.loop-lane.invariant.1 c.copy_lane.ensures (omega (arith, c.copy_lane.auto.values, c.loop-lane.invariant.0, c.requires.1)) (omega (arith, c.requires.2)) called.auto.line called.ensures.written called.ensures.counted called.ensures.tail) refl)
