-- What stands past the loop is kept; of the places that it goes over one more is joined, or passed by.
use Prim.Native.Nat.{◌<◌}
use native.Mathlib.Omega.{arith}
use lib.ListN.{length}
use lib.Seq.{length-take-le}
use Rattle.iteration.proofs.Outside.{front_inside, front_outside}
use Rattle.iteration.proofs.iteration.join.Goals as goal
use Rattle.iteration.proofs.iteration.join.Goals.{then-inside-place, else-inside-place}

pub loop-place-preserved : goal.loop-place-preserved
loop-place-preserved c =
    let lent : c.loop-place.place < length c.loop-place.at-items = omega (arith, c.loop-place.auto.at-items, c.loop-place-test.true) in
    let inside : c.loop-place.place < length c.args.inside.now = omega (arith, c.loop-place-test.true, length-take-le (length c.args.inside.now) c.args.rows.now c.requires.room) in
    elim c.if-inside-place.branch [
      | then-inside-place w ↦ rw w.at-items-is (front_inside c.loop-place.at-items _ c.loop-place.invariant lent inside _ w.if-inside-place.true w.of_two-at.ensures)
      | else-inside-place w ↦ rw w.at-items-is (front_outside c.loop-place.at-items _ c.loop-place.invariant lent inside w.if-inside-place.false)
    ]
