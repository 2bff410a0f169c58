-- A place of the sample comes no later than its word, since there is a signal.
use Prim.Native.Nat.{◌<◌, ◌+◌, ◌*◌}
use native.Mathlib.Nat.{le-mul_of_pos_right}
use native.Mathlib.Omega.{arith}
use Rattle.words.proofs.Rows.{in_table}
use Rattle.words.proofs.Words.{words_count}
use Rattle.operators.proofs.Bounds.{in_row}
use Rattle.operators.proofs.RowLaws.{in_front, front_passed}
use Rattle.operators.proofs.atoms.atom_row.Goals as goal

pub overflow_mul-t : goal.overflow_mul-t
overflow_mul-t c =
    let some : 0 < c.args.signals = omega (arith, c.requires.0) in
    let inside = in_front c.args.row.now c.loop-l-test.true c.requires.3 in
    omega (arith, le-mul_of_pos_right (c.args.t * c.args.places + c.loop-l.l) some, in_table (in_row c.args.t inside) c.requires.0, c.requires.1, words_count c.args.samples.now)

pub loop-l-preserved : goal.loop-l-preserved
loop-l-preserved c =
    front_passed c.loop-l.x-items _ _ c.loop-l.invariant (omega (arith, c.loop-l.auto.x-items, c.loop-l-test.true)) (in_front c.args.row.now c.loop-l-test.true c.requires.3) c.requires.3 c.atom_at.ensures
