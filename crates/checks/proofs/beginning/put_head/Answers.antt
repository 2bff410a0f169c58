-- One word of a narrow one, and two of a wide one.
use Prim.Native.Nat.{◌<◌, ◌^◌}
use mathlib.Core.Path.{refl}
use native.Mathlib.Omega.{arith}
use Rattle.std.proofs.lemmas.Grind.{or_after_shift}
use Rattle.checks.proofs.Beginnings.{narrow_written, narrow_tail, wide_written, wide_tail}
use Rattle.checks.proofs.beginning.put_head.Goals as goal

pub returns-then-wide : goal.returns-then-wide
returns-then-wide c =
    let first = c.put_word in
    let second = c.put_word-then-wide in
    let head = c.args.head in
    record {
      stored = wide_written c.args.s.now head _ c.requires.1 c.if-wide.true _ _ _ _ (omega arith) (omega (arith, c.fields-fields.ensures)) first.ensures.stored second.ensures.stored;
      tail = wide_tail c.args.s.now head _ c.requires.1 c.if-wide.true _ _ _ _ first.auto.s first.ensures.bytes second.ensures.bytes;
    }

pub returns : goal.returns
returns c =
    let head = c.args.head in
    let few : head.places < 2 ^ 8 = rw c.if-wide.false at c.requires.0.places_fit in
    let fields = c.fields-fields.ensures in
    let all = or_after_shift head.places 1048576 4294967296 c.fields-fields.result refl (omega (arith, fields)) (omega (arith, few)) in
    record {
      stored = narrow_written c.args.s.now head _ c.requires.1 _ _ c.if-wide.false (omega (arith, fields, all)) c.put_word-2.ensures.stored;
      tail = narrow_tail c.args.s.now head _ c.requires.1 _ _ c.put_word-2.ensures.bytes;
    }
