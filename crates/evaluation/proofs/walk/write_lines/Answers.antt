-- Each turn passes one line and writes it behind those before: `Vectors` has what one turn rests on.
use mathlib.Core.Path.{refl, ap, ◌∙◌}
use native.Mathlib.Omega.{arith}
use Rattle.words.specs.Bytes.{words_of}
use Rattle.checks.specs.Heads.{head_words}
use Rattle.verdicts.proofs.Lent.{whole_tail}
use Rattle.evaluation.proofs.AcceptedTable.{lines_of, table_known, few_lines, all_lines}
use Rattle.evaluation.proofs.LinesDone.{none_done, all_done}
use Rattle.evaluation.proofs.Vectors.{line_there, line_passed, line_ends, starts_low, room, line_ready, line_fits, line_done, line_yes}
use Rattle.evaluation.proofs.walk.write_lines.Goals as goal

pub loop-init : goal.loop-init
loop-init c =
    let g = c.args.accepted in
    let first = c.head_words-to.ensures ∙ ap head_words c.is_wide.ensures in
    let none = none_done (words_of g.sheet.now) g.layout (lines_of g.sheet.now g.distances.now) (words_of c.args.answer.now) in
    rw (c.new-extents.ensures, c.new-starts.ensures, first) ((table_known g.accepting).starts, none, refl, refl, refl, refl, few_lines g.accepting)

pub line_at-next-requires : goal.line_at-next-requires
line_at-next-requires c = line_there c.args.accepted.accepting c.loop.counter (omega arith) c.loop.invariant.0 c.loop.invariant.3 c.deref-in-loop.ensures.0

pub invariant_of-earlier : goal.invariant_of-earlier
invariant_of-earlier c = record {
  low = starts_low c.args.accepted.accepting c.loop.counter (omega arith) c.loop.invariant.0 c.loop.invariant.3 c.deref-in-loop.ensures.0 c.requires _ c.loop.invariant.1
      c.loop.invariant.4 c.deref.ensures.0;
}

pub split_at_mut-before-requires : goal.split_at_mut-before-requires
split_at_mut-before-requires c =
    room c.args.accepted.accepting c.loop.counter (omega arith) c.loop.invariant.0 c.loop.invariant.3 c.deref-in-loop.ensures.0 c.requires _ c.loop.invariant.1
    c.loop.invariant.4 c.deref.ensures.0 _ c.line_at-next.ensures

pub write_line-here-requires : goal.write_line-here-requires
write_line-here-requires c =
    let split = c.split_at_mut-before.ensures in record {
      places = refl;
      ready = line_ready c.args.accepted.accepting c.loop.counter (omega arith) c.loop.invariant.0 c.loop.invariant.3 c.deref-in-loop.ensures.0 c.requires _ c.loop.invariant.1
          c.loop.invariant.4 c.deref.ensures.0 _ c.line_at-next.ensures split.front split.back;
      fits = line_fits c.args.accepted.accepting c.loop.counter (omega arith) c.loop.invariant.0 c.loop.invariant.3 c.deref-in-loop.ensures.0 c.requires _ c.loop.invariant.1
          c.loop.invariant.4 c.deref.ensures.0 _ c.line_at-next.ensures split.front split.back;
    }

pub overflow_mul-to : goal.overflow_mul-to
overflow_mul-to c = omega (
  arith,
  line_ends c.args.accepted.accepting c.loop.counter (omega arith) c.loop.invariant.0 c.loop.invariant.3 c.deref-in-loop.ensures.0 _ c.line_at-next.ensures,
  c.loop.invariant.1.ends,
)

pub with-tally-requires : goal.with-tally-requires
with-tally-requires c =
    let split = c.split_at_mut-before.ensures in
    line_yes c.args.accepted.accepting c.loop.counter (omega arith) c.loop.invariant.0 c.loop.invariant.3 c.deref-in-loop.ensures.0 c.requires _ c.loop.invariant.1
    c.loop.invariant.4 c.deref.ensures.0 _ c.line_at-next.ensures split.front split.back _ _ c.write_line-here.ensures.written

pub loop-preserved : goal.loop-preserved
loop-preserved c =
    let known = c.args.accepted.accepting in
    let split = c.split_at_mut-before.ensures in
    let passed = line_passed known c.loop.counter (omega arith) c.loop.invariant.0 c.loop.invariant.3 c.deref-in-loop.ensures.0 _ c.line_at-next.ensures in
    let fits = room known c.loop.counter (omega arith) c.loop.invariant.0 c.loop.invariant.3 c.deref-in-loop.ensures.0 c.requires _ c.loop.invariant.1
    c.loop.invariant.4 c.deref.ensures.0 _ c.line_at-next.ensures in
    let done = line_done known c.loop.counter (omega arith) c.loop.invariant.0 c.loop.invariant.3 c.deref-in-loop.ensures.0 c.requires _ c.loop.invariant.1
    c.loop.invariant.4 c.deref.ensures.0 _ c.line_at-next.ensures split.front split.back _ _ c.write_line-here.ensures.written in (
      rw c.push.ensures.items passed,
      rw (c.push-in-loop.ensures.items, c.with-tally.ensures) done,
      whole_tail _ _ split.front split.back fits _ c.write_line-here.ensures.tail ∙ c.loop.invariant.2,
      omega (arith, c.push.ensures.len, c.loop.invariant.3),
      omega (arith, c.push-in-loop.ensures.len, c.loop.invariant.4),
      c.loop.invariant.5,
      c.loop.invariant.6,
    )

pub returns-clause-written : goal.returns-clause-written
returns-clause-written c =
    let g = c.args.accepted in
    let ended = all_lines g.accepting c.loop.counter c.loop.invariant.0.passed (omega (arith, c.loop-test.false)) in
    all_done _ _ _ _ _ _ _ _ _ g.accepting ended c.loop.invariant.1
