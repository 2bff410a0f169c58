-- Each turn passes one line and adds its words: `Vectors` has what one turn rests on.
use mathlib.Core.Path.{◌≡◌, refl, ap, ap₂, ◌∙◌}
use Prim.Native.Nat.{ℕ, ◌+◌}
use native.Mathlib.Omega.{arith}
use lib.ListN.{length}
use Rattle.words.specs.Bytes.{words_of}
use Rattle.counting.specs.Totals.{sum_below}
use Rattle.sheet.specs.declared.check.Layout.{Layout}
use Rattle.checks.specs.Heads.{head_words, is_wide}
use Rattle.answers.specs.Answer.{line_index, words_needed}
use Rattle.evaluation.proofs.AcceptedTable.{lines_of, table_known, all_lines, few_lines}
use Rattle.evaluation.proofs.Vectors.{line_there, line_passed, line_ends}
use Rattle.evaluation.proofs.walk.words_needed.Goals as goal

pub loop-init : goal.loop-init
unfolding line_index sum_below
loop-init c =
    let known = c.args.accepted.accepting in
    let first = c.head_words-needed.ensures ∙ ap head_words c.is_wide.ensures in
    rw c.new-extents.ensures ((table_known known).starts, omega (arith, first), refl, refl, few_lines known)

pub line_at-next-requires : goal.line_at-next-requires
line_at-next-requires c = line_there c.args.accepted.accepting c.loop.counter (omega arith) c.loop.invariant.0 c.loop.invariant.2 c.deref.ensures.0

pub overflow_mul-needed : goal.overflow_mul-needed
overflow_mul-needed c = omega (
  arith,
  line_ends c.args.accepted.accepting c.loop.counter (omega arith) c.loop.invariant.0 c.loop.invariant.2 c.deref.ensures.0 _ c.line_at-next.ensures,
)

pub overflow_add-needed-in-loop : goal.overflow_add-needed-in-loop
overflow_add-needed-in-loop c = omega (
  arith,
  line_ends c.args.accepted.accepting c.loop.counter (omega arith) c.loop.invariant.0 c.loop.invariant.2 c.deref.ensures.0 _ c.line_at-next.ensures,
)

pub overflow_add-needed-in-loop-2 : goal.overflow_add-needed-in-loop-2
overflow_add-needed-in-loop-2 c = omega (
  arith,
  line_ends c.args.accepted.accepting c.loop.counter (omega arith) c.loop.invariant.0 c.loop.invariant.2 c.deref.ensures.0 _ c.line_at-next.ensures,
  c.loop.invariant.1,
)

pub loop-preserved : goal.loop-preserved
loop-preserved c =
    let known = c.args.accepted.accepting in
    let ends = line_ends known c.loop.counter (omega arith) c.loop.invariant.0 c.loop.invariant.2 c.deref.ensures.0 _ c.line_at-next.ensures in
    let passed = line_passed known c.loop.counter (omega arith) c.loop.invariant.0 c.loop.invariant.2 c.deref.ensures.0 _ c.line_at-next.ensures in (
      rw c.push.ensures.items passed,
      omega (arith, ends, c.loop.invariant.1),
      omega (arith, c.push.ensures.len, c.loop.invariant.2),
      c.loop.invariant.3,
      c.loop.invariant.4,
    )

pub returns : goal.returns
unfolding words_needed
returns c =
    let g = c.args.accepted in
    let ended : c.loop.counter ≡ length (lines_of g.sheet.now g.distances.now) = all_lines g.accepting _ c.loop.invariant.0.passed (omega (arith, c.loop-test.false)) in
    c.loop.invariant.1 ∙ ap₂ (λ (l : Layout) (k : ℕ). 1 + line_index (is_wide (words_of g.sheet.now)) l.places (lines_of g.sheet.now g.distances.now) k) g.accepting.laid ended
