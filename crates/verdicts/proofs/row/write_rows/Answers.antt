-- Each turn puts one row more after those of the line, and adds its yes verdicts.
use mathlib.Core.Path.{refl, subst, ◌∙◌}
use Prim.Native.Nat.{ℕ}
use native.Mathlib.Omega.{arith}
use Rattle.words.proofs.Words.{words_count}
use Rattle.operators.specs.Rows.{Filled}
use Rattle.samples.proofs.LineRows.{none_done, next_at, yes_fits, row_room, all_done, one_more}
use Rattle.verdicts.specs.Rows.{value_in}
use Rattle.std.proofs.Common.{rules}
use Rattle.verdicts.proofs.row.write_rows.Goals as goal

pub loop-t-init : goal.loop-t-init
loop-t-init c = (search rules, next_at _ _ _ _ (none_done _ _ _ _) (omega arith), search rules, λ u e. absurd (omega arith))

pub write_row-yes-requires : goal.write_row-yes-requires
write_row-yes-requires c =
    let loop = c.loop-t in (
      record {
        sheet = c.requires.0.sheet;
        reads = c.requires.0.reads loop.t c.loop-t-test.true;
        room = omega (arith, loop.invariant.2, c.requires.0.sheet.places);
        former = loop.invariant.3;
      },
      row_room _ _ _ _ loop.invariant.1 (omega (arith, c.requires.1)) c.loop-t-test.true,
    )

pub overflow_add-yes : goal.overflow_add-yes
overflow_add-yes c =
    let loop = c.loop-t in
    omega (arith, yes_fits _ _ _ _ loop.invariant.1 _ c.write_row-yes.ensures.counted, row_room _ _ _ _ loop.invariant.1 (omega (arith, c.requires.1)) c.loop-t-test.true, words_count loop.own)

pub loop-t-preserved : goal.loop-t-preserved
loop-t-preserved c =
    let loop = c.loop-t in
    let called = c.write_row-yes in (
      search rules,
      next_at _ _ _ _ (one_more _ _ _ _ loop.invariant.1 refl (omega arith) called.auto.own called.ensures.written called.ensures.counted called.ensures.tail) (omega arith),
      called.auto.held ∙ loop.invariant.2,
      λ u e. subst (λ (v : ℕ). Filled c.args.line.layout.places (value_in c.args.line v) called.new.held) (omega arith) called.ensures.held,
    )

pub returns-clause-written : goal.returns-clause-written
returns-clause-written c = all_done _ _ _ _ c.loop-t.invariant.1 (omega arith)
