-- What ends the loop, and what it knows of one more line: each is a law of the lines so far.
use native.Mathlib.Omega.{arith}
use mathlib.Core.Path.{refl, sym, ap}
use Rattle.std.proofs.lemmas.Grind.{common_steps}
use Rattle.std.proofs.lemmas.Bool.Decides.{nat_tests}
use Rattle.checks.specs.Checked.{mapped}
use Rattle.lines.specs.Decoding.{line_count}
use Rattle.lines.proofs.Lines.{none_found, all_found, too_many, read_within, read_refused, read_passed}
use Rattle.lines.proofs.table.check_lines.Goals as goal

pub returns-then-is_full : goal.returns-then-is_full
returns-then-is_full c = rw c.at.ensures (too_many _ _ _ _ c.loop-extents.invariant (sym c.loop-extents-test.ensures) (grind (arith, nat_tests)))

pub decode_line-requires-clause-within : goal.decode_line-requires-clause-within
decode_line-requires-clause-within c = (c.requires, rw c.deref.ensures.0 (read_within _ _ _ _ _ c.loop-extents.invariant))

pub returns-then-is_empty : goal.returns-then-is_empty
returns-then-is_empty c = rw c.at-then-is_empty.ensures (none_found _ _ _ _ c.loop-extents.invariant (sym c.loop-extents-test.ensures) (grind (arith, nat_tests)))

pub returns : goal.returns
returns c = rw c.len.ensures.value (all_found _ _ _ _ c.loop-extents.invariant (sym c.loop-extents-test.ensures) (grind (arith, nat_tests)))

pub returns-in_err-line : goal.returns-in_err-line
returns-in_err-line c =
    let refused = rw c.deref.ensures.0 at (sym c.in_err-line.ensures) in
    let told = sym (ap (mapped line_count) (read_refused _ _ _ _ _ c.loop-extents.invariant (sym c.loop-extents-test.ensures) (grind (arith, nat_tests)) refused)) in
    grind (arith, common_steps)

pub loop-extents-preserved : goal.loop-extents-preserved
loop-extents-preserved c =
    let passed = rw c.deref.ensures.0 at (sym c.in_ok-line.ensures) in
    rw c.push.ensures.items (read_passed _ _ _ _ _ c.loop-extents.invariant (sym c.loop-extents-test.ensures) (grind (arith, nat_tests)) passed _ refl)
