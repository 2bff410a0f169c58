-- A line is at most 2^28 words long, and there are less than 2^8 lines.
use Rattle.std.proofs.Common.{◌+◌, ◌*◌, ◌^◌, ◌≤◌}
use Rattle.print_verdicts.proofs.print_lines.Given as goal

abbrev pub invariant-loop-line : goal.invariant-loop-line
invariant-loop-line g l = (l.at ≤ 2 + l.line * 2 ^ 28) × (l.rows ≤ l.line * 2 ^ 12)
