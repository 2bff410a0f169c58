-- Each turn passes one line and adds its words.
use mathlib.Core.Path.{◌≡◌}
use Prim.Native.Nat.{◌+◌, ◌-◌, ◌≤◌}
use lib.ListN.{length}
use Rattle.words.specs.Bytes.{words_of}
use Rattle.checks.specs.Limits.{most_lines}
use Rattle.checks.specs.Heads.{is_wide}
use Rattle.lines.specs.Decoding.{no_extent}
use Rattle.lines.proofs.Filled.{filled}
use Rattle.lines.proofs.Walk.{Walk}
use Rattle.answers.specs.Answer.{line_index}
use Rattle.evaluation.proofs.AcceptedTable.{lines_of}
use Rattle.evaluation.proofs.walk.words_needed.Given as goal

abbrev pub invariant-loop : goal.invariant-loop
invariant-loop l =
    let lines = lines_of l.accepted.sheet.now l.accepted.distances.now in
    Walk (words_of l.accepted.sheet.now) l.layout.signals l.layout.samples lines l.counter l.at (filled no_extent l.extents.items)
    × (l.needed ≡ 1 + line_index (is_wide (words_of l.accepted.sheet.now)) l.layout.places lines l.counter)
    × (length l.extents.items ≡ l.counter)
    × (l.end ≡ l.layout.lines)
    × (l.layout.lines ≤ most_lines)

abbrev pub decreases-loop : goal.decreases-loop
decreases-loop l = l.end - l.counter
