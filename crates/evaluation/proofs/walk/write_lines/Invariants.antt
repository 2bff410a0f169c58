-- Each turn passes one line and writes it behind those before.
use mathlib.Core.Path.{◌≡◌}
use Prim.Native.Nat.{◌-◌, ◌≤◌}
use lib.ListN.{length}
use Rattle.words.specs.Bytes.{words_of, after_words}
use Rattle.checks.specs.Limits.{most_lines}
use Rattle.lines.specs.Decoding.{no_extent}
use Rattle.lines.proofs.Filled.{filled}
use Rattle.lines.proofs.Walk.{Walk}
use Rattle.evaluation.proofs.AcceptedTable.{lines_of}
use Rattle.evaluation.proofs.LinesDone.{LinesDone}
use Rattle.evaluation.proofs.walk.write_lines.Given as goal

abbrev pub invariant-loop : goal.invariant-loop
invariant-loop l =
    let lines = lines_of l.accepted.sheet.now l.accepted.distances.now in
    Walk (words_of l.accepted.sheet.now) l.layout.signals l.layout.samples lines l.counter l.at (filled no_extent l.extents.items)
    × LinesDone (words_of l.accepted.sheet.now) l.layout lines (words_of l.initial.answer) l.counter (words_of l.answer) (filled 0 l.starts.items) l.to l.tally
    × (after_words l.answer ≡ after_words l.initial.answer)
    × (length l.extents.items ≡ l.counter)
    × (length l.starts.items ≡ l.counter)
    × (l.end ≡ l.layout.lines)
    × (l.layout.lines ≤ most_lines)

abbrev pub decreases-loop : goal.decreases-loop
decreases-loop l = l.end - l.counter
