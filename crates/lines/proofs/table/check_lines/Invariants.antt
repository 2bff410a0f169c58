-- The loop knows what `Lines` says of the vector; the measure is how many lines may still come.
use Prim.Native.Nat.{◌-◌}
use lib.ListN.{length}
use Rattle.words.specs.Bytes.{words_of}
use Rattle.checks.specs.Limits.{most_lines}
use Rattle.lines.specs.Decoding.{no_extent}
use Rattle.lines.proofs.Filled.{filled}
use Rattle.lines.proofs.Lines.{Lines}
use Rattle.lines.proofs.table.check_lines.Given as goal

abbrev pub invariant-loop-extents : goal.invariant-loop-extents
invariant-loop-extents l = Lines (words_of l.s) l.signals l.samples l.start (filled no_extent l.extents.items) (length l.extents.items) l.at

abbrev pub decreases-loop-extents : goal.decreases-loop-extents
decreases-loop-extents l = most_lines - length l.extents.items
