-- Each turn decodes the strip of one place more of the first ones.
use Rattle.std.proofs.Common.{◌++◌}
use lib.ListN.{drop}
use Rattle.words.specs.Bytes.{words_of}
use Rattle.lanes.specs.Lanes.{row_of}
use Rattle.lanes.specs.Rows.{RowWritten, lane_signal}
use Rattle.lanes.proofs.rows.load.Given as goal

abbrev pub invariant-loop-l : goal.invariant-loop-l
invariant-loop-l l = RowWritten (row_of l.fn.row) l.l (lane_signal (words_of l.words) l.start l.places l.block) l.fn.rows (l.place-items ++ drop l.places l.fn.rows)
