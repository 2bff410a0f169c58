-- Each turn puts the sample of one lane more after those before it, and adds its yes verdicts.
use mathlib.Core.Path.{◌≡◌}
use Prim.Native.Nat.{◌+◌, ◌*◌}
use lib.ListN.{length}
use Rattle.lanes.specs.Lanes.{out_row, row_in}
use Rattle.samples.proofs.LineRows.{RowsDone}
use Rattle.verdicts.proofs.around.write_lanes.Given as goal

abbrev pub invariant-loop-lane : goal.invariant-loop-lane
invariant-loop-lane g l = (length l.values ≡ g.row.N) × RowsDone (row_in l.rows out_row) l.places l.initial.own l.to l.lane l.own (l.to + l.lane * l.places) l.yes
