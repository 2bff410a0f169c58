-- The row of values is what is written: chain numbers, as many as there are places.
use Prim.Native.Nat.{◌≤◌}
use native.Mathlib.Omega.{arith}
use lib.ListN.{length}
use Rattle.verdicts.proofs.Points.{row_bound, sample_long, row_there}
use Rattle.verdicts.proofs.row.write_row.Goals as goal

pub write_values-requires : goal.write_values-requires
write_values-requires c =
    let filled = c.value_row.ensures.filled in
    let room : c.args.line.layout.places ≤ length c.value_row.new.row = omega (arith, c.requires.0.room, c.value_row.ensures.long) in
    (row_there filled room (λ l b. row_bound _ _ _ _ _ l c.requires.0.reads), omega (arith, sample_long filled room, c.requires.1))
