-- The row holds the values at the sample before: those of the operator that the arm has.
use Rattle.verdicts.specs.Rows.{row_value}
use Rattle.verdicts.proofs.Points.{ready_as}
use Rattle.verdicts.proofs.row_values.value_row.Goals as goal

pub eventually_row-requires : goal.eventually_row-requires
unfolding row_value
eventually_row-requires c = let here = ready_as c.requires c.in-Eventually.is in rw c.operand-in-Eventually.ensures (here.reads, here.room, here.former)
