-- The samples are the words of the sheet from the recording on, as many as there are signals at all places and samples.
use mathlib.Core.Path.{ap₂}
use mir.Facts.{to_z-of_z}
use Rattle.operators.specs.Rows.{atom_value}
use Rattle.operators.proofs.RowLaws.{left_same}
use Rattle.verdicts.proofs.Points.{sample_read}
use Rattle.verdicts.proofs.row_values.recorded_row.Goals as goal

pub returns : goal.returns
returns c =
    left_same c.atom_row.ensures (λ l b. ap₂ (atom_value c.args.atleast) (sample_read c.args.sheet.now c.args.layout c.requires.1 c.requires.2 b) (to_z-of_z c.ranges.constant))
