-- What a survey leaves in the lent table: the distances of an accepted sheet and zeros beyond ("Distance"), zeros alone on a refusal ("Where a
-- sheet is turned back").
use Rattle.std.specs.Prelude.{List, ℕ, replicate}
use Rattle.words.specs.Rows.{padded}
use Rattle.checks.specs.Checked.{Checked, accepted, refused}
use Rattle.sheet.specs.Layout.{Layout, checked}
use Rattle.distances.specs.Distances.{distance_table}
use Rattle.sheet.specs.Recording.{network}

abbrev pub surveyed_by : List ℕ → ℕ → Checked Layout → List ℕ
surveyed_by s room (accepted L) = padded (distance_table (network s L)) room
surveyed_by s room (refused number place) = replicate room 0

unfoldable pub surveyed : List ℕ → ℕ → List ℕ
surveyed s room = surveyed_by s room (checked s room)
