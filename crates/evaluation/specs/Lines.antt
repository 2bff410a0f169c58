-- For inner contracts only: all lines of the answer to an accepted sheet, what the engine knows of the sheet, and what writing its lines leaves.
use Rattle.std.specs.Prelude.{◌≡◌, List, [], ℕ, ◌<◌, length}
use Rattle.words.specs.Rows.{concat, padded, put}
use Rattle.formulas.specs.Formulas.{Line}
use Rattle.lines.specs.declared.extent.Extent.{Extent}
use Rattle.lines.specs.Lines.{line_at}
use Rattle.lines.specs.Decoding.{extent_in, ExtentsWithin}
use Rattle.logic.specs.Counts.{greatest_rounds, yes_count}
use Rattle.sheet.specs.declared.check.Layout as Code
use Rattle.checks.specs.Checked.{Checked, accepted, refused}
use Rattle.checks.specs.Heads.{head_words, is_wide}
use Rattle.sheet.specs.Layout.{Layout, checked}
use Rattle.distances.specs.Distances.{distance_table}
use Rattle.sheet.specs.Recording.{network, recording}
use Rattle.sheet.specs.Checking.{layout_of}
use Rattle.samples.specs.declared.tally.Tally.{Tally}
use Rattle.answers.specs.Answer.{line_index, line_words}

abbrev pub found_by : Checked Layout → Layout
found_by (accepted L) = L
found_by (refused number place) = record { sizes = record { places = 0; signals = 0; samples = 0 }; roads = 0; lines = [] }

-- what the check of a sheet finds, given how many distances are lent; nothing where it refuses
unfoldable pub found : List ℕ → ℕ → Layout
found s distances = found_by (checked s distances)

-- the check has accepted the sheet with this layout, and the lent table holds its distances
pub record Accepting (s : List ℕ) (layout : Code.Layout) (distances : List ℕ) : Type 0 where
  pub accepts : checked s (length distances) ≡ accepted (found s (length distances))
  pub laid : layout ≡ layout_of s (found s (length distances))
  pub measured : distances ≡ padded (distance_table (network s (found s (length distances)))) (length distances)

-- what the check reads at an index, after earlier lines of these extents
abbrev pub line_read : List ℕ → Code.Layout → List Extent → ℕ → Checked (Line × ℕ)
line_read s layout earlier at = line_at s layout.signals layout.samples (length earlier) (extent_in earlier) at

-- it is a line
pub record LineThere (s : List ℕ) (layout : Code.Layout) (earlier : List Extent) (at : ℕ) : Type 0 where
  pub there : at < length s
  pub within : ExtentsWithin layout.samples earlier
  pub found : Line × ℕ
  pub reads : line_read s layout earlier at ≡ accepted found

-- the lines of an accepted sheet, written one after the other behind the head
module _ (s : List ℕ) (L : Layout) (answer : List ℕ) where
  pub record LinesWritten (after : List ℕ) (end : ℕ) (tally : Tally) : Type 0 where
    pub written : after ≡ put answer (head_words (is_wide s)) (concat (line_words (network s L) L.sizes.samples (recording s L) L.lines) (length L.lines))
    pub ends : end ≡ line_index (is_wide s) L.sizes.places L.lines (length L.lines)
    pub greatest : tally.rounds ≡ greatest_rounds (network s L) (recording s L) L.lines
    pub counted : tally.yes ≡ yes_count (network s L) (recording s L) L.lines
