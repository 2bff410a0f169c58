-- For contracts alone, with nothing of document 01: what the code's decoded lines say, in the terms of `Lines`.
use Rattle.std.specs.Prelude.{ℕ, ◌≤◌, List, [], length, get_or}
use Rattle.formulas.specs.Formulas as Formulas
use Rattle.lines.specs.declared.extent.Extent.{Extent}
use Rattle.lines.specs.declared.line.Line.{Line}
use Rattle.checks.specs.Limits.{most_lines}
use Rattle.checks.specs.Checked.{Checked, mapped}
use Rattle.codes.specs.Decoding.{operator_said}
use Rattle.lines.specs.Lines.{line_at, lines_from}
use Rattle.lines.specs.GoodLines.{Sound}

abbrev pub extent_said : Extent → Formulas.Extent
extent_said e = Formulas.span e.first e.length

abbrev pub line_said : Line → Formulas.Line
line_said l = record { operator = operator_said l.operator; extent = extent_said l.extent }

-- a line and the index after its words
abbrev pub line_and_next : Line × ℕ → Formulas.Line × ℕ
line_and_next read = (line_said read.0, read.1)

-- the extents of earlier lines; a line that is not there has no sample
abbrev pub no_extent : Extent
no_extent = record { first = 0; length = 0 }

abbrev pub extent_in : List Extent → ℕ → Formulas.Extent
extent_in earlier i = extent_said (get_or earlier i no_extent)

abbrev pub ExtentsWithin : ℕ → List Extent → Type 0
ExtentsWithin T earlier = (i : ℕ) → Formulas.end_of (extent_in earlier i) ≤ T

-- an operator that was read, among some signals and some earlier lines
pub record SoundSomewhere (o : Formulas.Operator) : Type 0 where
  pub signals : ℕ
  pub lines : ℕ
  pub sound : Sound signals lines o

-- the line at an index, after the earlier ones of these extents
abbrev pub line_after : List ℕ → ℕ → ℕ → List Extent → ℕ → Checked (Formulas.Line × ℕ)
line_after s v T earlier at = line_at s v T (length earlier) (extent_in earlier) at

-- the table from an index on: of the lines that were read the code keeps their count
abbrev pub line_count : List Formulas.Line × ℕ → ℕ × ℕ
line_count found = (length found.0, found.1)

abbrev pub table_at : List ℕ → ℕ → ℕ → ℕ → Checked (ℕ × ℕ)
table_at s v T start = mapped line_count (lines_from s v T most_lines [] start)
