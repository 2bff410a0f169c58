-- For inner contracts only: an operator with its operands by where they stand, each the index from which its signal is read. Row t of a line is its
-- sample first + t, and every operand is read from one sample of the recording on: the line's first or, to look back, that of the upper bound
-- earlier, from where since reads on and once is eventually.
use Rattle.std.specs.Prelude.{Bool, true, false, List, ℕ, ◌-◌}
use Rattle.codes.specs.declared.operator.Bounds.{Bounds}
use Rattle.codes.specs.declared.operator.Direction.{Direction}
use Rattle.codes.specs.declared.operator.Direction.TheVariants.{Forward, Backward}
use Rattle.codes.specs.declared.operator.Operator.{Operator}
use Rattle.codes.specs.declared.operator.Operator.TheVariants as Read
use Rattle.lines.specs.declared.extent.Extent.{Extent}
use Rattle.lines.specs.declared.line.Line.{Line}
use Rattle.locating.specs.Starts.{start_at}
use Rattle.locating.specs.declared.Around.TheVariants.{Surround, Range}
use Rattle.locating.specs.declared.RowOperator.TheVariants.{True, Atom, Not, Both, Until, Eventually}
use Rattle.locating.specs.declared.Located.{Located}
use Rattle.locating.specs.declared.Located.TheVariants.{Rows, Blocks}

-- the sample from which the operands of a line are read that has samples from the first on
abbrev pub read_on : ℕ → Direction → ℕ → ℕ
read_on first Forward upper = first
read_on first Backward upper = first - upper

module _ (starts : List ℕ) (extents : List Extent) (places : ℕ) where
  abbrev at : ℕ → ℕ → ℕ
  at sample j = start_at starts extents places sample j

  module _ (first : ℕ) where
    abbrev pub both_located : ℕ → ℕ → Bool → Located
    both_located left right dual = Rows (Both (at first left) (at first right) dual)

    abbrev pub until_located : Direction → ℕ → ℕ → Bounds → Located
    until_located direction left right b = Rows (Until (record { left = at (read_on first direction b.upper) left; right = at (read_on first direction b.upper) right; bounds = b; direction = direction }))

    abbrev pub eventually_located : Direction → ℕ → Bounds → Bool → Located
    eventually_located Forward left b dual = Rows (Eventually (at first left) b dual)
    eventually_located Backward left b dual = Rows (Eventually (at (first - b.upper) left) (record { lower = 0; upper = b.upper - b.lower }) dual)

    abbrev pub surround_located : Bool → ℕ → ℕ → Bounds → Located
    surround_located islands left right b = Blocks (Surround (record { left = at first left; right = at first right; bounds = b; islands = islands }))

    abbrev pub range_located : ℕ → Bounds → Bool → Located
    range_located left b dual = Blocks (Range (record { left = at first left; bounds = b; dual = dual }))

    abbrev pub located_by : Operator → Located
    located_by Read.True = Rows True
    located_by (Read.AtLeast signal c) = Rows (Atom signal c true)
    located_by (Read.AtMost signal c) = Rows (Atom signal c false)
    located_by (Read.Not left) = Rows (Not (at first left))
    located_by (Read.And left right) = both_located left right false
    located_by (Read.Until direction left right b) = until_located direction left right b
    located_by (Read.Somewhere left b) = range_located left b false
    located_by (Read.Surrounded islands left right b) = surround_located islands left right b
    located_by (Read.Or left right) = both_located left right true
    located_by (Read.Eventually direction left b) = eventually_located direction left b false
    located_by (Read.Always direction left b) = eventually_located direction left b true
    located_by (Read.Everywhere left b) = range_located left b true

  abbrev pub located_of : Line → Located
  located_of line = located_by line.extent.first line.operator
