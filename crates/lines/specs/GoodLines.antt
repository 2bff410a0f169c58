-- What the check lets pass of a line ("The sheet": lines of the table), for the crates above: operands are earlier lines, constants have
-- 27 bits, bounds are in order, and there is a sample and none beyond T.
use Rattle.std.specs.Prelude.{◌≡◌, List, ℕ, ◌^◌, ◌<◌, ◌≤◌, length}
use Rattle.formulas.specs.Formulas.{Operator, True, AtLeast, AtMost, Not, And, Until, Somewhere, Surrounded, Or, Eventually, Always, Everywhere, Extent, end_of, Line, line_in, extent_of, InBits}

-- lower at most upper, of 28 bits
pub record Bounds (lower upper : ℕ) : Type 0 where
  pub order : lower ≤ upper
  pub small : upper < 2 ^ 28

-- an operator among v signals and k earlier lines: each field below its limit, constants of 27 bits, bounds in order
abbrev pub Sound : ℕ → ℕ → Operator → Type 0
Sound v k True = Unit {0}
Sound v k (AtLeast signal c) = (signal < v) × InBits 27 c
Sound v k (AtMost signal c) = (signal < v) × InBits 27 c
Sound v k (Not i) = i < k
Sound v k (And i j) = (i < k) × (j < k)
Sound v k (Until side i j lower upper) = (i < k) × (j < k) × Bounds lower upper
Sound v k (Somewhere i lower upper) = (i < k) × Bounds lower upper
Sound v k (Surrounded islands i j lower upper) = (i < k) × (j < k) × Bounds lower upper
Sound v k (Or i j) = (i < k) × (j < k)
Sound v k (Eventually side i lower upper) = (i < k) × Bounds lower upper
Sound v k (Always side i lower upper) = (i < k) × Bounds lower upper
Sound v k (Everywhere i lower upper) = (i < k) × Bounds lower upper

-- the extents of a table's lines
abbrev pub extents_of : List Line → ℕ → Extent
extents_of lines i = (line_in lines i).extent

-- line k of a table whose lines have the extents given
pub record GoodLine (v T : ℕ) (extents : ℕ → Extent) (k : ℕ) (line : Line) : Type 0 where
  pub some : 1 ≤ line.extent.length
  pub ends : end_of line.extent ≤ T
  pub extent : line.extent ≡ extent_of T extents line.operator
  pub sound : Sound v k line.operator

abbrev pub GoodTable : ℕ → ℕ → List Line → Type 0
GoodTable v T lines = (k : ℕ) → k < length lines → GoodLine v T (extents_of lines) k (line_in lines k)

-- all of them: at least one, and no more than there was room for
pub record GoodLines (v T most : ℕ) (lines : List Line) : Type 0 where
  pub good : GoodTable v T lines
  pub some : 1 ≤ length lines
  pub bound : length lines ≤ most
