-- What the writer of a located line makes of it and what it reads; and that the line is located: what is read is there, and what is made is the line's.
use mathlib.Core.Path.{◌≡◌}
use mathlib.Core.List.{List}
use Prim.Native.Nat.{ℕ, ◌+◌, ◌<◌}
use Rattle.formulas.specs.Formulas.{Extent}
use Rattle.logic.specs.Table.{Signal}
use Rattle.sheet.specs.declared.check.Layout.{Layout}
use Rattle.codes.specs.declared.operator.Operator.{Operator}
use Rattle.codes.specs.Decoding.{operator_said}
use Rattle.lines.specs.declared.extent.Extent as Read
use Rattle.values.specs.Chain.{chains}
use Rattle.locating.specs.declared.Located.{Located}
use Rattle.locating.specs.declared.Located.TheVariants.{Rows, Blocks}
use Rattle.verdicts.specs.Rows.{row_value, RowReads}
use Rattle.verdicts.specs.Around.{AroundReady, around_value, around_rounds}
use Rattle.evaluation.specs.Writing.{line_value, line_rounds}

module _ (s : List ℕ) (L : Layout) (distances words : List ℕ) where
  abbrev pub value_of : Located → Signal chains
  value_of (Rows row) = row_value s L words row
  value_of (Blocks around) = around_value words L s distances around

  abbrev pub rounds_of : Located → ℕ → ℕ → ℕ
  rounds_of (Rows row) = λ _ _. 0
  rounds_of (Blocks around) = around_rounds words L s distances around

  abbrev pub Reads : Located → ℕ → Type 0
  Reads (Rows row) samples = (t : ℕ) → t < samples → RowReads L words row t
  Reads (Blocks around) samples = AroundReady words L s distances around samples

  pub record LineLocated (starts : List ℕ) (extents : List Read.Extent) (o : Operator) (extent : Extent) (located : Located) : Type 0 where
    pub reads : Reads located extent.length
    pub values : (t l : ℕ) → l < L.places → value_of located t l ≡ line_value s L words starts extents (operator_said o) (extent.first + t) l
    pub rounds : (t l : ℕ) → l < L.places → rounds_of located t l ≡ line_rounds s L words starts extents (operator_said o) (extent.first + t) l
