-- The lines of the table ("The sheet"; refusals 10 and 13), each with its operator and its extent.
use Rattle.std.specs.Prelude.{ℕ, zero, suc, Bool, true, false, not, ◌&&◌, ◌||◌, List, [], ◌∷◌, ◌++◌, ltb, leb, eqb, length}
use Rattle.words.specs.Word.{kind_of}
use Rattle.formulas.specs.Formulas.{Extent, Line, line_in, extent_of}
use Rattle.checks.specs.Checked.{Checked, accepted, ◌>>=◌, require, is_kind}
use Rattle.codes.specs.Operators.{code_field, operator_at}

module _ (s : List ℕ) where
  -- the line at an index, after `lines` earlier ones of the extents given, and the index after it; a line without a sample is told at the line
  -- word, after its parameters
  unfoldable pub line_at : ℕ → ℕ → ℕ → (ℕ → Extent) → ℕ → Checked (Line × ℕ)
  line_at v T lines extents at = operator_at s v lines at >>= λ read.
      let extent : Extent = extent_of T extents read.0 in
      require (leb 1 extent.length) 13 at (accepted (record { operator = read.0; extent = extent }, read.1))

  -- the lines from an index on, after the earlier ones, and the index after the last; `room` more may come. The first word that is not of
  -- kind 5 ends them.
  unfoldable pub lines_from : ℕ → ℕ → ℕ → List Line → ℕ → Checked (List Line × ℕ)
  lines_from v T zero lines at = require (not (is_kind 5 s at)) 10 at (accepted (lines, at))
  lines_from v T (suc room) lines at = elim (is_kind 5 s at) [
    | true ↦ line_at v T (length lines) (λ i. (line_in lines i).extent) at >>= (λ read. lines_from v T room (lines ++ (read.0 ∷ [])) read.1)
    | false ↦ require (ltb 0 (length lines)) 10 at (accepted (lines, at))
  ]

-- a line word with this code, and whether there is one, by the words alone: in an accepted sheet the words of kind 5 are the line words (M-103)
abbrev pub line_of : ℕ → ℕ → Bool
line_of code w = eqb (kind_of w) 5 && eqb (code_field w) code

abbrev pub has_code : ℕ → List ℕ → Bool
has_code code [] = false
has_code code (w ∷ s) = line_of code w || has_code code s
