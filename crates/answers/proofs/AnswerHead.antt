-- The first words of an answer, narrow or wide, as they are read back: its layout, its places, its lines and its samples.
use mathlib.Core.Path.{◌≡◌, ap, ◌∙◌}
use mathlib.Core.Bool.{Bool}
use mathlib.Core.List.{List, [], ◌∷◌, ◌++◌, append_assoc}
use Prim.Native.Nat.{ℕ, ◌-◌, ◌^◌, ◌<◌}
use native.Mathlib.Omega.{arith}
use lib.ListN.{length, replicate}
use Rattle.words.specs.Word.{word_of}
use Rattle.words.specs.Rows.{concat, padded}
use Rattle.network.specs.Network.{Network}
use Rattle.formulas.specs.Formulas.{end_of, Line, line_in, Recording}
use Rattle.checks.specs.Heads.{HeadFits, is_wide, places_of}
use Rattle.checks.proofs.ReadBack as head
use Rattle.lookup.specs.Lookup.{head_lines, head_samples}
use Rattle.answers.specs.Answer.{line_index, line_words, answer_head, answer_words}

-- what the fields of an answer have to hold
pub record InFields (wide : Bool) (n T : ℕ) (lines : List Line) : Type 0 where
  pub head : HeadFits 13 wide n (length lines) T
  pub ends : (i : ℕ) → end_of (line_in lines i).extent < 2 ^ 12

not_wide : ◌≡◌ {A = ℕ} 13 10 → ⊥
not_wide e = omega (arith, e)

module _ (N : Network) (T : ℕ) (x : Recording) (lines : List Line) (room : ℕ) where
  abbrev pub answer_of : Bool → List ℕ
  answer_of wide = padded (answer_words N T x lines wide) room

  -- lines, end and zeros follow the head
  abbrev pub after_head : Bool → List ℕ
  after_head wide =
      (concat (line_words N T x lines) (length lines) ++ (word_of 15 (line_index wide (N.places) lines (length lines)) ∷ []))
      ++ replicate (room - length (answer_words N T x lines wide)) 0

  pub begins : (wide : Bool) → answer_of wide ≡ answer_head wide (N.places) (length lines) T ++ after_head wide
  unfolding answer_words
  begins wide = append_assoc (answer_head wide (N.places) (length lines) T) _ _

  module _ (wide : Bool) (fits : InFields wide (N.places) T lines) where
    pub layout_read : is_wide (answer_of wide) ≡ wide
    layout_read = ap is_wide (begins wide) ∙ head.layout_read 13 (N.places) (length lines) T (after_head wide) wide fits.head not_wide

    pub places_read : places_of (answer_of wide) ≡ N.places
    places_read = ap places_of (begins wide) ∙ head.places_read 13 (N.places) (length lines) T (after_head wide) wide fits.head not_wide

    pub lines_read : head_lines (answer_of wide) ≡ length lines
    lines_read = ap head_lines (begins wide) ∙ head.count_read 13 (N.places) (length lines) T (after_head wide) wide fits.head not_wide

    pub samples_read : head_samples (answer_of wide) ≡ T
    samples_read = ap head_samples (begins wide) ∙ head.samples_read 13 (N.places) (length lines) T (after_head wide) wide fits.head not_wide
