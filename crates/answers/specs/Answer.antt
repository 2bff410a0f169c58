-- Document 01, "The answer", and requests M-100 and M-104: the words of the answer to an accepted sheet, wide if the sheet is.
use Rattle.std.specs.Prelude.{ℕ, ◌+◌, ◌*◌, ◌^◌, Bool, List, [], ◌∷◌, ◌++◌, length}
use Rattle.words.specs.Word.{word_of}
use Rattle.words.specs.Rows.{concat, rows}
use Rattle.network.specs.Network.{Network}
use Rattle.formulas.specs.Formulas.{Extent, Line, line_in, Recording}
use Rattle.logic.specs.Table.{verdicts, margins, value_at}
use Rattle.counting.specs.Totals.{sum_below}
use Rattle.checks.specs.Heads.{head_words, head_for}
use Rattle.values.specs.Said.{verdict_word}

-- the head, by the places, how many lines there are, and the samples: of kind 13
abbrev pub answer_head : Bool → ℕ → ℕ → ℕ → List ℕ
answer_head = head_for 13

module _ (wide : Bool) (n : ℕ) (lines : List Line) where
  -- the index of line i's first word: after the head and the earlier lines
  unfoldable pub line_index : ℕ → ℕ
  line_index i = head_words wide + sum_below (λ k. 1 + (line_in lines k).extent.length * n) i

  -- head, lines and end
  unfoldable pub words_needed : ℕ
  words_needed = 1 + line_index (length lines)

-- kind 14: bits 23..12 the first sample, 11..0 the length
abbrev pub first_word : Extent → ℕ
first_word e = word_of 14 (e.first * 2 ^ 12 + e.length)

module _ (N : Network) (T : ℕ) (x : Recording) (lines : List Line) where
  -- verdict and margin of line i at sample t and place l
  unfoldable pub word_for : ℕ → ℕ → ℕ → ℕ
  word_for i t l = verdict_word (value_at verdicts N x lines i t l) (value_at margins N x lines i t l)

  -- then the verdicts, sample outermost, then place
  unfoldable pub line_words : ℕ → List ℕ
  line_words i =
      let e : Extent = (line_in lines i).extent in
      first_word e ∷ rows (λ u. word_for i (e.first + u)) e.length N.places

  unfoldable pub answer_words : Bool → List ℕ
  answer_words wide = answer_head wide (N.places) (length lines) T ++ (concat line_words (length lines) ++ (word_of 15 (line_index wide (N.places) lines (length lines)) ∷ []))
