-- What is accepted, found, needed and written, by the bytes that a call is lent. For what is found and needed only how many distances there are counts.
use Rattle.std.specs.Prelude.{List, ℕ, length}
use Rattle.words.specs.Bytes.{words_of, numbers_of}
use Rattle.sheet.specs.declared.check.Layout as Code
use Rattle.checks.specs.Heads.{is_wide}
use Rattle.sheet.specs.Layout.{Layout}
use Rattle.answers.specs.Answer.{line_index, words_needed}
use Rattle.evaluation.specs.Lines.{found, Accepting}

module _ (sheet distances : List ℕ) where
  abbrev pub AcceptingIn : Code.Layout → Type 0
  AcceptingIn layout = Accepting (words_of sheet) layout (numbers_of (words_of distances))

  abbrev pub found_in : Layout
  found_in = found (words_of sheet) (length (numbers_of (words_of distances)))

  -- how many words the answer needs
  abbrev pub needed_in : ℕ
  needed_in = words_needed (is_wide (words_of sheet)) found_in.sizes.places found_in.lines

  -- where the lines of the answer end
  abbrev pub lines_end_in : Code.Layout → ℕ
  lines_end_in layout = line_index (is_wide (words_of sheet)) layout.places found_in.lines layout.lines
