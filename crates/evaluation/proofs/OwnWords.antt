-- A line's own words: the first is put, and those behind it are lent apart to the writer that the line goes to and come back as it leaves them.
use mathlib.Core.Path.{◌≡◌, sym, ap, ◌∙◌}
use mathlib.Core.List.{List, [], ◌∷◌, ◌++◌}
use Prim.Native.Nat.{ℕ, ◌+◌, ◌*◌, ◌<◌, ◌≤◌}
use native.Mathlib.Omega.{arith}
use lib.ListN.{length, set, take, drop, length-set}
use Rattle.words.specs.Bytes.{words_of, after_words, bytes_of}
use Rattle.words.specs.Rows.{put}
use Rattle.words.proofs.Words.{words_count}
use Rattle.words.proofs.Tails.{word_tail}
use Rattle.sheet.specs.declared.check.Layout.{Layout}
use Rattle.lines.specs.declared.extent.Extent.{Extent}
use Rattle.lines.specs.declared.line.Line.{Line}
use Rattle.lines.specs.Decoding.{line_said}
use Rattle.samples.specs.declared.tally.Tally.{Tally}
use Rattle.samples.specs.Written.{SamplesWritten}
use Rattle.locating.specs.declared.Located.{Located}
use Rattle.locating.specs.Located.{located_of}
use Rattle.answers.specs.Answer.{first_word}
use Rattle.verdicts.proofs.Lent.{whole_written, whole_tail}
use Rattle.evaluation.specs.Line.{LineReady, LineWritten}
use Rattle.evaluation.specs.Lines.{Accepting}
use Rattle.evaluation.proofs.AcceptedTable.{table_known}
use Rattle.evaluation.proofs.LineLocated.{line_located}
use Rattle.evaluation.proofs.LineWords.{line_written}
use Rattle.evaluation.proofs.Writers.{value_of, rounds_of, LineLocated}

module _ {s : List ℕ} {layout : Layout} {distances : List ℕ} (accepting : Accepting s layout distances) (line : Line) {words starts : List ℕ} {extents : List Extent}
    (ready : LineReady layout words starts extents (line_said line)) {places : ℕ} (same : places ≡ layout.places)
    {located way : Located} (told : located ≡ located_of starts extents places line) (is : located ≡ way) where
  pub line_here : LineLocated s layout distances words starts extents line.operator (line_said line).extent way
  line_here = let table = table_known accepting in line_located line table.surveyed table.roads ready (rw same at (sym told ∙ is))

  -- what the writer leaves behind the first word is the line, and what is behind the line is as it was
  pub own_written : (own : List ℕ) → 1 + line.extent.length * layout.places ≤ length (words_of own) → {w : ℕ} → w ≡ first_word (line_said line).extent
      → {firsts : List ℕ} → words_of firsts ≡ set (words_of own) 0 w → firsts ≡ put own (0 * 4) (bytes_of (w ∷ []))
      → {front verdicts : List ℕ} → front ≡ take 4 firsts → verdicts ≡ drop 4 firsts → (after : List ℕ) {tally : Tally}
      → SamplesWritten (value_of s layout distances words way) (rounds_of s layout distances words way) layout.places (words_of verdicts) 0 line.extent.length (words_of after) tally
      → after_words after ≡ after_words verdicts
      → LineWritten s layout words starts extents (line_said line) (words_of own) 0 (words_of (front ++ after)) tally × (after_words (front ++ after) ≡ after_words own)
  own_written own fits {w} head {firsts} stored bytes before behind after written tail =
      let room : 0 < length (words_of own) = omega arith in
      let four : 1 * 4 ≤ length firsts = omega (arith, words_count firsts, ap length stored, length-set (words_of own) 0 w) in (
        line_written (words_of own) line room (stored ∙ ap (set (words_of own) 0) head) line_here (whole_written firsts 1 before behind four after written),
        whole_tail firsts 1 before behind four after tail ∙ word_tail own firsts 0 w room bytes,
      )
