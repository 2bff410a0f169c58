-- A line behind its first word: what its writer makes of it there is the line.
use mathlib.Core.Path.{◌≡◌, ap, ◌∙◌}
use mathlib.Core.List.{List, [], ◌∷◌}
use Prim.Native.Nat.{ℕ, ◌<◌}
use native.Mathlib.Omega.{arith}
use lib.ListN.{length, set}
use Rattle.words.specs.Rows.{rows, put}
use Rattle.words.proofs.Puts.{put-append, put_one}
use Rattle.words.proofs.Rows.{rows_ext}
use Rattle.counting.specs.Totals.{count}
use Rattle.counting.proofs.Totals.{sum_same, most_same}
use Rattle.sheet.specs.declared.check.Layout.{Layout}
use Rattle.lines.specs.declared.extent.Extent.{Extent}
use Rattle.lines.specs.declared.line.Line.{Line}
use Rattle.lines.specs.Decoding.{line_said}
use Rattle.values.specs.Chain.{chain_word, chain_verdict}
use Rattle.samples.specs.declared.tally.Tally.{Tally}
use Rattle.locating.specs.declared.Located.{Located}
use Rattle.samples.specs.Written.{SamplesWritten}
use Rattle.answers.specs.Answer.{first_word}
use Rattle.evaluation.specs.Line.{value_here, rounds_here, LineWritten}
use Rattle.evaluation.proofs.Writers.{value_of, rounds_of, LineLocated}

module _ (own : List ℕ) (line : Line) {first : List ℕ} (room : 0 < length own) (put_first : first ≡ set own 0 (first_word (line_said line).extent)) where
  behind_first : (v : List ℕ) → put first 1 v ≡ put own 0 (first_word (line_said line).extent ∷ v)
  behind_first v =
      ap (λ w. put w 1 v) (put_first ∙ put_one own 0 (first_word (line_said line).extent) room) ∙ put-append own 0 (first_word (line_said line).extent ∷ []) v (omega arith)

  -- values and rounds that are the line's at each point
  pub line_written : {s : List ℕ} {L : Layout} {distances words starts : List ℕ} {extents : List Extent} {located : Located}
      → LineLocated s L distances words starts extents line.operator (line_said line).extent located → {after : List ℕ} {tally : Tally}
      → SamplesWritten (value_of s L distances words located) (rounds_of s L distances words located) L.places first 1 line.extent.length after tally
      → LineWritten s L words starts extents (line_said line) own 0 after tally
  unfolding value_here rounds_here
  line_written {L = L} here done = record {
    written = done.written ∙ behind_first (rows (λ t l. chain_word _) line.extent.length L.places)
        ∙ ap (λ v. put own 0 (first_word (line_said line).extent ∷ v)) (rows_ext _ _ line.extent.length L.places (λ t l _ b. ap chain_word (here.values t l b)));
    counted = done.counted ∙ sum_same _ _ line.extent.length (λ t _. sum_same _ _ L.places (λ l b. ap (λ c. count (chain_verdict c)) (here.values t l b)));
    greatest = done.greatest ∙ most_same _ _ line.extent.length (λ t _. most_same _ _ L.places (λ l b. here.rounds t l b));
  }
