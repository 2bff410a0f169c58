-- For inner contracts only: what writing the whole answer to an accepted sheet leaves.
use Rattle.std.specs.Prelude.{◌≡◌, List, ℕ, length}
use Rattle.words.specs.Rows.{padded}
use Rattle.logic.specs.Counts.{greatest_rounds, yes_count}
use Rattle.checks.specs.Heads.{is_wide}
use Rattle.sheet.specs.Layout.{Layout}
use Rattle.sheet.specs.Recording.{network, recording}
use Rattle.samples.specs.declared.tally.Tally.{Tally}
use Rattle.answers.specs.Answer.{line_index, answer_words}

module _ (s : List ℕ) (L : Layout) (answer : List ℕ) where
  -- the whole answer, zeros behind it
  pub record AnswerWritten (after : List ℕ) (end : ℕ) (tally : Tally) : Type 0 where
    pub written : after ≡ padded (answer_words (network s L) L.sizes.samples (recording s L) L.lines (is_wide s)) (length answer)
    pub ends : end ≡ line_index (is_wide s) L.sizes.places L.lines (length L.lines)
    pub greatest : tally.rounds ≡ greatest_rounds (network s L) (recording s L) L.lines
    pub counted : tally.yes ≡ yes_count (network s L) (recording s L) L.lines
