-- Document 01, "The answer" and "Where a sheet is turned back": from the sheet's words and the lent lengths to everything that the engine
-- leaves, the result's five numbers, every word of the answer and every distance. The contract of the engine is equations to `judged`.
use Rattle.std.specs.Prelude.{ℕ, cond, List, [], ◌∷◌, leb, length, replicate}
use Rattle.words.specs.Rows.{padded}
use Rattle.network.specs.Network.{Network}
use Rattle.formulas.specs.Formulas.{Recording}
use Rattle.logic.specs.Counts.{greatest_rounds, yes_count}
use Rattle.checks.specs.Checked.{Checked, accepted, refused}
use Rattle.checks.specs.Heads.{is_wide}
use Rattle.sheet.specs.Layout.{Layout, checked}
use Rattle.distances.specs.Distances.{distance_table}
use Rattle.sheet.specs.Recording.{network, recording}
use Rattle.answers.specs.Answer.{words_needed, answer_words}

pub record Result : Type 0 where
  pub number : ℕ
  pub place : ℕ
  pub words : ℕ
  pub rounds : ℕ
  pub yes : ℕ

-- in this order
abbrev pub result_numbers : Result → List ℕ
result_numbers r = r.number ∷ r.place ∷ r.words ∷ r.rounds ∷ r.yes ∷ []

pub record Judged : Type 0 where
  pub result : Result
  pub answer : List ℕ
  pub distances : List ℕ

-- a refusal leaves zeros
abbrev pub refusal : ℕ → ℕ → ℕ → ℕ → Judged
refusal distances answer number place = record {
  result = record { number = number; place = place; words = 0; rounds = 0; yes = 0 };
  answer = replicate answer 0;
  distances = replicate distances 0;
}

module _ (s : List ℕ) (distances answer : ℕ) where
  -- what is left for an accepted sheet, given the network that its roads make
  abbrev pub answered_on : Network → Layout → Judged
  answered_on N L =
      let x : Recording = recording s L in
      record {
        result = record {
          number = 0;
          place = 0;
          words = words_needed (is_wide s) N.places L.lines;
          rounds = greatest_rounds N x L.lines;
          yes = yes_count N x L.lines;
        };
        answer = padded (answer_words N L.sizes.samples x L.lines (is_wide s)) answer;
        distances = padded (distance_table N) distances;
      }

  unfoldable pub answered : Layout → Judged
  answered L = answered_on (network s L) L

  -- what is left, given what is for an accepted sheet; 15 comes last: fewer words than needed, told at the sheet's length
  abbrev pub decided : (Layout → Judged) → Checked Layout → Judged
  decided leaves (refused number place) = refusal distances answer number place
  decided leaves (accepted L) = cond (leb (words_needed (is_wide s) (L.sizes.places) L.lines) answer) (leaves L) (refusal distances answer 15 (length s))

  abbrev pub judged_by : Checked Layout → Judged
  judged_by = decided answered

  -- `distances` and `answer` are how many distances and answer words are lent
  unfoldable pub judged : Judged
  judged = judged_by (checked s distances)
