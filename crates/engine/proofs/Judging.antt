-- How the outcome of the survey decides what is judged: a refusal as it is, an accepted sheet by the room for its answer; and the result that writing
-- the answer has found.
use mathlib.Core.Path.{◌≡◌, sym, ap, ap₂, subst, ◌∙◌}
use mathlib.Core.List.{List}
use Prim.Native.Nat.{ℕ, ◌+◌, ◌<◌, ◌≤◌}
use native.Mathlib.Nat.{add_comm}
use lib.ListN.{length, replicate}
use borrow.Author.Tests.{le-leb, lt-leb}
use Rattle.std.specs.Prelude.{Result, Ok, Err}
use Rattle.words.specs.Bytes.{words_of, numbers_of, after_numbers}
use Rattle.words.proofs.Numbers.{same_count}
use Rattle.words.proofs.Zeros.{zero_numbers, zero_numbers_tail}
use Rattle.sheet.specs.declared.check.Layout as Code
use Rattle.checks.specs.declared.fault.Refusal.{Refusal}
use Rattle.checks.specs.Faults.{fault_number}
use Rattle.checks.specs.Said.{said}
use Rattle.checks.specs.Checked.{accepted, refused}
use Rattle.checks.specs.Heads.{is_wide}
use Rattle.sheet.specs.Layout.{Layout, checked}
use Rattle.checks.specs.Checked.{mapped}
use Rattle.sheet.specs.Checking.{layout_of}
use Rattle.sheet.specs.Recording.{network}
use Rattle.sheet.specs.Survey.{surveyed_by, surveyed}
use Rattle.sheet.proofs.Surveys.{refusing}
use Rattle.checks.proofs.Checks.{never, mapped_accepted, mapped_refused}
use Rattle.answers.specs.Answer.{words_needed}
use Rattle.answers.specs.Judged as J
use Rattle.answers.specs.Judged.{refusal, answered, judged_by, judged}
use Rattle.answers.proofs.Accepted.{judged_by_room}
use Rattle.samples.specs.declared.tally.Tally.{Tally}
use Rattle.evaluation.specs.Lines.{found_by, found, Accepting}
use Rattle.engine.specs.declared.Answered.{Answered}
use Rattle.engine.specs.Answer.{AnswerWritten}
use Rattle.engine.specs.Lent.{judged_in, RefusalLeft, AnsweredIn}

accepting_here : (s distances : List ℕ) (layout : Code.Layout) → mapped (layout_of s) (checked s (length distances)) ≡ accepted layout
    → distances ≡ surveyed s (length distances) → Accepting s layout distances
unfolding found surveyed
accepting_here s distances layout e measured =
    let (L, accepts, laid) = mapped_accepted (layout_of s) (checked s (length distances)) e in
    let same : L ≡ found s (length distances) = sym (ap found_by accepts) in
    record {
      accepts = accepts ∙ ap accepted same;
      laid = sym laid ∙ ap (layout_of s) same;
      measured = measured ∙ ap (surveyed_by s (length distances)) (accepts ∙ ap accepted same);
    }

-- after a survey that accepts
pub accepting : (s distances : List ℕ) (room : ℕ) (layout : Code.Layout) → room ≡ length distances → mapped (layout_of s) (checked s room) ≡ accepted layout
    → distances ≡ surveyed s room → Accepting s layout distances
accepting s distances room layout lent e measured =
    accepting_here s distances layout (subst (λ k. mapped (layout_of s) (checked s k) ≡ accepted layout) lent e) (subst (λ k. distances ≡ surveyed s k) lent measured)

-- over the bytes that a call is lent, of which there are as many afterwards
pub survey_accepts : (sheet lent measured : List ℕ) {layout : Code.Layout} → length measured ≡ length lent
    → accepted layout ≡ mapped (layout_of (words_of sheet)) (checked (words_of sheet) (length (numbers_of (words_of lent))))
    → numbers_of (words_of measured) ≡ surveyed (words_of sheet) (length (numbers_of (words_of lent))) → Accepting (words_of sheet) layout (numbers_of (words_of measured))
survey_accepts sheet lent measured kept e found = accepting _ _ _ _ (same_count lent measured (sym kept)) (sym e) found

module _ (s : List ℕ) (room answer : ℕ) where
  pub judged_refused : {number place : ℕ} → mapped (layout_of s) (checked s room) ≡ refused number place → judged s room answer ≡ refusal room answer number place
  unfolding judged
  judged_refused e = ap (judged_by s room answer) (mapped_refused (layout_of s) (checked s room) e)

  module _ (accepts : checked s room ≡ accepted (found s room)) where
    pub judged_answered : words_needed (is_wide s) (found s room).sizes.places (found s room).lines ≤ answer → judged s room answer ≡ answered s room answer (found s room)
    judged_answered h = judged_by_room s room answer accepts (le-leb _ _ h)

    pub judged_short : answer < words_needed (is_wide s) (found s room).sizes.places (found s room).lines → judged s room answer ≡ refusal room answer 15 (length s)
    judged_short h = judged_by_room s room answer accepts (lt-leb _ _ h)

-- a refusal that is handed on, with the table as the survey has left it
pub refusal_handed : (sheet distances answer left written : List ℕ) (r : Result Answered Refusal) {number place : ℕ} → said (λ (told : Answered). told) r ≡ refused number place
    → mapped (layout_of (words_of sheet)) (checked (words_of sheet) (length (numbers_of (words_of distances)))) ≡ refused number place
    → numbers_of (words_of left) ≡ surveyed (words_of sheet) (length (numbers_of (words_of distances))) → after_numbers left ≡ replicate (length (after_numbers distances)) 0
    → AnsweredIn sheet distances answer r left written
refusal_handed sheet distances answer left written (Ok told) e refuses measured rest = absurd (never (sym e))
refusal_handed sheet distances answer left written (Err r) {number} {place} e refuses measured rest =
    let room = length (numbers_of (words_of distances)) in
    let words = length (words_of answer) in
    let numbers : number ≡ fault_number r.fault = cc in
    let places : place ≡ r.place = cc in record {
      told = judged_refused (words_of sheet) room words refuses ∙ ap₂ (refusal room words) numbers places;
      measured = measured ∙ refusing (words_of sheet) room number place refuses;
      rest = rest;
    }

-- a refusal after which the table is cleared
pub refusal_cleared : (sheet distances answer cleared : List ℕ) (n : ℕ) (r : Refusal)
    → judged_in sheet distances answer ≡ refusal (length (numbers_of (words_of distances))) (length (words_of answer)) (fault_number r.fault) r.place
    → n ≡ length distances → cleared ≡ replicate n 0 → RefusalLeft sheet distances answer r cleared
refusal_cleared sheet distances answer cleared n r told same zeros = record {
  told = told;
  measured = ap (λ (b : List ℕ). numbers_of (words_of b)) (zeros ∙ ap (λ (k : ℕ). replicate k 0) same) ∙ zero_numbers distances;
  rest = zero_numbers_tail distances cleared n same zeros;
}

-- an answer that is written is the one that is answered
module _ {s : List ℕ} {L : Layout} (room : ℕ) {answer after : List ℕ} {end : ℕ} {tally : Tally} (done : AnswerWritten s L answer after end tally) where
  pub result_told : ◌≡◌ {A = J.Result} (record { number = 0; place = 0; words = end + 1; rounds = tally.rounds; yes = tally.yes }) (answered s room (length answer) L).result
  unfolding answered words_needed network
  result_told i = record { number = 0; place = 0; words = (add_comm end 1 ∙ ap (λ e. 1 + e) done.ends) i; rounds = done.greatest i; yes = done.counted i }

  pub answer_said : after ≡ (answered s room (length answer) L).answer
  unfolding answered
  answer_said = done.written
