-- What is written, answered and judged, by the bytes that a call is lent. For what is judged only how many distances and answer words there are counts.
use Rattle.std.specs.Prelude.{◌≡◌, List, ℕ, length, replicate, Result, Ok, Err}
use Rattle.words.specs.Bytes.{words_of, numbers_of, after_words, after_numbers}
use Rattle.checks.specs.Faults.{fault_number}
use Rattle.checks.specs.declared.fault.Refusal.{Refusal}
use Rattle.answers.specs.Judged as J
use Rattle.answers.specs.Judged.{Judged, judged, refusal}
use Rattle.evaluation.specs.declared.accepted.Accepted.{Accepted}
use Rattle.evaluation.specs.declared.walk.Written.{Written}
use Rattle.evaluation.specs.Lent.{found_in}
use Rattle.engine.specs.declared.Answered.{Answered}
use Rattle.engine.specs.Answer.{AnswerWritten}
use Rattle.engine.specs.Result.{result_said}

-- the whole answer in the bytes of the answer as they are left
abbrev pub AnswerWrittenIn : Accepted → (answer after : List ℕ) → Written → Type 0
AnswerWrittenIn a answer after w = AnswerWritten (words_of a.sheet.now) (found_in a.sheet.now a.distances.now) (words_of answer) (words_of after) w.end w.tally

module _ (sheet distances answer : List ℕ) where
  abbrev pub judged_in : Judged
  judged_in = judged (words_of sheet) (length (numbers_of (words_of distances))) (length (words_of answer))

  -- an answer leaves what is judged, and zeros behind it
  pub record AnswerLeft (result : J.Result) (distances_after answer_after : List ℕ) : Type 0 where
    pub told : result ≡ judged_in.result
    pub said : words_of answer_after ≡ judged_in.answer
    pub measured : numbers_of (words_of distances_after) ≡ judged_in.distances
    pub tail : after_words answer_after ≡ replicate (length (after_words answer)) 0
    pub rest : after_numbers distances_after ≡ replicate (length (after_numbers distances)) 0

  -- a refusal is told and leaves no distance; what it leaves of the answer is not said
  pub record RefusalLeft (r : Refusal) (distances_after : List ℕ) : Type 0 where
    pub told : judged_in ≡ refusal (length (numbers_of (words_of distances))) (length (words_of answer)) (fault_number r.fault) r.place
    pub measured : numbers_of (words_of distances_after) ≡ replicate (length (numbers_of (words_of distances))) 0
    pub rest : after_numbers distances_after ≡ replicate (length (after_numbers distances)) 0

  abbrev pub AnsweredIn : Result Answered Refusal → List ℕ → List ℕ → Type 0
  AnsweredIn (Ok answered) = AnswerLeft (result_said (Ok answered))
  AnsweredIn (Err r) = λ distances_after _. RefusalLeft r distances_after
