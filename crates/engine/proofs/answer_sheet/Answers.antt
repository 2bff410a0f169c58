-- The survey's outcome decides: what it refuses is handed on, and so is an answer that has no room; all else is written.
use mathlib.Core.Path.{◌≡◌, sym, ap, ◌∙◌}
use Prim.Native.Nat.{◌<◌, ◌≤◌}
use native.Mathlib.Omega.{arith}
use lib.ListN.{length}
use Rattle.std.proofs.Common.{rules}
use Rattle.words.specs.Bytes.{words_of, numbers_of}
use Rattle.words.proofs.Numbers.{same_count}
use Rattle.checks.specs.Checked.{refused}
use Rattle.checks.specs.Faults.{fault_number}
use Rattle.checks.specs.Said.{said}
use Rattle.answers.specs.Judged.{Judged, refusal, answered, judged}
use Rattle.evaluation.specs.Lent.{needed_in}
use Rattle.engine.specs.declared.Answered.{Answered}
use Rattle.engine.proofs.Judging.{survey_accepts, refusal_handed, refusal_cleared, judged_answered, judged_short, result_told, answer_said}
use Rattle.engine.proofs.answer_sheet.Goals as goal

pub returns-in_err-layout : goal.returns-in_err-layout
returns-in_err-layout c =
    let g = c.args in
    let found = c.in_err-layout.field-0.0 in
    let handed : said (λ (told : Answered). told) c.from_residual.result ≡ refused (fault_number found.fault) found.place = search rules in
    refusal_handed g.sheet.now g.distances.now g.answer.now _ _ c.from_residual.result handed (sym c.in_err-layout.ensures.decided) c.survey.ensures.measured c.survey.ensures.tail

pub invariant_of-accepted : goal.invariant_of-accepted
invariant_of-accepted c = record {
  accepting = survey_accepts c.args.sheet.now c.args.distances.now _ c.survey.auto.distances c.in_ok-layout.ensures.decided c.survey.ensures.measured;
}

pub returns-then-word_count-words_needed : goal.returns-then-word_count-words_needed
returns-then-word_count-words_needed c =
    let g = c.args in
    let answer = length (words_of g.answer.now) in
    let here = survey_accepts g.sheet.now g.distances.now _ c.survey.auto.distances c.in_ok-layout.ensures.decided c.survey.ensures.measured in
    let short : answer < needed_in g.sheet.now c.survey.new.distances = omega arith in
    let lent = same_count c.survey.new.distances g.distances.now c.survey.auto.distances in
    let told = judged_short (words_of g.sheet.now) _ answer here.accepts short ∙ ap (λ k. refusal k answer 15 (length (words_of g.sheet.now))) lent in
    let left = ap (λ k. judged (words_of g.sheet.now) k answer) lent in
    rw (c.at.ensures, c.word_count-then-word_count-words_needed.ensures)
    (refusal_cleared g.sheet.now g.distances.now g.answer.now _ _ _ (sym left ∙ told) c.survey.auto.distances c.fill_zero.ensures)

pub returns : goal.returns
unfolding answered
returns c =
    let g = c.args in
    let answer = length (words_of g.answer.now) in
    let here = survey_accepts g.sheet.now g.distances.now _ c.survey.auto.distances c.in_ok-layout.ensures.decided c.survey.ensures.measured in
    let room = length (numbers_of (words_of c.survey.new.distances)) in
    let enough : needed_in g.sheet.now c.survey.new.distances ≤ answer = omega arith in
    let lent = same_count c.survey.new.distances g.distances.now c.survey.auto.distances in
    let left = sym (judged_answered (words_of g.sheet.now) _ answer here.accepts enough) ∙ ap (λ k. judged (words_of g.sheet.now) k answer) lent in
    let written = c.write_answer-written.ensures.written in
    record {
      told = result_told room written ∙ ap (λ (j : Judged). j.result) left;
      said = answer_said room written ∙ ap (λ (j : Judged). j.answer) left;
      measured = here.measured ∙ ap (λ (j : Judged). j.distances) left;
      tail = c.write_answer-written.ensures.tail;
      rest = c.survey.ensures.tail;
    }
