-- Example A of document 01 in the printing program: every call of `judge_input` on its 76 bytes returns what the program prints first, 20 words, 1 round
-- and 11 yes verdicts, and leaves the words of the verdicts that it prints then.
use mathlib.Core.Path.{◌≡◌, ap, ◌∙◌}
use contract.Lifetimes
use borrow.Fn.Kinds.{Dens, ended_of}
use denote.Triple.Clauses.{AtExit}
use Rattle.words.specs.Bytes.{words_of}
use Rattle.answers.specs.Judged.{Judged}
use Rattle.std.specs.Prelude.{Result}
use Rattle.checks.specs.declared.fault.Refusal.{Refusal}
use Rattle.engine.specs.declared.Answered.{Answered}
use Rattle.engine.specs.Result.{result_said}
use Rattle.host.specs.Host.{program_judged}
use Rattle.host.proofs.Examples.{input_A, judged_A, program_A}
use Rattle.print_verdicts.proofs.judge_input.Reads as judge
use Rattle.print_verdicts.proofs.judge_input.Kinds as kinds

pub input_A_lem : (κ : Lifetimes.Lfts 3) (given : Dens κ kinds.ps) (r : Result Answered Refusal) (left : AtExit (ended_of 3 kinds.ps kinds.r) κ)
    → judge.Learnt κ given r left → given.0.now ≡ input_A → (result_said r ≡ judged_A.result) × (words_of left.1.1.0.now ≡ judged_A.answer)
input_A_lem κ given r left learnt same =
    let judged : program_judged given.0.now ≡ judged_A = ap program_judged same ∙ program_A in
    (learnt.0 ∙ ap (λ (j : Judged). j.result) judged, learnt.1.0 ∙ ap (λ (j : Judged). j.answer) judged)
