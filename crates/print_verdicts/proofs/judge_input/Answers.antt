-- An input that is not taken leaves zeros, as many as the definition says.
use Rattle.std.proofs.Common.{ℕ, ◌≡◌, List, length, arith, sym, ap, ◌∙◌}
use lib.ListN.{replicate}
use Rattle.words.specs.Bytes.{words_of, numbers_of}
use Rattle.words.proofs.Words.{length_words}
use Rattle.words.proofs.Zeros.{zero_words, zero_numbers}
use Rattle.words.proofs.Numbers.{length_numbers}
use Rattle.host.specs.Host.{program_distances, program_words, program_judged}
use Rattle.print_verdicts.proofs.judge_input.Goals as goal

pub returns-then-not-input_taken-clause-said : goal.returns-then-not-input_taken-clause-said
unfolding program_judged
returns-then-not-input_taken-clause-said c =
    let not_taken = sym c.input_taken.ensures ∙ c.if-not-input_taken.true in
    let count : length (words_of c.args.answer.now) ≡ program_words = omega (arith, length_words c.args.answer.now) in
    rw not_taken (ap words_of c.fill_zero-then-not-input_taken.ensures ∙ zero_words c.args.answer.now ∙ ap (λ (n : ℕ). replicate n 0) count)

pub returns-then-not-input_taken-clause-measured : goal.returns-then-not-input_taken-clause-measured
unfolding program_judged
returns-then-not-input_taken-clause-measured c =
    let not_taken = sym c.input_taken.ensures ∙ c.if-not-input_taken.true in
    let count : length (numbers_of (words_of c.args.distances.now)) ≡ program_distances = omega (arith, length_numbers c.args.distances.now) in
    let zeros = ap (λ (b : List ℕ). numbers_of (words_of b)) c.fill_zero.ensures ∙ zero_numbers c.args.distances.now in
    rw not_taken (zeros ∙ ap (λ (n : ℕ). replicate n 0) count)
