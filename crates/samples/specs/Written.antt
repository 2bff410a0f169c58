-- For inner contracts only: what writing the samples of a line leaves.
use Rattle.std.specs.Prelude.{◌≡◌, List, ℕ}
use Rattle.words.specs.Rows.{rows, put}
use Rattle.counting.specs.Totals.{count, sum_below, most_below}
use Rattle.values.specs.Chain.{chain_word, chain_verdict}
use Rattle.samples.specs.declared.tally.Tally.{Tally}

-- samples of n places, by the chain number and the rounds of each point, are put into the answer from index `begin` on; the greatest rounds and
-- the yes verdicts are told
pub record SamplesWritten (value rounds_at : ℕ → ℕ → ℕ) (n : ℕ) (answer : List ℕ) (begin samples : ℕ) (after : List ℕ) (tally : Tally) : Type 0 where
  pub written : after ≡ put answer begin (rows (λ t l. chain_word (value t l)) samples n)
  pub counted : tally.yes ≡ sum_below (λ t. sum_below (λ l. count (chain_verdict (value t l))) n) samples
  pub greatest : tally.rounds ≡ most_below (λ t. most_below (rounds_at t) n) samples
