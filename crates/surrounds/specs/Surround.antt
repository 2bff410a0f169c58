-- The surround of two signals that stand in the words of an answer, with its rounds, on the network of a sheet's roads. These are for contracts
-- inside the engine: no promise to a host speaks of them.
use Rattle.std.specs.Prelude.{List, ℕ, ◌+◌}
use Rattle.network.specs.Network.{Network}
use Rattle.logic.specs.Table.{Signal, surround_at}
use Rattle.logic.specs.Counts.{surround_rounds}
use Rattle.counting.specs.Totals.{most_below}
use Rattle.values.specs.Chain.{chains, chain_margin}
use Rattle.values.specs.Signals.{signal_in}
use Rattle.surrounds.specs.declared.surround.Surround.{Surround}

-- words with the signals of the operands, a word for each place of the network to a sample
module _ (words : List ℕ) (s : Surround) (N : Network) where
  unfoldable pub surround_in : Signal chains
  surround_in = surround_at chains N s.islands (signal_in words s.left N.places) (signal_in words s.right N.places) s.bounds.lower s.bounds.upper

  -- the rounds of its margins at a sample and a centre
  unfoldable pub surround_rounds_in : ℕ → ℕ → ℕ
  surround_rounds_in t = surround_rounds N s.bounds.lower s.bounds.upper s.islands
      (λ l. chain_margin (signal_in words s.left N.places t l)) (λ l. chain_margin (signal_in words s.right N.places t l))

  -- the greatest rounds of `count` samples from `first` on, over all centres
  unfoldable pub block_rounds : ℕ → ℕ → ℕ
  block_rounds first count = most_below (λ centre. most_below (λ lane. surround_rounds_in (first + lane) centre) count) N.places
