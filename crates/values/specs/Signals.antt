-- Signals as the words of an answer hold them, and ranges as a table of distances gives them. These are for contracts inside the engine: no
-- promise to a host speaks of them.
use Rattle.std.specs.Prelude.{Bool, true, false, ◌&&◌, List, ℕ, ◌+◌, ◌*◌, leb, get_or}
use Rattle.logic.specs.Table.{Signal, opposite}
use Rattle.values.specs.Chain.{chains, word_chain}

-- n words to a sample from index `start` on, a word of a chain number for each place
unfoldable pub signal_in : List ℕ → ℕ → ℕ → Signal chains
signal_in words start n t l = word_chain (get_or words (start + (t * n + l)) 0)

-- a signal, or its opposite
abbrev pub turned : Bool → Signal chains → Signal chains
turned true signal = opposite chains signal
turned false signal = signal

-- place k lies within lower..upper of the centre, by a table with a row of n distances for each centre
unfoldable pub in_table : List ℕ → ℕ → ℕ → ℕ → ℕ → ℕ → Bool
in_table distances n centre lower upper k = leb lower (get_or distances (centre * n + k) 0) && leb (get_or distances (centre * n + k) 0) upper
