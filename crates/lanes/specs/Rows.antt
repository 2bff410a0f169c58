-- Rows that are written strip by strip, from the words of an answer, and masks. These are for contracts inside the engine: no promise to a host
-- speaks of them.
use Rattle.std.specs.Prelude.{◌≡◌, Bool, false, cond, List, ℕ, ◌+◌, ◌*◌, ◌<◌, ◌≤◌, ltb, length, get_or}
use Rattle.words.specs.Bytes.{words_of, numbers_of}
use Rattle.logic.specs.Iteration.{masked}
use Rattle.codes.specs.declared.operator.Bounds.{Bounds}
use Rattle.distances.specs.declared.table.Distances.{Distances}
use Rattle.values.specs.Chain.{chain_lattice}
use Rattle.values.specs.Signals.{signal_in, in_table}
use Rattle.lanes.specs.declared.rows.Block.{Block}
use Rattle.lanes.specs.declared.Place.{Place}
use Rattle.lanes.specs.Lanes.{lanes, Row, Numbers, place_at, row_in}

-- there are n places
abbrev pub Room : ℕ → List Place → Type 0
Room n places = n ≤ length places

-- numbers that are those of another row, as far as the first k places
pub record RowOf (f row : Numbers) (k : ℕ) : Type 0 where
  pub at : (place lane : ℕ) → place < k → lane < lanes → row lane place ≡ f lane place

-- a part of every place is kept, and their count
pub record Kept (part : Place → Place) (before after : List Place) : Type 0 where
  pub same : (p : ℕ) → part (place_at after p) ≡ part (place_at before p)
  pub long : length after ≡ length before

-- what stands past the first n places is kept
pub record KeptPast (n : ℕ) (before after : List Place) : Type 0 where
  pub past : (p : ℕ) → n ≤ p → place_at after p ≡ place_at before p

-- a place has a strip in a row, and in all others what it had
pub record StripPut (row : Row) (strip : List ℕ) (before after : Place) : Type 0 where
  pub there : row.strip after ≡ strip
  pub kept : row.others after ≡ row.others before

-- a row is written at the first k places, and nothing else is
pub record RowWritten (row : Row) (k : ℕ) (f : Numbers) (before after : List Place) : Type 0 where
  pub written : RowOf f (row_in after row) k
  pub kept : Kept row.others before after
  pub past : KeptPast k before after

-- ---- signals: n words to a sample from index `start` on

-- the samples of a block are there
abbrev pub BlockThere : List ℕ → ℕ → ℕ → Block → Type 0
BlockThere words start n b = start + (b.first + b.count) * n ≤ length (words_of words)

-- a lane holds the signal at one sample, and the lowest number past the last of the samples
abbrev pub lane_signal : List ℕ → ℕ → ℕ → Block → Numbers
lane_signal words start n b lane place = cond (ltb lane b.count) (signal_in words start n (b.first + lane) place) 0

-- ---- tests on places

-- a place lies within bounds of a centre, by the bytes of a table with n distances for each centre
abbrev pub within : List ℕ → ℕ → ℕ → Bounds → ℕ → Bool
within distances n centre b = in_table (numbers_of (words_of distances)) n centre b.lower b.upper

abbrev pub within_in : Distances → ℕ → Bounds → ℕ → Bool
within_in d = within d.table.now d.places

-- a place has a flag
abbrev pub flagged : List Bool → ℕ → Bool
flagged flags place = get_or flags place false

-- the flags of k places are a test's
pub record Marked (test : ℕ → Bool) (flags : List Bool) (k : ℕ) : Type 0 where
  pub flag : (place : ℕ) → place < k → flagged flags place ≡ test place

-- the numbers of a row, by lane and place, the lowest where the test fails
abbrev pub masked_by : (ℕ → Bool) → Numbers → Numbers
masked_by test row lane = masked chain_lattice test (row lane)
