-- Somewhere and everywhere, codes 6 and 11: the greatest or the least of a signal within range of a centre, by a table with a row of n distances
-- for each centre. These are for contracts inside the engine: no promise to a host speaks of them.
use Rattle.std.specs.Prelude.{◌≡◌, Bool, List, ℕ, ◌+◌, ◌*◌, ◌<◌, ◌≤◌, length}
use Rattle.logic.specs.Lattice.{greatest_over}
use Rattle.logic.specs.Table.{Signal}
use Rattle.checks.specs.Limits.{most_places}
use Rattle.codes.specs.declared.operator.Bounds.{Bounds}
use Rattle.values.specs.Chain.{chains, chain_lattice}
use Rattle.values.specs.Signals.{signal_in, turned, in_table}
use Rattle.lanes.specs.declared.Place.{Place}
use Rattle.lanes.specs.Lanes.{lanes, left_row, out_row, Numbers, row_in}
use Rattle.lanes.specs.Rows.{RowOf, Kept, KeptPast, lane_signal, within}

-- somewhere, or its dual, everywhere: the opposite of somewhere of the opposite
abbrev pub somewhere_in : Bool → List ℕ → ℕ → Signal chains → ℕ → ℕ → Signal chains
somewhere_in dual distances n left lower upper = turned dual (λ t l. greatest_over chain_lattice (in_table distances n l lower upper) (turned dual left t) n)

-- the least or the greatest of a row's lane, by the places within bounds of a centre
abbrev pub gathered_in : ((ℕ → Bool) → (ℕ → ℕ) → ℕ → ℕ) → List ℕ → ℕ → Bounds → Numbers → Numbers
gathered_in over distances n b row lane centre = over (within distances n centre b) (row lane) n

-- what a place has but for the operand and what comes of it
abbrev pub beside : Place → Place
beside p = left_row.others (out_row.others p)

-- words with a signal, n to a sample, which begins at `left`; samples `first` to first + count - 1
module _ (words : List ℕ) (left n : ℕ) (distances : List ℕ) (first count : ℕ) where
  -- what is lent holds all that is read
  pub record RangeReady : Type 0 where
    pub few_places : n ≤ most_places
    pub few : count ≤ lanes
    pub there : left + (first + count) * n ≤ length words

  -- row `out_row` has the value of sample first + lane at each centre, where a lane without a sample has the value of the lowest signal; the row of the operand
  -- has its signal, and all else is kept
  pub record RangeDone (lower upper : ℕ) (dual : Bool) (before after : List Place) : Type 0 where
    pub values : (centre lane : ℕ) → centre < n → lane < count
        → row_in after out_row lane centre ≡ somewhere_in dual distances n (signal_in words left n) lower upper (first + lane) centre
    pub idle : (centre lane : ℕ) → centre < n → count ≤ lane → lane < lanes
        → row_in after out_row lane centre ≡ somewhere_in dual distances n (λ _ _. 0) lower upper lane centre
    pub operand : RowOf (lane_signal words left n (record { first = first; count = count })) (row_in after left_row) n
    pub kept : Kept beside before after
    pub past : KeptPast n before after
