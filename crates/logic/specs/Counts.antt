-- The two counts of a result ("The answer" of document 01): the rounds of the surrounds and the yes verdicts.
use Rattle.std.specs.Prelude.{Bool, true, false, List, ℕ, ◌+◌, length}
use Rattle.counting.specs.Totals.{most_below, most_over, sum_below, count}
use Rattle.logic.specs.Margin.{Margin, margin_lattice}
use Rattle.network.specs.Network.{Network, joined, within, other}
use Rattle.logic.specs.Iteration.{masked, except, rounds}
use Rattle.formulas.specs.Formulas.{Operator, True, AtLeast, AtMost, Not, And, Until, Somewhere, Surrounded, Or, Eventually, Always, Everywhere, Extent, Line, line_in, Recording}
use Rattle.logic.specs.Table.{Signal, verdicts, margins, value_at}

module _ (N : Network) (lower upper : ℕ) where
  -- the rounds of the iteration on the masked margins about a centre
  unfoldable pub run_rounds : (ℕ → Margin) → (ℕ → Margin) → ℕ → ℕ
  run_rounds left right centre = rounds (joined N) N.places
      (masked margin_lattice (within N centre 0 upper) left) (masked margin_lattice (within N centre lower upper) right)

  -- the rounds of a surround at a centre: unless islands count, the greatest of those of the runs, one for each other place with a distance from
  -- the centre, that place's left at minus infinity; 0 for a lone place (M-101)
  unfoldable pub surround_rounds : Bool → (ℕ → Margin) → (ℕ → Margin) → ℕ → ℕ
  surround_rounds true left right centre = run_rounds left right centre
  surround_rounds false left right centre = most_over (other N centre) (λ k. run_rounds (except margin_lattice k left) right centre) N.places

-- the rounds of one line at one sample and centre: 0 unless it is a surround
unfoldable pub rounds_at : Network → (ℕ → Signal margins) → Operator → ℕ → ℕ → ℕ
rounds_at N line True t l = 0
rounds_at N line (AtLeast x c) t l = 0
rounds_at N line (AtMost x c) t l = 0
rounds_at N line (Not i) t l = 0
rounds_at N line (And i j) t l = 0
rounds_at N line (Until side i j lower upper) t l = 0
rounds_at N line (Somewhere i lower upper) t l = 0
rounds_at N line (Surrounded islands i j lower upper) t l = surround_rounds N lower upper islands (line i t) (line j t) l
rounds_at N line (Or i j) t l = 0
rounds_at N line (Eventually side i lower upper) t l = 0
rounds_at N line (Always side i lower upper) t l = 0
rounds_at N line (Everywhere i lower upper) t l = 0

module _ (N : Network) (x : Recording) (lines : List Line) where
  -- what `total` makes of f over every line, sample and place that has a verdict
  abbrev over_verdicts : ((ℕ → ℕ) → ℕ → ℕ) → (ℕ → ℕ → ℕ → ℕ) → ℕ
  over_verdicts total f = total (λ i.
      let e : Extent = (line_in lines i).extent in
      total (λ t. total (λ l. f i (e.first + t) l) N.places) e.length) (length lines)

  -- the greatest rounds count, 0 without a surround
  unfoldable pub greatest_rounds : ℕ
  greatest_rounds = over_verdicts most_below (λ i t l. rounds_at N (value_at margins N x lines) (line_in lines i).operator t l)

  unfoldable pub yes_count : ℕ
  yes_count = over_verdicts sum_below (λ i t l. count (value_at verdicts N x lines i t l))
