-- The meaning of a table of lines, codes 0 to 15 (Definitions 3.1 and 3.4, requests M-100 to M-102), once for verdicts and margins: a reading says what values
-- are, how they are negated and what an atom is worth by its margin.
use Rattle.std.specs.Prelude.{Bool, true, not, List, [], ◌∷◌, ◌++◌, ℕ, suc, ◌+◌, ◌-◌, leb, get_or, ℤ, pos, ◌-ℤ◌}
use Rattle.std.specs.Int.Signed.{le_z}
use Rattle.formulas.specs.Formulas.{Direction, forward, backward, Operator, True, AtLeast, AtMost, Not, And, Until, Somewhere, Surrounded, Or, Eventually, Always, Everywhere, Line, Recording}
use Rattle.logic.specs.Lattice.{Lattice, verdict_lattice, least_over, greatest_over}
use Rattle.logic.specs.Margin.{finite, negate, margin_lattice}
use Rattle.network.specs.Network.{Network, joined, within}
use Rattle.logic.specs.Surround.{surround}

pub record Reading : Type 1 where
  pub lattice : Lattice
  pub opposite : lattice.Value → lattice.Value
  pub atom : ℤ → lattice.Value

-- Definition 3.1, Boolean semantics: an atom is a yes exactly where its margin is at least 0
abbrev pub verdicts : Reading
verdicts = record { lattice = verdict_lattice; opposite = not; atom = le_z (pos 0) }

-- Definition 3.4, quantitative semantics
abbrev pub margins : Reading
margins = record { lattice = margin_lattice; opposite = negate; atom = finite }

-- the sample that is k samples later than t, or earlier
abbrev pub away : Direction → ℕ → ℕ → ℕ
away forward t k = t + k
away backward t k = t - k

-- the values of a line: sample, then place
abbrev pub Signal : Reading → Type 0
Signal R = ℕ → ℕ → R.lattice.Value

module _ (R : Reading) where
  -- until reads the samples from t on and since those from t back: after n of them, the least of left so far (M-102)
  unfoldable pub least_so_far : Direction → Signal R → (t l n : ℕ) → R.lattice.Value
  least_so_far side left t l n = least_over R.lattice (λ _. true) (λ k. left (away side t k) l) n

  -- and the greatest so far of what they offer from the lower bound on: right at a sample, and left at every sample from t to there, both included
  unfoldable pub until_so_far : Direction → Signal R → Signal R → (lower t l n : ℕ) → R.lattice.Value
  until_so_far side left right lower t l n =
      greatest_over R.lattice (leb lower) (λ k. R.lattice.meet (right (away side t k) l) (least_so_far side left t l (suc k))) n

  -- until is what has been found once all samples from t to t + upper are read, and since once those from t back to t - upper are
  unfoldable pub until_at : Direction → Signal R → Signal R → (lower upper : ℕ) → Signal R
  until_at side left right lower upper t l = until_so_far side left right lower t l (suc upper)

  abbrev pub opposite : Signal R → Signal R
  opposite left t l = R.opposite (left t l)

  abbrev pub ever_true : Signal R
  ever_true t l = R.lattice.top

module _ (R : Reading) (N : Network) where
  -- left at some place within range of the centre
  unfoldable pub somewhere_at : Signal R → ℕ → ℕ → Signal R
  somewhere_at left lower upper t l = greatest_over R.lattice (within N l lower upper) (left t) N.places

  -- a region about the centre, within the upper bound, has left, and its outer boundary, within both bounds, has right
  unfoldable pub surround_at : Bool → Signal R → Signal R → ℕ → ℕ → Signal R
  surround_at islands left right lower upper t l =
      surround R.lattice (joined N) N.places islands (within N l 0 upper) (within N l lower upper) (left t) (right t) l

  -- the values of a line, given those of the lines before it
  unfoldable pub value : Recording → (ℕ → Signal R) → Operator → Signal R
  value x line True = ever_true R
  value x line (AtLeast signal c) = λ t l. R.atom (x signal t l -ℤ c)
  value x line (AtMost signal c) = λ t l. R.atom (c -ℤ x signal t l)
  value x line (Not i) = opposite R (line i)
  value x line (And i j) = λ t l. R.lattice.meet (line i t l) (line j t l)
  value x line (Until side i j lower upper) = until_at R side (line i) (line j) lower upper
  value x line (Somewhere i lower upper) = somewhere_at (line i) lower upper
  value x line (Surrounded islands i j lower upper) = surround_at islands (line i) (line j) lower upper
  value x line (Or i j) = λ t l. R.opposite (R.lattice.meet (R.opposite (line i t l)) (R.opposite (line j t l)))
  value x line (Eventually side i lower upper) = until_at R side (ever_true R) (line i) lower upper
  value x line (Always side i lower upper) = opposite R (until_at R side (ever_true R) (opposite R (line i)) lower upper)
  value x line (Everywhere i lower upper) = opposite R (somewhere_at (opposite R (line i)) lower upper)

  -- the values of all lines, line 0 first, after those already known. An operand that is not there counts as ever true; no accepted sheet has one
  unfoldable pub values_after : Recording → List (Signal R) → List Line → List (Signal R)
  values_after x known [] = known
  values_after x known (line ∷ lines) = values_after x (known ++ (value x (λ i. get_or known i (ever_true R)) line.operator ∷ [])) lines

  -- the value of line i at sample t and place l
  unfoldable pub value_at : Recording → List Line → ℕ → Signal R
  value_at x lines i = get_or (values_after x [] lines) i (ever_true R)
