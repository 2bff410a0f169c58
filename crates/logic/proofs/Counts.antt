-- The rounds count of a table is at most the number of places, that of a surround depends on the margins of the places alone, and that of a line on its
-- operands within their extents alone.
use mathlib.Core.Path.{◌≡◌, refl, ap}
use mathlib.Core.Bool.{Bool, true, false, not, cond}
use mathlib.Core.List.{List}
use Prim.Native.Nat.{ℕ, ◌+◌, ◌<◌, ◌≤◌, zero-le}
use lib.Dec.{eqb}
use lib.ListN.{length}
use Rattle.network.specs.Network.{Network, joined, within, other}
use Rattle.formulas.specs.Formulas.{Operator, True, AtLeast, AtMost, Not, And, Until, Somewhere, Surrounded, Or, Eventually, Always, Everywhere, Extent, Line, line_in, extent_of, Recording}
use Rattle.formulas.proofs.Extents.{Has, has_left, has_right}
use Rattle.logic.specs.Margin.{Margin, margin_lattice}
use Rattle.logic.specs.Iteration.{masked, except}
use Rattle.logic.specs.Table.{Signal, margins, value_at}
use Rattle.logic.specs.Counts.{run_rounds, surround_rounds, rounds_at, greatest_rounds}
use Rattle.counting.proofs.Totals.{most_le, over_le, most_same}
use Rattle.logic.proofs.Keeps.{same_kept, masked_kept}
use Rattle.logic.proofs.Rounds.{rounds_bound, rounds_same}

surround_rounds_lem : (N : Network) → 1 ≤ N.places → (lower upper : ℕ) (islands : Bool) (left right : ℕ → Margin) (centre : ℕ)
    → surround_rounds N lower upper islands left right centre ≤ N.places
unfolding surround_rounds run_rounds
surround_rounds_lem N h lower upper true left right centre = rounds_bound (joined N) (N.places) _ _ h
surround_rounds_lem N h lower upper false left right centre = over_le (other N centre) _ (N.places) (N.places)
    (λ k _ _. rounds_bound (joined N) (N.places) (masked margin_lattice (within N centre 0 upper) (except margin_lattice k left)) _ h)

-- the rounds of a surround depend on the margins of the places alone
module _ (N : Network) (lower upper centre : ℕ) where
  abbrev Alike : (ℕ → Margin) → (ℕ → Margin) → Type 0
  Alike f g = (l : ℕ) → l < N.places → f l ≡ g l

  abbrev masked_alike : (test : ℕ → Bool) (f g : ℕ → Margin) → Alike f g → Alike (masked margin_lattice test f) (masked margin_lattice test g)
  masked_alike test f g = masked_kept margin_lattice margin_lattice (λ a b. a ≡ b) (same_kept margin_lattice) test f g N.places

  run_same : (p q p' q' : ℕ → Margin) → Alike p p' → Alike q q' → run_rounds N lower upper p q centre ≡ run_rounds N lower upper p' q' centre
  unfolding run_rounds
  run_same p q p' q' hp hq = rounds_same (joined N) (N.places) _ _ _ _ (masked_alike _ p p' hp) (masked_alike _ q q' hq)

  pub surround_rounds_same : (islands : Bool) (p q p' q' : ℕ → Margin) → Alike p p' → Alike q q'
      → surround_rounds N lower upper islands p q centre ≡ surround_rounds N lower upper islands p' q' centre
  unfolding surround_rounds except
  surround_rounds_same true p q p' q' hp hq = run_same p q p' q' hp hq
  surround_rounds_same false p q p' q' hp hq = most_same _ _ (N.places)
      (λ k _. ap (λ (r : ℕ). cond (other N centre k) r 0) (run_same _ q _ q' (masked_alike (λ l. not (eqb l k)) p p' hp) hq))

module _ (N : Network) (line line' : ℕ → Signal margins) (extent : ℕ → Extent)
    (alike : (i t l : ℕ) → Has (extent i) t → l < N.places → line i t l ≡ line' i t l) (T : ℕ) where
  pub line_rounds_same : (o : Operator) (t l : ℕ) → Has (extent_of T extent o) t → rounds_at N line o t l ≡ rounds_at N line' o t l
  unfolding rounds_at
  line_rounds_same True t l b = refl
  line_rounds_same (AtLeast x c) t l b = refl
  line_rounds_same (AtMost x c) t l b = refl
  line_rounds_same (Not i) t l b = refl
  line_rounds_same (And i j) t l b = refl
  line_rounds_same (Until side i j lower upper) t l b = refl
  line_rounds_same (Somewhere i lower upper) t l b = refl
  line_rounds_same (Surrounded islands i j lower upper) t l b = surround_rounds_same N lower upper l islands _ _ _ _
      (λ m c. alike i t m (has_left (extent i) (extent j) t b) c)
      (λ m c. alike j t m (has_right (extent i) (extent j) t b) c)
  line_rounds_same (Or i j) t l b = refl
  line_rounds_same (Eventually side i lower upper) t l b = refl
  line_rounds_same (Always side i lower upper) t l b = refl
  line_rounds_same (Everywhere i lower upper) t l b = refl

rounds_at_lem : (N : Network) → 1 ≤ N.places → (line : ℕ → Signal margins) (o : Operator) (t l : ℕ) → rounds_at N line o t l ≤ N.places
unfolding rounds_at
rounds_at_lem N h line True t l = zero-le
rounds_at_lem N h line (AtLeast x c) t l = zero-le
rounds_at_lem N h line (AtMost x c) t l = zero-le
rounds_at_lem N h line (Not i) t l = zero-le
rounds_at_lem N h line (And i j) t l = zero-le
rounds_at_lem N h line (Until side i j lower upper) t l = zero-le
rounds_at_lem N h line (Somewhere i lower upper) t l = zero-le
rounds_at_lem N h line (Surrounded islands i j lower upper) t l = surround_rounds_lem N h lower upper islands (line i t) (line j t) l
rounds_at_lem N h line (Or i j) t l = zero-le
rounds_at_lem N h line (Eventually side i lower upper) t l = zero-le
rounds_at_lem N h line (Always side i lower upper) t l = zero-le
rounds_at_lem N h line (Everywhere i lower upper) t l = zero-le

pub rounds_at_most_places : (N : Network) (x : Recording) (lines : List Line) → 1 ≤ N.places → greatest_rounds N x lines ≤ N.places
unfolding greatest_rounds
rounds_at_most_places N x lines h = most_le _ (length lines) (N.places)
    (λ i _. most_le _ (line_in lines i).extent.length (N.places)
    (λ t _. most_le _ (N.places) (N.places) (λ l _. rounds_at_lem N h (value_at margins N x lines) (line_in lines i).operator ((line_in lines i).extent.first + t) l)))
