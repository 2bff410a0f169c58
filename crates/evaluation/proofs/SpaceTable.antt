-- Somewhere and its dual by the table of distances are what the sheet's network gives: they look at the places below n alone, and there a test of range
-- by the table is that of the network.
use mathlib.Core.Path.{◌≡◌, refl, ap}
use mathlib.Core.Bool.{Bool, true, false}
use mathlib.Core.List.{List}
use Prim.Native.Nat.{ℕ, ◌<◌, ◌^◌}
use Rattle.logic.specs.Lattice.{greatest_over}
use Rattle.logic.specs.Table.{Signal, somewhere_at}
use Rattle.logic.proofs.Keeps.{greatest_same}
use Rattle.sheet.specs.declared.check.Layout.{Layout}
use Rattle.values.specs.Chain.{chains, chain_lattice, chain_opposite}
use Rattle.values.specs.Signals.{turned, in_table}
use Rattle.surrounds.proofs.Tables.{range_at}
use Rattle.ranges.specs.Ranges.{somewhere_in}
use Rattle.verdicts.specs.Around.{sheet_network}
use Rattle.evaluation.specs.Writing.{Surveyed}

module _ (s : List ℕ) (L : Layout) (distances : List ℕ) (survey : Surveyed s L distances) where
  range_same : (f : Signal chains) (lower upper t l : ℕ) → upper < 2 ^ 28 → l < L.places
      → greatest_over chain_lattice (in_table distances L.places l lower upper) (f t) L.places ≡ somewhere_at chains (sheet_network s L) f lower upper t l
  unfolding somewhere_at
  range_same f lower upper t l h b = greatest_same chain_lattice L.places (λ k c. range_at survey.measured lower upper l k h b c) (λ _ _. refl)

  pub somewhere_same : (dual : Bool) (f : Signal chains) (lower upper t l : ℕ) → upper < 2 ^ 28 → l < L.places
      → somewhere_in dual distances L.places f lower upper t l ≡ turned dual (somewhere_at chains (sheet_network s L) (turned dual f) lower upper) t l
  somewhere_same true f lower upper t l h b = ap chain_opposite (range_same (turned true f) lower upper t l h b)
  somewhere_same false f lower upper t l h b = range_same f lower upper t l h b
