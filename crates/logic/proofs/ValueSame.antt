-- The value of a line depends on the samples of the signal that it names, and on its operands within their extents, alone: an operator over time looks
-- no further than its upper bound.
use mathlib.Core.Path.{◌≡◌, refl, ap, ap₂}
use mathlib.Core.Logic.{◌⊎◌, inl, inr}
use mathlib.Core.Bool.{Bool}
use Prim.Native.Nat.{ℕ, ◌<◌, ◌≤◌}
use native.Mathlib.Omega.{arith}
use lib.IntN.{ℤ, ◌-ℤ◌}
use Rattle.network.specs.Network.{Network, joined, within}
use Rattle.formulas.specs.Formulas.{Direction, forward, backward, Operator, True, AtLeast, AtMost, Not, And, Until, Somewhere, Surrounded, Or, Eventually, Always, Everywhere, Extent, common, looking, extent_of, Recording}
use Rattle.formulas.proofs.Extents.{Has, has_left, has_right}
use Rattle.logic.specs.Table.{Reading, Signal, away, until_at, somewhere_at, surround_at, opposite, value}
use Rattle.logic.proofs.Keeps.{same_kept, greatest_kept, surround_kept}
use Rattle.logic.proofs.SoFar.{until_related}

-- an atom of this signal
abbrev pub Names : Operator → ℕ → Type 0
Names o signal = (c : ℤ) × ((o ≡ AtLeast signal c) ⊎ (o ≡ AtMost signal c))

module _ (R : Reading) (N : Network) where
  abbrev Same : R.lattice.Value → R.lattice.Value → Type 0
  Same a b = a ≡ b

  -- two signals alike at every place of the samples of an extent
  abbrev AlikeIn : Extent → Signal R → Signal R → Type 0
  AlikeIn e f g = (t l : ℕ) → Has e t → l < N.places → f t l ≡ g t l

  -- a sample as far away as the upper bound or nearer lies in the extent
  looked_at : (side : Direction) (upper t k : ℕ) (e : Extent) → Has (looking side upper e) t → k ≤ upper → Has e (away side t k)
  looked_at forward upper t k e h near = record { from = omega (arith, h.from); to = omega (arith, h.to) }
  looked_at backward upper t k e h near = record { from = omega (arith, h.from); to = omega (arith, h.from, h.to) }

  until_same : (side : Direction) (p q p' q' : Signal R) (e : Extent) → AlikeIn e p p' → AlikeIn e q q' → (lower upper : ℕ)
      → AlikeIn (looking side upper e) (until_at R side p q lower upper) (until_at R side p' q' lower upper)
  unfolding until_at
  until_same side p q p' q' e hp hq lower upper t l h c = until_related R R Same (same_kept R.lattice) side p q p' q' t t l lower _
      (λ k b. hp (away side t k) l (looked_at side upper t k e h (omega arith)) c) (λ k b. hq (away side t k) l (looked_at side upper t k e h (omega arith)) c)

  somewhere_same : (p p' : Signal R) (e : Extent) → AlikeIn e p p' → (lower upper : ℕ) → AlikeIn e (somewhere_at R N p lower upper) (somewhere_at R N p' lower upper)
  unfolding somewhere_at
  somewhere_same p p' e hp lower upper t l b c =
      greatest_kept R.lattice R.lattice Same (same_kept R.lattice) (within N l lower upper) _ _ N.places (λ k d _. hp t k b d)

  surround_same : (islands : Bool) (p q p' q' : Signal R) (e : Extent) → AlikeIn e p p' → AlikeIn e q q' → (lower upper : ℕ)
      → AlikeIn e (surround_at R N islands p q lower upper) (surround_at R N islands p' q' lower upper)
  unfolding surround_at
  surround_same islands p q p' q' e hp hq lower upper t l b c = surround_kept R.lattice R.lattice Same (same_kept R.lattice) (joined N) N.places
      (p t) (q t) (p' t) (q' t) (λ k d. hp t k b d) (λ k d. hq t k b d) islands _ _ l

  module _ (x y : Recording) (line line' : ℕ → Signal R) (extent : ℕ → Extent) (alike : (i : ℕ) → AlikeIn (extent i) (line i) (line' i)) (T : ℕ) where
    -- both operands within the samples of both
    lefts : (i j : ℕ) → AlikeIn (common (extent i) (extent j)) (line i) (line' i)
    lefts i j t l b c = alike i t l (has_left (extent i) (extent j) t b) c

    rights : (i j : ℕ) → AlikeIn (common (extent i) (extent j)) (line j) (line' j)
    rights i j t l b c = alike j t l (has_right (extent i) (extent j) t b) c

    opposites : (i : ℕ) → AlikeIn (extent i) (opposite R (line i)) (opposite R (line' i))
    opposites i t l b c = ap R.opposite (alike i t l b c)

    pub value_same : (o : Operator) → ((s t l : ℕ) → Names o s → t < T → l < N.places → x s t l ≡ y s t l)
        → AlikeIn (extent_of T extent o) (value R N x line o) (value R N y line' o)
    unfolding value
    value_same True heard t l b c = refl
    value_same (AtLeast s k) heard t l b c = ap (λ (z : ℤ). R.atom (z -ℤ k)) (heard s t l (k, inl refl) (omega (arith, b.to)) c)
    value_same (AtMost s k) heard t l b c = ap (λ (z : ℤ). R.atom (k -ℤ z)) (heard s t l (k, inr refl) (omega (arith, b.to)) c)
    value_same (Not i) heard t l b c = opposites i t l b c
    value_same (And i j) heard t l b c = ap₂ (R.lattice).meet (lefts i j t l b c) (rights i j t l b c)
    value_same (Until side i j lower upper) heard t l b c = until_same side _ _ _ _ _ (lefts i j) (rights i j) lower upper t l b c
    value_same (Somewhere i lower upper) heard t l b c = somewhere_same _ _ _ (alike i) lower upper t l b c
    value_same (Surrounded islands i j lower upper) heard t l b c = surround_same islands _ _ _ _ _ (lefts i j) (rights i j) lower upper t l b c
    value_same (Or i j) heard t l b c = ap R.opposite (ap₂ (R.lattice).meet (ap R.opposite (lefts i j t l b c)) (ap R.opposite (rights i j t l b c)))
    value_same (Eventually side i lower upper) heard t l b c = until_same side _ _ _ _ _ (λ _ _ _ _. refl) (alike i) lower upper t l b c
    value_same (Always side i lower upper) heard t l b c = ap R.opposite (until_same side _ _ _ _ _ (λ _ _ _ _. refl) (opposites i) lower upper t l b c)
    value_same (Everywhere i lower upper) heard t l b c = ap R.opposite (somewhere_same _ _ _ (opposites i) lower upper t l b c)
