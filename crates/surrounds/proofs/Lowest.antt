-- What is lowest stays lowest: the surround of a left signal that is lowest at the centre, as every region that counts holds the centre.
use mathlib.Core.Path.{◌≡◌, refl}
use mathlib.Core.Logic.{⊎_elim}
use mathlib.Core.Bool.{Bool, true, false, cond, and-false, ◌||◌}
use mathlib.Core.List.{List, ◌∷◌}
use Prim.Native.Nat.{ℕ, zero, suc, ◌<◌}
use native.Mathlib.Nat.{eq-or-lt_of_le, le_of_suc-le-suc}
use native.Mathlib.Omega.{arith}
use Rattle.logic.specs.Lattice.{least_over}
use Rattle.logic.specs.Surround.{holds, greatest_region, bounded, allowed, region_value, surround}
use Rattle.values.specs.Chain.{chain_lattice}
use Rattle.values.proofs.Naturals.{meet_min, join_max}
use Rattle.iteration.proofs.Outside.{meet_low}

cond_low : (t : Bool) (c : ℕ) → c ≡ 0 → cond t c 0 ≡ 0
cond_low true c h = h
cond_low false c h = refl

region_low : (n : ℕ) (f : List Bool → ℕ) → ((A : List Bool) → f A ≡ 0) → greatest_region chain_lattice n f ≡ 0
unfolding greatest_region
region_low zero f h = h _
region_low (suc n) f h = rw join_max (omega (arith, region_low n (λ A. f (false ∷ A)) (λ A. h (false ∷ A)), region_low n (λ A. f (true ∷ A)) (λ A. h (true ∷ A))))

least_low : (test : ℕ → Bool) (f : ℕ → ℕ) (n k : ℕ) → k < n → test k ≡ true → f k ≡ 0 → least_over chain_lattice test f n ≡ 0
unfolding least_over
least_low test f zero k b t e = absurd (omega arith)
least_low test f (suc n) k b t e = ⊎_elim
    (λ same. rw (meet_min, ← same, t, e) (omega arith))
    (λ less. meet_low _ _ (least_low test f n k less t e))
    (eq-or-lt_of_le (le_of_suc-le-suc b))

pub surround_low : (joined : ℕ → ℕ → Bool) (n : ℕ) (islands : Bool) (inside edge : ℕ → Bool) (left right : ℕ → ℕ) (centre : ℕ) → centre < n → left centre ≡ 0
    → surround chain_lattice joined n islands inside edge left right centre ≡ 0
unfolding surround allowed region_value
surround_low joined n islands inside edge left right centre b e = region_low n _ (λ A. region A (holds A centre) refl)
  where
    region : (A : List Bool) (t : Bool) → holds A centre ≡ t
        → cond (allowed joined n islands inside edge centre (holds A)) (region_value chain_lattice joined n left right (holds A)) 0 ≡ 0
    region A true h = cond_low (allowed joined n islands inside edge centre (holds A)) _ (meet_low _ _ (least_low (holds A) left n centre b h e))
    region A false h = rw (h, and-false (islands || bounded joined n (holds A))) refl
