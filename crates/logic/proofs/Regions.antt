-- All regions of n places, for verdicts: some region passes exactly when the greatest over all regions does.
use mathlib.Core.Path.{◌≡◌, refl}
use mathlib.Core.Logic.{⊎_elim}
use mathlib.Core.Bool.{Bool, true, false, ◌||◌}
use mathlib.Core.List.{List, [], ◌∷◌}
use Prim.Native.Nat.{ℕ, zero, suc, ◌<◌}
use native.Mathlib.Nat.{not-suc-le-zero, le_of_suc-le-suc}
use lib.Dec.{T}
use Rattle.logic.specs.Lattice.{verdict_lattice}
use Rattle.logic.specs.Surround.{holds, greatest_region}
use Rattle.counting.proofs.Tests.{or_l, or_r, or_e}

-- the region of the places that pass A
abbrev pub region : ℕ → (ℕ → Bool) → List Bool
region zero A = []
region (suc n) A = A zero ∷ region n (λ l. A (suc l))

pub holds_region : (n : ℕ) (A : ℕ → Bool) (l : ℕ) → l < n → holds (region n A) l ≡ A l
holds_region zero A l b = absurd (not-suc-le-zero b)
holds_region (suc n) A zero b = refl
holds_region (suc n) A (suc l) b = holds_region n (λ k. A (suc k)) l (le_of_suc-le-suc b)

-- one place before the others
abbrev before : Bool → (ℕ → Bool) → ℕ → Bool
before b A zero = b
before b A (suc l) = A l

pub region_e : (n : ℕ) (f : List Bool → Bool) → T (greatest_region verdict_lattice n f) → (A : ℕ → Bool) × T (f (region n A))
unfolding greatest_region
region_e zero f h = (λ _. false, h)
region_e (suc n) f h = ⊎_elim
    (λ u. let r = region_e n (λ A. f (false ∷ A)) u in (before false r.0, r.1))
    (λ u. let r = region_e n (λ A. f (true ∷ A)) u in (before true r.0, r.1))
    (or_e (greatest_region verdict_lattice n (λ A. f (false ∷ A))) _ h)

pub region_i : (n : ℕ) (f : List Bool → Bool) (A : ℕ → Bool) → T (f (region n A)) → T (greatest_region verdict_lattice n f)
unfolding greatest_region
region_i zero f A h = h
region_i (suc n) f A h = go (A zero) (region_i n (λ R. f (A zero ∷ R)) (λ l. A (suc l)) h)
  where
    go : (b : Bool) → T (greatest_region verdict_lattice n (λ R. f (b ∷ R))) → T (greatest_region verdict_lattice n (λ R. f (false ∷ R)) || greatest_region verdict_lattice n (λ R. f (true ∷ R)))
    go true u = or_r (greatest_region verdict_lattice n (λ R. f (false ∷ R))) _ u
    go false u = or_l (greatest_region verdict_lattice n (λ R. f (false ∷ R))) (greatest_region verdict_lattice n (λ R. f (true ∷ R))) u
