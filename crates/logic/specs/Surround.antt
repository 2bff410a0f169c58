-- Regions, their outer boundary (Definition 2.4, the source's external boundary) and the surround (Definitions 3.1 and 3.4): the greatest over all regions.
-- Places are the numbers below n; `joined a b` tests whether a road leads from a to b.
use Rattle.std.specs.Prelude.{Bool, true, false, not, cond, ◌&&◌, ◌||◌, List, [], ◌∷◌, ℕ, zero, suc, get_or}
use Rattle.logic.specs.Lattice.{Lattice, verdict_lattice, least_over, greatest_over}

-- a region has one Bool for each place
abbrev pub holds : List Bool → ℕ → Bool
holds A l = get_or A l false

-- the greatest of f over all regions of n places
unfoldable pub greatest_region : (L : Lattice) → ℕ → (List Bool → L.Value) → L.Value
greatest_region L zero f = f []
greatest_region L (suc n) f = L.join (greatest_region L n (λ A. f (false ∷ A))) (greatest_region L n (λ A. f (true ∷ A)))

module _ (joined : ℕ → ℕ → Bool) (n : ℕ) where
  -- Definition 2.4: k is outside A, and a road leads to it from a place of A (M-106)
  unfoldable pub boundary : (ℕ → Bool) → ℕ → Bool
  boundary A k = not (A k) && greatest_over verdict_lattice A (λ j. joined j k) n

  -- some place is on the boundary of A: it is no island
  unfoldable pub bounded : (ℕ → Bool) → Bool
  bounded A = greatest_over verdict_lattice (boundary A) (λ _. true) n

  -- A holds the centre, lies in `inside`, and its boundary lies in `edge`; unless islands count, its boundary is not empty (M-101)
  unfoldable pub allowed : Bool → (ℕ → Bool) → (ℕ → Bool) → ℕ → (ℕ → Bool) → Bool
  allowed islands inside edge centre A =
      (islands || bounded A) && (A centre && (least_over verdict_lattice A inside n && least_over verdict_lattice (boundary A) edge n))

module _ (L : Lattice) (joined : ℕ → ℕ → Bool) (n : ℕ) where
  -- left on all of A, right on all of its boundary
  unfoldable pub region_value : (ℕ → L.Value) → (ℕ → L.Value) → (ℕ → Bool) → L.Value
  region_value left right A = L.meet (least_over L A left n) (least_over L (boundary joined n A) right n)

  -- Definitions 3.1 and 3.4 at a centre, given whether islands count, the places in 0..upper of it (inside) and in lower..upper (edge); bottom where
  -- no region is allowed
  unfoldable pub surround : Bool → (ℕ → Bool) → (ℕ → Bool) → (ℕ → L.Value) → (ℕ → L.Value) → ℕ → L.Value
  surround islands inside edge left right centre = greatest_region L n
      (λ A. cond (allowed joined n islands inside edge centre (holds A)) (region_value left right (holds A)) L.bottom)
