-- A relation between the values of two lattices that top, bottom, meet and join keep is kept by everything that is defined by these.
-- Its uses: thresholds (h a ≡ b), nearness (`Near d`), order, and the agreement of a margin with a verdict.
use mathlib.Core.Path.{◌≡◌, refl, ap₂}
use mathlib.Core.Bool.{Bool, true, false, cond}
use mathlib.Core.List.{List, [], ◌∷◌}
use Prim.Native.Nat.{ℕ, zero, suc, ◌<◌}
use native.Mathlib.Nat.{lt-suc_self, le-suc, le_trans}
use lib.Dec.{T}
use Rattle.logic.specs.Lattice.{Lattice, least_over, greatest_over}
use Rattle.logic.specs.Surround.{holds, greatest_region, allowed, region_value, surround}
use Rattle.logic.specs.Iteration.{iterate, masked}

pub record Keeps (L M : Lattice) (R : L.Value → M.Value → Type 0) : Type 0 where
  pub keeps_top : R L.top M.top
  pub keeps_bottom : R L.bottom M.bottom
  pub keeps_meet : (a b : L.Value) (c d : M.Value) → R a c → R b d → R (L.meet a b) (M.meet c d)
  pub keeps_join : (a b : L.Value) (c d : M.Value) → R a c → R b d → R (L.join a b) (M.join c d)

-- equality is kept: what is defined over a lattice depends on values alone, and only where it looks
pub same_kept : (L : Lattice) → Keeps L L (λ a b. a ≡ b)
same_kept L = record {
  keeps_top = refl;
  keeps_bottom = refl;
  keeps_meet = λ a b c d h k. ap₂ L.meet h k;
  keeps_join = λ a b c d h k. ap₂ L.join h k;
}

-- the other way round
pub flipped : (L M : Lattice) (R : L.Value → M.Value → Type 0) → Keeps L M R → Keeps M L (λ a b. R b a)
flipped L M R K = record {
  keeps_top = K.keeps_top;
  keeps_bottom = K.keeps_bottom;
  keeps_meet = λ a b c d. K.keeps_meet c d a b;
  keeps_join = λ a b c d. K.keeps_join c d a b;
}

-- the greatest over tests and values that are the same below n
pub greatest_same : (L : Lattice) {t t' : ℕ → Bool} {f f' : ℕ → L.Value} (n : ℕ) → ((k : ℕ) → k < n → t k ≡ t' k) → ((k : ℕ) → k < n → f k ≡ f' k)
    → greatest_over L t f n ≡ greatest_over L t' f' n
unfolding greatest_over
greatest_same L zero h e = refl
greatest_same L (suc n) h e = ap₂ L.join (greatest_same L n (λ k b. h k (le_trans b (le-suc n))) (λ k b. e k (le_trans b (le-suc n))))
    (ap₂ (λ t v. cond t v L.bottom) (h n (lt-suc_self n)) (e n (lt-suc_self n)))

module _ (L M : Lattice) (R : L.Value → M.Value → Type 0) (K : Keeps L M R) where
  pub cond_kept : (t : Bool) (a b : L.Value) (c d : M.Value) → (T t → R a c) → R b d → R (cond t a b) (cond t c d)
  cond_kept true a b c d h k = h tt
  cond_kept false a b c d h k = k

  pub least_kept : (t : ℕ → Bool) (f : ℕ → L.Value) (g : ℕ → M.Value) (n : ℕ) → ((l : ℕ) → l < n → T (t l) → R (f l) (g l)) → R (least_over L t f n) (least_over M t g n)
  unfolding least_over
  least_kept t f g zero h = K.keeps_top
  least_kept t f g (suc n) h = K.keeps_meet _ _ _ _ (least_kept t f g n (λ l b. h l (le_trans b (le-suc n)))) (cond_kept (t n) _ _ _ _ (h n (lt-suc_self n)) K.keeps_top)

  pub greatest_kept : (t : ℕ → Bool) (f : ℕ → L.Value) (g : ℕ → M.Value) (n : ℕ) → ((l : ℕ) → l < n → T (t l) → R (f l) (g l)) → R (greatest_over L t f n) (greatest_over M t g n)
  unfolding greatest_over
  greatest_kept t f g zero h = K.keeps_bottom
  greatest_kept t f g (suc n) h = K.keeps_join _ _ _ _ (greatest_kept t f g n (λ l b. h l (le_trans b (le-suc n)))) (cond_kept (t n) _ _ _ _ (h n (lt-suc_self n)) K.keeps_bottom)

  pub region_kept : (n : ℕ) (f : List Bool → L.Value) (g : List Bool → M.Value) → ((A : List Bool) → R (f A) (g A)) → R (greatest_region L n f) (greatest_region M n g)
  unfolding greatest_region
  region_kept zero f g h = h []
  region_kept (suc n) f g h = K.keeps_join _ _ _ _ (region_kept n _ _ (λ A. h (false ∷ A))) (region_kept n _ _ (λ A. h (true ∷ A)))

  pub masked_kept : (t : ℕ → Bool) (f : ℕ → L.Value) (g : ℕ → M.Value) (n : ℕ) → ((l : ℕ) → l < n → R (f l) (g l)) → (l : ℕ) → l < n → R (masked L t f l) (masked M t g l)
  unfolding masked
  masked_kept t f g n h l b = cond_kept (t l) _ _ _ _ (λ _. h l b) K.keeps_bottom

  module _ (joined : ℕ → ℕ → Bool) (n : ℕ) (p q : ℕ → L.Value) (p' q' : ℕ → M.Value)
      (hp : (l : ℕ) → l < n → R (p l) (p' l)) (hq : (l : ℕ) → l < n → R (q l) (q' l)) where
    pub region_value_kept : (A : ℕ → Bool) → R (region_value L joined n p q A) (region_value M joined n p' q' A)
    unfolding region_value
    region_value_kept A = K.keeps_meet _ _ _ _ (least_kept A p p' n (λ l b _. hp l b)) (least_kept _ q q' n (λ l b _. hq l b))

    pub surround_kept : (islands : Bool) (inside edge : ℕ → Bool) (l : ℕ) → R (surround L joined n islands inside edge p q l) (surround M joined n islands inside edge p' q' l)
    unfolding surround
    surround_kept islands inside edge l = region_kept n _ _ (λ A. cond_kept (allowed joined n islands inside edge l (holds A)) _ _ _ _ (λ _. region_value_kept (holds A)) K.keeps_bottom)

    pub iterate_kept : (i l : ℕ) → l < n → R (iterate L joined n p q i l) (iterate M joined n p' q' i l)
    unfolding iterate
    iterate_kept zero l b = hp l b
    iterate_kept (suc i) l b = K.keeps_meet _ _ _ _ (iterate_kept i l b) (least_kept (joined l) _ _ n (λ k c _. K.keeps_join _ _ _ _ (iterate_kept i k c) (hq k c)))
