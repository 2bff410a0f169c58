-- Until and since as they are read, sample by sample (M-102): what one sample more adds, that nothing is found before the lower bound, and that what
-- has been found depends on the samples read alone.
use mathlib.Core.Path.{◌≡◌, refl, ap, ap₂, ◌∙◌}
use mathlib.Core.Bool.{cond}
use Prim.Native.Nat.{ℕ, zero, suc, ◌<◌, ◌≤◌}
use native.Mathlib.Nat.{le_of_lt, le_trans}
use lib.Dec.{leb}
use borrow.Author.Tests.{le-leb, lt-leb}
use Rattle.formulas.specs.Formulas.{Direction}
use Rattle.logic.specs.Lattice.{Lattice, least_over, greatest_over}
use Rattle.logic.specs.Table.{Reading, Signal, away, least_so_far, until_so_far}
use Rattle.logic.proofs.Keeps.{Keeps, least_kept, greatest_kept}

-- the greatest of the numbers from `first` up to and without n: none before the first, and from there on each counts
module _ (L : Lattice) (f : ℕ → L.Value) (first : ℕ) where
  pub greatest_none : L.join L.bottom L.bottom ≡ L.bottom → (n : ℕ) → n ≤ first → greatest_over L (leb first) f n ≡ L.bottom
  unfolding greatest_over
  greatest_none same zero h = refl
  greatest_none same (suc n) h = ap₂ (λ v c. L.join v (cond c (f n) L.bottom)) (greatest_none same n (le_of_lt h)) (lt-leb first n h) ∙ same

  pub greatest_more : (n : ℕ) → first ≤ n → greatest_over L (leb first) f (suc n) ≡ L.join (greatest_over L (leb first) f n) (f n)
  unfolding greatest_over
  greatest_more n h = ap (λ c. L.join (greatest_over L (leb first) f n) (cond c (f n) L.bottom)) (le-leb first n h)

module _ (R : Reading) (side : Direction) (left right : Signal R) (lower t l : ℕ) where
  pub least_more : (n : ℕ) → least_so_far R side left t l (suc n) ≡ R.lattice.meet (least_so_far R side left t l n) (left (away side t n) l)
  unfolding least_so_far least_over
  least_more n = refl

  pub until_more : (n : ℕ) → lower ≤ n → until_so_far R side left right lower t l (suc n)
      ≡ R.lattice.join (until_so_far R side left right lower t l n) (R.lattice.meet (right (away side t n) l) (least_so_far R side left t l (suc n)))
  unfolding until_so_far
  until_more n h = greatest_more R.lattice _ lower n h

  pub before_lower : R.lattice.join R.lattice.bottom R.lattice.bottom ≡ R.lattice.bottom → (n : ℕ) → n ≤ lower → until_so_far R side left right lower t l n ≡ R.lattice.bottom
  unfolding until_so_far
  before_lower same n h = greatest_none R.lattice _ lower same n h

-- two windows whose samples are related, as far as they are read
module _ (R M : Reading) (Rel : R.lattice.Value → M.lattice.Value → Type 0) (K : Keeps R.lattice M.lattice Rel)
    (side : Direction) (p q : Signal R) (p' q' : Signal M) (t t' l : ℕ) where
  abbrev AlikeTo : ℕ → Signal R → Signal M → Type 0
  AlikeTo n f g = (k : ℕ) → k < n → Rel (f (away side t k) l) (g (away side t' k) l)

  pub least_related : (n : ℕ) → AlikeTo n p p' → Rel (least_so_far R side p t l n) (least_so_far M side p' t' l n)
  unfolding least_so_far
  least_related n hp = least_kept R.lattice M.lattice Rel K _ _ _ n (λ k b _. hp k b)

  pub until_related : (lower n : ℕ) → AlikeTo n p p' → AlikeTo n q q' → Rel (until_so_far R side p q lower t l n) (until_so_far M side p' q' lower t' l n)
  unfolding until_so_far
  until_related lower n hp hq = greatest_kept R.lattice M.lattice Rel K _ _ _ n
      (λ k b _. K.keeps_meet _ _ _ _ (hq k b) (least_related (suc k) (λ j c. hp j (le_trans c b))))
