-- The lattice of any total order: the lesser and the greater by cases, what they keep, and thresholds, which tell values apart.
use mathlib.Core.Path.{◌≡◌, sym, ap₂, subst, ◌∙◌}
use mathlib.Core.Logic.{◌⊎◌, ⊎_elim}
use mathlib.Core.Bool.{Bool, true, false, not, cond, ◌&&◌, ◌||◌}
use lib.Dec.{T, T_not}
use Rattle.logic.specs.Lattice.{ordered}
use Rattle.counting.proofs.Tests.{dec_T, bool_ext, and_i, and_l, and_r, or_l, or_r, or_e}
use Rattle.logic.proofs.Keeps.{Keeps}
use Rattle.logic.proofs.Thresholds.{Threshold, Apart}

module _ {A : Type 0} (le : A → A → Bool) (b t : A)
    (trans : (x y z : A) → T (le x y) → T (le y z) → T (le x z)) (total : (x y : A) → T (le x y) ⊎ T (le y x)) where
  pub le_self : (x : A) → T (le x x)
  le_self x = ⊎_elim (λ h. h) (λ h. h) (total x x)

  other : (x y : A) → T (not (le x y)) → T (le y x)
  other x y h = ⊎_elim (λ k. absurd (T_not (le x y) h k)) (λ k. k) (total x y)

  -- what is chosen by a comparison
  chosen_by : (P : A → Type 0) (x y u v : A) → (T (le x y) → P u) → (T (le y x) → P v) → P (cond (le x y) u v)
  chosen_by P x y u v f g = go (le x y) f (λ h. g (other x y h))
    where
      go : (c : Bool) → (T c → P u) → (T (not c) → P v) → P (cond c u v)
      go true f g = f tt
      go false f g = g tt

  -- the lesser of two is one of them, below both; the greater likewise
  pub meet_by : (P : A → Type 0) (x y : A) → (T (le x y) → P x) → (T (le y x) → P y) → P (cond (le x y) x y)
  meet_by P x y = chosen_by P x y x y

  pub join_by : (P : A → Type 0) (x y : A) → (T (le x y) → P y) → (T (le y x) → P x) → P (cond (le x y) y x)
  join_by P x y = chosen_by P x y y x

  -- what holds of every value that is put in holds of what comes out
  pub each_kept : (P : A → Type 0) → P t → P b → Keeps (ordered le b t) (ordered le b t) (λ x _. P x)
  each_kept P pt pb = record {
    keeps_top = pt;
    keeps_bottom = pb;
    keeps_meet = λ x y z w h k. meet_by P x y (λ _. h) (λ _. k);
    keeps_join = λ x y z w h k. join_by P x y (λ _. k) (λ _. h);
  }

  -- a relation that the order may be put before and after is kept
  pub keeps : (R : A → A → Type 0) → ((x y z : A) → T (le x y) → R y z → R x z) → ((x y z : A) → R x y → T (le y z) → R x z) → R t t → R b b
      → Keeps (ordered le b t) (ordered le b t) R
  keeps R pre post rt rb = record {
    keeps_top = rt;
    keeps_bottom = rb;
    keeps_meet = λ x y z w h k. meet_by (λ v. R (cond (le x y) x y) v) z w
        (λ _. meet_by (λ v. R v z) x y (λ _. h) (λ u. pre y x z u h))
        (λ _. meet_by (λ v. R v w) x y (λ u. pre x y w u k) (λ _. k));
    keeps_join = λ x y z w h k. join_by (λ v. R v (cond (le z w) w z)) x y
        (λ _. join_by (λ v. R y v) z w (λ _. k) (λ u. post y w z k u))
        (λ _. join_by (λ v. R x v) z w (λ u. post x z w h u) (λ _. h));
  }

  meet_reads : (m x y : A) → le m (cond (le x y) x y) ≡ (le m x && le m y)
  meet_reads m x y = meet_by (λ v. le m v ≡ (le m x && le m y)) x y
      (λ u. bool_ext _ _ (λ a. and_i (le m x) _ a (trans m x y a u)) (λ a. and_l (le m x) _ a))
      (λ u. bool_ext _ _ (λ a. and_i (le m x) _ (trans m y x a u) a) (λ a. and_r (le m x) _ a))

  join_reads : (m x y : A) → le m (cond (le x y) y x) ≡ (le m x || le m y)
  join_reads m x y = join_by (λ v. le m v ≡ (le m x || le m y)) x y
      (λ u. bool_ext _ _ (λ a. or_r (le m x) _ a) (λ a. ⊎_elim (λ c. trans m x y c u) (λ c. c) (or_e (le m x) _ a)))
      (λ u. bool_ext _ _ (λ a. or_l (le m x) (le m y) a) (λ a. ⊎_elim (λ c. c) (λ c. trans m y x c u) (or_e (le m x) _ a)))

  -- "at least m" is a threshold, for m above the least
  pub at_least : (m : A) → T (le m t) → T (not (le m b)) → Threshold (ordered le b t) (le m)
  at_least m ht hb = record {
    keeps_top = bool_ext _ _ (λ _. tt) (λ _. ht);
    keeps_bottom = bool_ext _ _ (λ h. T_not (le m b) hb h) (λ h. absurd h);
    keeps_meet = λ x y c d h k. meet_reads m x y ∙ ap₂ ◌&&◌ h k;
    keeps_join = λ x y c d h k. join_reads m x y ∙ ap₂ ◌||◌ h k;
  }

  -- values that every threshold takes alike are equal
  pub apart : ((x : A) → T (le b x)) → ((x : A) → T (le x t)) → ((x y : A) → T (le x y) → T (le y x) → x ≡ y) → Apart (ordered le b t)
  apart low high anti x y same = anti x y (half x y same) (half y x (λ h K. sym (same h K)))
    where
      half : (x y : A) → ((h : A → Bool) → Threshold (ordered le b t) h → h x ≡ h y) → T (le x y)
      half x y same = ⊎_elim
          (λ u. trans x b y u (low y))
          (λ u. subst T (same (le x) (at_least x (high x) u)) (le_self x))
          (dec_T (le x b))
