-- Which corrections disagree with one among the first n: where those agree, any of them that has the sample and revision of k decides about k.
use mathlib.Core.Path.{◌≡◌, sym, ap, subst, ◌∙◌}
use mathlib.Core.Logic.{⊎_elim}
use mathlib.Core.Bool.{false, not}
use mathlib.Core.List.{List}
use Prim.Native.Nat.{ℕ, zero, suc, ◌<◌, ◌≤◌}
use native.Mathlib.Nat.{lt-suc_self}
use native.Mathlib.Decide.{dec_lt}
use native.Mathlib.Omega.{arith}
use borrow.Author.Tests.{eqb-true}
use lib.Dec.{T, eqb}
use Rattle.counting.proofs.Tests.{holds, and_i, and_l, and_r, or_l, or_r, or_e, dec_T, bool_ext, below}
use Rattle.checks.proofs.Tests.{equal}
use Rattle.corrections.specs.declared.correction.Grid.{Grid}
use Rattle.corrections.specs.Corrections.{revision, value, target, same_revision, disagree, disagrees_with}

module _ (c : List ℕ) (g : Grid) where
  pub same_told : (i k : ℕ) → T (same_revision c g i k) → (target c g i ≡ target c g k) × (revision c i ≡ revision c k)
  same_told i k same =
      let sample = eqb (target c g i) (target c g k) in
      let revised = eqb (revision c i) (revision c k) in
      (eqb-true _ _ (holds sample (and_l sample revised same)), eqb-true _ _ (holds revised (and_r sample revised same)))

  pub same_by : (i k : ℕ) → target c g i ≡ target c g k → revision c i ≡ revision c k → T (same_revision c g i k)
  same_by i k sample revised = and_i (eqb (target c g i) (target c g k)) (eqb (revision c i) (revision c k)) (equal _ _ sample) (equal _ _ revised)

  same_sym : (i k : ℕ) → T (same_revision c g i k) → T (same_revision c g k i)
  same_sym i k same = let told = same_told i k same in same_by k i (sym told.0) (sym told.1)

  pub same_trans : (i k m : ℕ) → T (same_revision c g i k) → T (same_revision c g k m) → T (same_revision c g i m)
  same_trans i k m one other =
      let a = same_told i k one in
      let b = same_told k m other in
      same_by i m (a.0 ∙ b.0) (a.1 ∙ b.1)

  -- ---- one of the first n
  disagrees_told : (k n : ℕ) → T (disagrees_with c g k n) → (i : ℕ) × (i < n) × T (disagree c g i k)
  unfolding disagrees_with
  disagrees_told k zero h = absurd h
  disagrees_told k (suc n) h = ⊎_elim
      (λ l. let found = disagrees_told k n l in (found.0, omega (arith, found.1), found.2))
      (λ r. (n, lt-suc_self n, r))
      (or_e (disagrees_with c g k n) (disagree c g n k) h)

  disagrees_by : (k n i : ℕ) → i < n → T (disagree c g i k) → T (disagrees_with c g k n)
  unfolding disagrees_with
  disagrees_by k zero i l h = absurd (omega arith)
  disagrees_by k (suc n) i l h = ⊎_elim
      (λ e. or_r (disagrees_with c g k n) (disagree c g n k) (subst (λ (m : ℕ). T (disagree c g m k)) e h))
      (λ b. or_l (disagrees_with c g k n) (disagree c g n k) (disagrees_by k n i b h))
      (below l)

  pub disagrees_more : (k m n : ℕ) → m ≤ n → T (disagrees_with c g k m) → T (disagrees_with c g k n)
  disagrees_more k m n h told = let found = disagrees_told k m told in disagrees_by k n found.0 (omega (arith, found.1)) found.2

  -- ---- who decides about k
  pub none_decides : (k m n : ℕ) → disagrees_with c g k m ≡ false → ((i : ℕ) → m ≤ i → i < n → same_revision c g i k ≡ false) → disagrees_with c g k n ≡ false
  none_decides k m n apart none = bool_ext (disagrees_with c g k n) false
      (λ h. let found = disagrees_told k n h in by found.0 found.1 found.2 (dec_lt found.0 m))
      (λ h. absurd h)
    where
      by : (i : ℕ) → i < n → T (disagree c g i k) → Dec (i < m) → ⊥
      by i l h (yes before) = subst T apart (disagrees_by k m i before h)
      by i l h (no after) = subst T (none i (omega arith) l) (and_l (same_revision c g i k) _ h)

  -- where the first n agree, those of one sample and revision have one value
  module _ (n : ℕ) (agreed : (i : ℕ) → i < n → disagrees_with c g i i ≡ false) where
    in_order : (i m : ℕ) → i < m → m < n → T (same_revision c g i m) → value c i ≡ value c m
    in_order i m before l same = ⊎_elim
        (λ e. eqb-true _ _ (holds (eqb (value c i) (value c m)) e))
        (λ unlike. absurd (subst T (agreed m l) (disagrees_by m m i before (and_i (same_revision c g i m) _ same unlike))))
        (dec_T (eqb (value c i) (value c m)))

    pub one_value : (i m : ℕ) → i < n → m < n → T (same_revision c g i m) → value c i ≡ value c m
    one_value i m l b same = by (dec_lt i m) (dec_lt m i)
      where
        by : Dec (i < m) → Dec (m < i) → value c i ≡ value c m
        by (yes before) _ = in_order i m before b same
        by (no _) (yes after) = sym (in_order m i after l (same_sym i m same))
        by (no p) (no q) = let here : i ≡ m = omega arith in ap (value c) here

    -- so any of them decides about another one
    pub one_decides : (k i : ℕ) → i < n → T (same_revision c g i k) → disagrees_with c g k n ≡ not (eqb (value c i) (value c k))
    one_decides k i l same = bool_ext _ _
        (λ h.
        let found = disagrees_told k n h in
        let other : T (same_revision c g found.0 k) = and_l (same_revision c g found.0 k) _ found.2 in
        let alike : value c found.0 ≡ value c i = one_value found.0 i found.1 l (same_trans found.0 k i other (same_sym i k same)) in
        subst (λ (v : ℕ). T (not (eqb v (value c k)))) alike (and_r (same_revision c g found.0 k) _ found.2))
        (λ unlike. disagrees_by k n i l (and_i (same_revision c g i k) _ same unlike))
