-- The surround of verdicts, without its tests: some region encloses the centre. With islands or without.
use mathlib.Core.Path.{◌≡◌, sym, subst}
use mathlib.Core.Logic.{◌⊎◌, inl, inr, ⊎_elim}
use mathlib.Core.Bool.{Bool, true, not, ◌&&◌, ◌||◌}
use Prim.Native.Nat.{ℕ, ◌<◌}
use lib.Dec.{T}
use Rattle.logic.specs.Lattice.{verdict_lattice, least_over}
use Rattle.logic.specs.Surround.{holds, boundary, bounded, allowed, region_value, surround}
use Rattle.counting.proofs.Tests.{and_i, and_l, and_r, or_l, or_r, or_e, when_e, when_i}
use Rattle.network.proofs.Reached.{LeadsOut}
use Rattle.logic.proofs.Quantifiers.{all_e, all_i, some_e, some_i}
use Rattle.logic.proofs.Regions.{region, holds_region, region_e, region_i}

module _ (joined : ℕ → ℕ → Bool) (n : ℕ) where
  boundary_e : (A : ℕ → Bool) (k : ℕ) → k < n → T (boundary joined n A k) → (j : ℕ) × LeadsOut joined n A j k
  unfolding boundary
  boundary_e A k b h =
      let (j, c, a, r) = some_e A (λ m. joined m k) n (and_r (not (A k)) _ h) in
      (j, record { start = c; stop = b; held = a; left = and_l (not (A k)) _ h; road = r })

  boundary_i : (A : ℕ → Bool) (j k : ℕ) → LeadsOut joined n A j k → T (boundary joined n A k)
  unfolding boundary
  boundary_i A j k o = and_i (not (A k)) _ o.left (some_i A (λ m. joined m k) n j o.start o.held o.road)

  module _ (islands : Bool) (inside edge p q : ℕ → Bool) (centre : ℕ) where
    -- p on all of A, in `inside`, and q on all of its boundary, in `edge`; unless islands count, there is one
    pub record Encloses (A : ℕ → Bool) : Type 0 where
      pub has_centre : T (A centre)
      pub inner : (l : ℕ) → l < n → T (A l) → T (inside l) × T (p l)
      pub outer : (j k : ℕ) → LeadsOut joined n A j k → T (edge k) × T (q k)
      pub some : T islands ⊎ ((j k : ℕ) × LeadsOut joined n A j k)

    tests_e : (A : ℕ → Bool) → T (allowed joined n islands inside edge centre A) → T (region_value verdict_lattice joined n p q A) → Encloses A
    unfolding allowed region_value bounded
    tests_e A h v =
        let w : T (A centre && (least_over verdict_lattice A inside n && least_over verdict_lattice (boundary joined n A) edge n)) = and_r (islands || bounded joined n A) _ h in
        let c : T (least_over verdict_lattice A inside n && least_over verdict_lattice (boundary joined n A) edge n) = and_r (A centre) _ w in
        record {
          has_centre = and_l (A centre) _ w;
          inner = λ l b a. (all_e A inside n (and_l (least_over verdict_lattice A inside n) _ c) l b a, all_e A p n (and_l (least_over verdict_lattice A p n) _ v) l b a);
          outer = λ j k o. (
            all_e (boundary joined n A) edge n (and_r (least_over verdict_lattice A inside n) _ c) k o.stop (boundary_i A j k o),
            all_e (boundary joined n A) q n (and_r (least_over verdict_lattice A p n) _ v) k o.stop (boundary_i A j k o),
          );
          some = ⊎_elim inl
              (λ u. let (k, b, f, _) = some_e (boundary joined n A) (λ _. true) n u in let (j, o) = boundary_e A k b f in inr (j, k, o))
              (or_e islands (bounded joined n A) (and_l (islands || bounded joined n A) _ h));
        }

    allowed_i : (A : ℕ → Bool) → Encloses A → T (allowed joined n islands inside edge centre A)
    unfolding allowed bounded
    allowed_i A e = and_i (islands || bounded joined n A) _
        (⊎_elim (or_l islands (bounded joined n A))
        (λ s. let (j, k, o) = s in or_r islands (bounded joined n A) (some_i (boundary joined n A) (λ _. true) n k o.stop (boundary_i A j k o) tt))
        e.some)
        (and_i (A centre) _ e.has_centre (and_i (least_over verdict_lattice A inside n) _
        (all_i A inside n (λ l b a. (e.inner l b a).0))
        (all_i (boundary joined n A) edge n (λ k b f. let (j, o) = boundary_e A k b f in (e.outer j k o).0))))

    value_i : (A : ℕ → Bool) → Encloses A → T (region_value verdict_lattice joined n p q A)
    unfolding region_value
    value_i A e = and_i (least_over verdict_lattice A p n) _
        (all_i A p n (λ l b a. (e.inner l b a).1))
        (all_i (boundary joined n A) q n (λ k b f. let (j, o) = boundary_e A k b f in (e.outer j k o).1))

    -- the places below n decide
    same_places : (A B : ℕ → Bool) → ((l : ℕ) → l < n → A l ≡ B l) → centre < n → Encloses A → Encloses B
    same_places A B s c e = record {
      has_centre = subst T (s centre c) e.has_centre;
      inner = λ l b a. e.inner l b (subst T (sym (s l b)) a);
      outer = λ j k o. e.outer j k (moved B A (λ l b. sym (s l b)) j k o);
      some = ⊎_elim inl (λ r. let (j, k, o) = r in inr (j, k, moved A B s j k o)) e.some;
    }
      where
        moved : (A B : ℕ → Bool) → ((l : ℕ) → l < n → A l ≡ B l) → (j k : ℕ) → LeadsOut joined n A j k → LeadsOut joined n B j k
        moved A B s j k o = record {
          start = o.start;
          stop = o.stop;
          held = subst T (s j o.start) o.held;
          left = subst (λ v. T (not v)) (s k o.stop) o.left;
          road = o.road;
        }

    pub surround_e : T (surround verdict_lattice joined n islands inside edge p q centre) → (A : ℕ → Bool) × Encloses A
    unfolding surround
    surround_e h =
        let (A, u) = region_e n _ h in
        let (a, v) = when_e (allowed joined n islands inside edge centre (holds (region n A))) _ u in
        (holds (region n A), tests_e (holds (region n A)) a v)

    pub surround_i : centre < n → (A : ℕ → Bool) → Encloses A → T (surround verdict_lattice joined n islands inside edge p q centre)
    unfolding surround
    surround_i c A e =
        let f = same_places A (holds (region n A)) (λ l b. sym (holds_region n A l b)) c e in
        region_i n _ A (when_i (allowed joined n islands inside edge centre (holds (region n A))) _ (allowed_i (holds (region n A)) f) (value_i (holds (region n A)) f))
