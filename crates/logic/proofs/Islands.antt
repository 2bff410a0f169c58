-- Request M-101: where a region with an empty boundary does not count, the surround is the greatest, over the other places with a distance from the
-- centre, of the plain surround with the left of that place at bottom: so the published iteration, run once for each, gives it.
use mathlib.Core.Path.{◌≡◌, refl, sym, ap₂, ◌∙◌}
use mathlib.Core.Logic.{inl, inr, ⊎_elim}
use mathlib.Core.Bool.{Bool, true, false, not, cond, ◌||◌}
use mathlib.Core.List.{List}
use Prim.Native.Nat.{ℕ, ◌<◌}
use native.Mathlib.Nat.{le-suc}
use borrow.Author.Tests.{ne_eqb}
use lib.Dec.{T, T_not, not_T, eqb, eqb→eq, eqb_refl}
use Rattle.logic.specs.Lattice.{Lattice, verdict_lattice, least_over, greatest_over}
use Rattle.network.specs.Network.{Network, joined, within, reached, other}
use Rattle.logic.specs.Margin.{Margin, margin_lattice}
use Rattle.logic.specs.Surround.{holds, bounded, allowed, region_value, surround}
use Rattle.logic.specs.Iteration.{iterate, masked, except}
use Rattle.logic.specs.Counts.{run_rounds}
use Rattle.counting.proofs.Tests.{by_test, and_i, and_l, and_r, bool_ext, when_e, when_i}
use Rattle.network.proofs.Reached.{LeadsOut, reached_within, leads_out}
use Rattle.logic.proofs.Quantifiers.{all_e, some_e, some_i}
use Rattle.logic.proofs.Keeps.{same_kept, cond_kept, least_kept, greatest_kept, region_kept, masked_kept, surround_kept}
use Rattle.logic.proofs.Resting.{Rests}
use Rattle.logic.proofs.Thresholds.{Apart, Reads, rested}
use Rattle.logic.proofs.Enclosing.{Encloses, surround_e, surround_i}
use Rattle.logic.proofs.Margins.{margin_apart}
use Rattle.logic.proofs.Rounds.{rests_after}

-- what is asked of the bounds: a place in them has a distance from the centre
module _ (N : Network) (centre : ℕ) (c : centre < N.places) (inside edge : ℕ → Bool) (edge_reached : (k : ℕ) → T (edge k) → T (reached N centre k)) where
  -- the surround at the centre, with islands or without
  abbrev around : (L : Lattice) → Bool → (ℕ → L.Value) → (ℕ → L.Value) → L.Value
  around L islands left right = surround L (joined N) N.places islands inside edge left right centre

  -- ---- for verdicts
  module _ (p q : ℕ → Bool) where
    abbrev Enclosed : Bool → (ℕ → Bool) → (ℕ → Bool) → Type 0
    Enclosed islands p A = Encloses (joined N) (N.places) islands inside edge p q centre A

    -- a place of the boundary is another one with a distance, and has right
    outside : (A : ℕ → Bool) → Enclosed false p A → (j k : ℕ) → LeadsOut (joined N) (N.places) A j k → T (other N centre k)
    unfolding other
    outside A e j k o = and_i (reached N centre k) _ (edge_reached k (e.outer j k o).0)
        (not_T (eqb k centre) (λ t. T_not (A k) o.left (rw (eqb→eq k centre t) e.has_centre)))

    -- a region without k is one for the run of k
    without : (A : ℕ → Bool) → Enclosed false p A → (k : ℕ) → T (not (A k)) → Enclosed true (except verdict_lattice k p) A
    unfolding except masked
    without A e k h = record {
      has_centre = e.has_centre;
      inner = λ l b a. ((e.inner l b a).0, when_i (not (eqb l k)) (p l) (not_T (eqb l k) (λ t. T_not (A k) h (rw (eqb→eq l k t) at a))) (e.inner l b a).1);
      outer = e.outer;
      some = inl tt;
    }

    -- a region of the run of k does not hold k, so a road leads out of it
    back : (A : ℕ → Bool) (k : ℕ) → k < N.places → T (other N centre k) → Enclosed true (except verdict_lattice k p) A → Enclosed false p A
    unfolding except masked other
    back A k b h e = record {
      has_centre = e.has_centre;
      inner = λ l b a. ((e.inner l b a).0, (when_e (not (eqb l k)) (p l) (e.inner l b a).1).1);
      outer = e.outer;
      some = inr (leads_out N centre A c e.has_centre k b (and_l (reached N centre k) _ h)
          (not_T (A k) (λ a. T_not (eqb k k) (when_e (not (eqb k k)) (p k) (e.inner k b a).1).0 (eqb_refl k))));
    }

    verdict_runs : around verdict_lattice false p q ≡ greatest_over verdict_lattice (other N centre) (λ k. around verdict_lattice true (except verdict_lattice k p) q) N.places
    verdict_runs = bool_ext _ _ there here
      where
        there : T (around verdict_lattice false p q) → T (greatest_over verdict_lattice (other N centre) (λ k. around verdict_lattice true (except verdict_lattice k p) q) N.places)
        there h =
            let (A, e) = surround_e (joined N) (N.places) false inside edge p q centre h in
            let (j, k, o) = ⊎_elim (λ u. absurd u) (λ s. s) e.some in
            some_i (other N centre) (λ k. around verdict_lattice true (except verdict_lattice k p) q) (N.places) k o.stop (outside A e j k o)
            (surround_i (joined N) (N.places) true inside edge (except verdict_lattice k p) q centre c A (without A e k o.left))

        here : T (greatest_over verdict_lattice (other N centre) (λ k. around verdict_lattice true (except verdict_lattice k p) q) N.places) → T (around verdict_lattice false p q)
        here h =
            let (k, b, r, u) = some_e (other N centre) (λ k. around verdict_lattice true (except verdict_lattice k p) q) (N.places) h in
            let (A, e) = surround_e (joined N) (N.places) true inside edge (except verdict_lattice k p) q centre u in
            surround_i (joined N) (N.places) false inside edge p q centre c A (back A k b r e)

  -- ---- for every lattice whose values are told apart by thresholds
  module _ (L : Lattice) (apart : Apart L) (left right : ℕ → L.Value) where
    abbrev run : ℕ → L.Value
    run k = around L true (except L k left) right

    pub runs : around L false left right ≡ greatest_over L (other N centre) run N.places
    unfolding except
    runs = apart _ _ (λ h K.
        let read : (islands : Bool) (f : ℕ → L.Value) (g : ℕ → Bool) → ((l : ℕ) → l < N.places → h (f l) ≡ g l) → h (around L islands f right) ≡ around verdict_lattice islands g (λ l. h (right l)) =
        λ islands f g s. surround_kept L verdict_lattice (Reads L h) K (joined N) (N.places) f right g (λ l. h (right l)) s (λ _ _. refl) islands inside edge centre in
        read false left (λ l. h (left l)) (λ _ _. refl)
        ∙ verdict_runs (λ l. h (left l)) (λ l. h (right l))
        ∙ sym (greatest_kept L verdict_lattice (Reads L h) K (other N centre) run _ (N.places) (λ k _ _.
        read true (except L k left) (except verdict_lattice k (λ l. h (left l)))
        (masked_kept L verdict_lattice (Reads L h) K (λ l. not (eqb l k)) left (λ l. h (left l)) (N.places) (λ _ _. refl)))))

    -- each run by the published iteration, at any step at which it rests
    runs_rested : (at : ℕ → ℕ) → ((k : ℕ) → Rests L (joined N) (N.places) (masked L inside (except L k left)) (masked L edge right) (at k))
        → around L false left right ≡ greatest_over L (other N centre) (λ k. iterate L (joined N) (N.places) (masked L inside (except L k left)) (masked L edge right) (at k) centre) N.places
    runs_rested at rest = runs ∙ greatest_kept L L (λ x y. x ≡ y) (same_kept L) (other N centre) run _ (N.places)
        (λ k _ _. sym (rested L apart (joined N) (N.places) inside edge (except L k left) right (at k) (rest k) centre c))

-- ---- the run of a place that is not in range is the plain one: it need be done but once, and has the plain rounds

-- left counts in range alone
pub surround_inside : (L : Lattice) (joined : ℕ → ℕ → Bool) (n : ℕ) (islands : Bool) (inside edge : ℕ → Bool) (p p' q : ℕ → L.Value)
    → ((l : ℕ) → l < n → T (inside l) → p l ≡ p' l) → (centre : ℕ) → surround L joined n islands inside edge p q centre ≡ surround L joined n islands inside edge p' q centre
unfolding surround allowed region_value
surround_inside L joined n islands inside edge p p' q same centre = region_kept L L (λ x y. x ≡ y) (same_kept L) n _ _ (λ A.
    cond_kept L L (λ x y. x ≡ y) (same_kept L) (allowed joined n islands inside edge centre (holds A)) _ _ _ _
    (λ t. ap₂ L.meet (least_kept L L (λ x y. x ≡ y) (same_kept L) (holds A) p p' n (λ l b a. same l b (all_e (holds A) inside n (inner A t) l b a))) refl) refl)
  where
    inner : (A : List Bool) → T (allowed joined n islands inside edge centre (holds A)) → T (least_over verdict_lattice (holds A) inside n)
    inner A t = and_l (least_over verdict_lattice (holds A) inside n) _ (and_r (holds A centre) _ (and_r (islands || bounded joined n (holds A)) _ t))

module _ (L : Lattice) (inside : ℕ → Bool) (left : ℕ → L.Value) (k : ℕ) (outside : T (not (inside k))) where
  pub except_inside : (l : ℕ) → T (inside l) → except L k left l ≡ left l
  unfolding except masked
  except_inside l i = rw (ne_eqb l k (λ e. T_not (inside k) outside (rw e at i))) refl

  pub except_masked : (l : ℕ) → masked L inside (except L k left) l ≡ masked L inside left l
  unfolding masked
  except_masked l = by_test (inside l) (λ t. cond t (except L k left l) L.bottom ≡ cond t (left l) L.bottom) (except_inside l) (λ _. refl)

-- ---- for margins, each run as far as its rounds go
pub margin_runs : (N : Network) (lower upper : ℕ) (left right : ℕ → Margin) (centre : ℕ) → centre < N.places
    → surround margin_lattice (joined N) N.places false (within N centre 0 upper) (within N centre lower upper) left right centre
    ≡ greatest_over margin_lattice (other N centre) (λ k. iterate margin_lattice (joined N) N.places
    (masked margin_lattice (within N centre 0 upper) (except margin_lattice k left)) (masked margin_lattice (within N centre lower upper) right)
    (run_rounds N lower upper (except margin_lattice k left) right centre) centre) N.places
unfolding run_rounds
margin_runs N lower upper left right centre c = runs_rested N centre c _ _ (reached_within N centre lower upper) margin_lattice margin_apart left right _
    (λ k. rests_after (joined N) (N.places) (masked margin_lattice (within N centre 0 upper) (except margin_lattice k left)) _ _ (le-suc _))
