-- The least of a number and of what lies at the other ends of roads: one road more, all roads together as the definition has it, and the round that they make.
use mathlib.Core.Path.{◌≡◌, refl, sym, ap, subst, ◌∙◌}
use mathlib.Core.Bool.{Bool, true, false, cond, ◌||◌}
use mathlib.Core.List.{List}
use mathlib.Core.Logic.{◌⊎◌, inl, inr, ⊎_elim}
use Prim.Native.Nat.{ℕ, zero, suc, ◌+◌, ◌<◌, ◌≤◌, min}
use native.Mathlib.Nat.{not-suc-le-zero}
use native.Mathlib.Decide.{ℕ_discrete}
use native.Mathlib.Numerals.{add-one}
use native.Mathlib.Omega.{arith}
use lib.Dec.{T, eqb, eqb_refl}
use lib.ListN.{length, get_or}
use Rattle.logic.specs.Lattice.{least_over}
use Rattle.network.specs.Distance.{Distance, dist}
use Rattle.network.specs.Network.{is_road}
use Rattle.logic.proofs.Keeps.{same_kept, least_kept}
use Rattle.counting.proofs.Tests.{below, and_i, or_l, or_r, or_e}
use Rattle.roads.specs.declared.road.Way.{Way}
use Rattle.roads.specs.Roads.{leads_by, first_of, second_of, forth_of, back_of, weight_of, leads, weight_among}
use Rattle.roads.proofs.Ways.{leads_ends}
use Rattle.values.specs.Chain.{chain_lattice, highest}
use Rattle.values.proofs.Naturals.{meet_min}
use Rattle.lanes.specs.declared.Place.{Place}
use Rattle.lanes.specs.Lanes.{lanes, ring_row, x_row, former_row, both_row, Numbers, row_in}
use Rattle.lanes.specs.Rows.{Kept, KeptPast}
use Rattle.lanes.proofs.RowLaws.{kept_trans, kept_past_trans}
use Rattle.iteration.specs.WorkRows.{joined_part, stepped_part, Worked, KeptBut}
use Rattle.iteration.specs.Steps.{joined_by, RoadsIn, Bounded, Joined, Pulled, LeastOf, Stepped, Round}
use Rattle.iteration.proofs.Outside.{ring_same, stepped_of_joined, stepped_of_x, stepped_low}

-- ---- least_over on chain numbers
cond_le : (t : Bool) (z a b : ℕ) → (T t → z ≤ a) → z ≤ b → z ≤ cond t a b
cond_le true z a b h k = h tt
cond_le false z a b h k = k

cond_under : (t : Bool) (a b : ℕ) → T t → cond t a b ≤ a
cond_under true a b h = omega arith
cond_under false a b h = absurd h

module _ (test : ℕ → Bool) (f : ℕ → ℕ) where
  over_greatest : (n z : ℕ) → z ≤ highest → ((p : ℕ) → p < n → T (test p) → z ≤ f p) → z ≤ least_over chain_lattice test f n
  unfolding least_over
  over_greatest zero z h k = h
  over_greatest (suc n) z h k = rw meet_min (
      let a = over_greatest n z h (λ p l. k p (omega arith)) in
      let b = cond_le (test n) z (f n) highest (k n (omega arith)) h in
      omega arith)

  over_under : (n p : ℕ) → p < n → T (test p) → least_over chain_lattice test f n ≤ f p
  unfolding least_over
  over_under zero p l t = absurd (not-suc-le-zero l)
  over_under (suc n) p l t = rw meet_min (⊎_elim
      (λ e. let b = cond_under (test n) (f n) highest (subst (λ (k : ℕ). T (test k)) e t) in rw e (omega arith))
      (λ k. let b = over_under n p k t in omega arith)
      (below l))

  least_over_lem : (y x n : ℕ) → x ≤ highest → ((p : ℕ) → T (test p) → p < n) → LeastOf y x test f → y ≡ chain_lattice.meet x (least_over chain_lattice test f n)
  least_over_lem y x n h inside w = rw meet_min (
      let up = over_greatest n y (omega (arith, w.below)) (λ p _ t. w.under p t) in
      let down = w.greatest (min x (least_over chain_lattice test f n)) (omega arith) (λ p t. let u = over_under n p (inside p t) t in omega arith) in
      omega (arith, w.below))

-- ---- one more number to take the least of
least_same : (y x : ℕ) (t u : ℕ → Bool) (f : ℕ → ℕ) → ((p : ℕ) → T (t p) → T (u p)) → ((p : ℕ) → T (u p) → T (t p)) → LeastOf y x t f → LeastOf y x u f
least_same y x t u f to from w = record {
  below = w.below;
  under = λ p h. w.under p (from p h);
  greatest = λ z a h. w.greatest z a (λ p k. h p (to p k));
}

least_more : (y x b : ℕ) (t u : ℕ → Bool) (f : ℕ → ℕ) → ((p : ℕ) → T (t p) → T (u p)) → T (u b) → ((p : ℕ) → T (u p) → (p ≡ b) ⊎ T (t p))
    → LeastOf y x t f → LeastOf (chain_lattice.meet y (f b)) x u f
least_more y x b t u f to new from w = rw meet_min (record {
  below = omega (arith, w.below);
  under = λ p h. ⊎_elim (λ e. rw e (omega arith)) (λ k. omega (arith, w.under p k)) (from p h);
  greatest = λ z a h. let k = w.greatest z a (λ p t. h p (to p t)) in omega (arith, h b new);
})

-- ---- one more way, and one more road
-- what is taken over along a way is the least over the place to which it leads as well
module _ (way : Way) (joined : ℕ → ℕ → Bool) (both x x' : Numbers) where
  abbrev more : ℕ → ℕ → Bool
  more a b = leads_by way a b || joined a b

  at_start : T way.runs → T (leads_by way way.from way.to)
  at_start h = and_i way.runs _ h (and_i (eqb way.from way.from) _ (eqb_refl way.from) (eqb_refl way.to))

  way_more : (x₀ : Numbers) → Pulled way both x x' → Stepped joined both x₀ x → Stepped more both x₀ x'
  way_more x₀ w s = record { least = λ q lane l. at q lane l (ℕ_discrete q way.from) }
    where
      before : (q p : ℕ) → T (joined q p) → T (more q p)
      before q p = or_r (leads_by way q p) (joined q p)

      -- nothing is added where no way leads
      same : (q lane : ℕ) → lane < lanes → ((p : ℕ) → T (leads_by way q p) → ⊥) → LeastOf (x lane q) (x₀ lane q) (more q) (both lane)
      same q lane l none = least_same (x lane q) (x₀ lane q) (joined q) (more q) (both lane) (before q)
          (λ p h. ⊎_elim (λ k. absurd (none p k)) (λ k. k) (or_e (leads_by way q p) _ h)) (s.least q lane l)

      from_start : (lane : ℕ) → lane < lanes → (t : Bool) → way.runs ≡ t
          → LeastOf (cond t (chain_lattice.meet (x lane way.from) (both lane way.to)) (x lane way.from)) (x₀ lane way.from) (more way.from) (both lane)
      from_start lane l true e = least_more (x lane way.from) (x₀ lane way.from) way.to (joined way.from) (more way.from) (both lane)
          (before way.from) (or_l (leads_by way way.from way.to) _ (at_start (rw e tt)))
          (λ p h. ⊎_elim (λ k. inl (sym (leads_ends way way.from p k).2)) inr (or_e (leads_by way way.from p) _ h)) (s.least way.from lane l)
      from_start lane l false e = same way.from lane l (λ p k. rw e at (leads_ends way way.from p k).0)

      at : (q lane : ℕ) → lane < lanes → Dec (q ≡ way.from) → LeastOf (x' lane q) (x₀ lane q) (more q) (both lane)
      at q lane l (yes e) = rw (e, w.taken lane l) (from_start lane l way.runs refl)
      at q lane l (no u) = rw (w.other q lane l u) (same q lane l (λ p k. u (sym (leads_ends way q p k).1)))

module _ (sheet : List ℕ) (r : ℕ) where
  joined_more : (a b : ℕ) → joined_by sheet (suc r) a b ≡ (leads sheet r a b || joined_by sheet r a b)
  unfolding joined_by weight_among
  joined_more a b = go (leads sheet r a b)
    where
      go : (t : Bool) → is_road (elim t as (λ _. Distance) [ true ↦ dist (weight_of sheet r) | false ↦ weight_among sheet r a b ]) ≡ (t || is_road (weight_among sheet r a b))
      go true = refl
      go false = refl

  -- forth first, then back
  both_ways : (a b : ℕ) → (leads_by (back_of sheet r) a b || (leads_by (forth_of sheet r) a b || joined_by sheet r a b)) ≡ joined_by sheet (suc r) a b
  unfolding leads
  both_ways a b = swapped (leads_by (forth_of sheet r) a b) (leads_by (back_of sheet r) a b) (joined_by sheet r a b) ∙ sym (joined_more a b)
    where
      swapped : (t u v : Bool) → (u || (t || v)) ≡ ((t || u) || v)
      swapped true true v = refl
      swapped true false v = refl
      swapped false u v = refl

  pub road_more : {both x₀ x y z : Numbers} → Pulled (forth_of sheet r) both x y → Pulled (back_of sheet r) both y z
      → Stepped (joined_by sheet r) both x₀ x → Stepped (joined_by sheet (r + 1)) both x₀ z
  road_more {both} {x₀} {x} {y} {z} forth back s = rw add-one (
      subst (λ (joined : ℕ → ℕ → Bool). Stepped joined both x₀ z) (λ i a b. both_ways a b i)
      (way_more (back_of sheet r) _ both y z x₀ back (way_more (forth_of sheet r) (joined_by sheet r) both x y x₀ forth s)))

-- the same by the ways that were read
pub ways_more : (sheet : List ℕ) (r : ℕ) {there returned : Way} {both x₀ x y z : Numbers} → there ≡ forth_of sheet r → returned ≡ back_of sheet r → Pulled there both x y
    → Pulled returned both y z → Stepped (joined_by sheet r) both x₀ x → Stepped (joined_by sheet (r + 1)) both x₀ z
ways_more sheet r e f forth back s = road_more sheet r (rw e at forth) (rw f at back) s

-- ---- no road, and all roads
not_joined : (sheet : List ℕ) (a b : ℕ) → T (joined_by sheet 0 a b) → ⊥
unfolding joined_by weight_among
not_joined sheet a b h = h

pub stepped_none : (sheet : List ℕ) (both x : Numbers) → Stepped (joined_by sheet 0) both x x
stepped_none sheet both x = record {
  least = λ q lane l. record {
    below = omega arith;
    under = λ p h. absurd (not_joined sheet q p h);
    greatest = λ z h k. h;
  };
}

joined_inside : (sheet : List ℕ) (roads n : ℕ) → RoadsIn sheet roads n → (r : ℕ) → r ≤ roads → (q p : ℕ) → T (joined_by sheet r q p) → (q < n) × (p < n)
joined_inside sheet roads n i zero l q p h = absurd (not_joined sheet q p h)
joined_inside sheet roads n i (suc r) l q p h =
    ⊎_elim (λ k. ends (back_of sheet r) (second_inside, first_inside) k)
    (λ k. ⊎_elim (λ k. ends (forth_of sheet r) (first_inside, second_inside) k) (joined_inside sheet roads n i r (omega arith) q p) (or_e (leads_by (forth_of sheet r) q p) _ k))
    (or_e (leads_by (back_of sheet r) q p) _ (rw (← both_ways sheet r q p) at h))
  where
    second_inside : second_of sheet r < n
    second_inside = i.inside r l

    first_inside : first_of sheet r < n
    first_inside = omega (arith, i.order r l, i.inside r l)

    ends : (way : Way) → (way.from < n) × (way.to < n) → T (leads_by way q p) → (q < n) × (p < n)
    ends way b k = let e = leads_ends way q p k in (rw (← e.1) b.0, rw (← e.2) b.1)

-- ---- a round, in which x is joined and then steps
module _ {sheet : List ℕ} {roads : ℕ} {inside : List Bool} {before middle after : List Place} (i : RoadsIn sheet roads (length inside)) (b : Bounded (row_in before x_row) (length inside))
    (j : Joined (row_in before x_row) (row_in before ring_row) (row_in middle former_row) (row_in middle both_row) (length inside)) (w : Worked joined_part inside before middle)
    (s : Stepped (joined_by sheet roads) (row_in middle both_row) (row_in middle x_row) (row_in after x_row)) (k : KeptBut x_row middle after) where
  from_before : (place lane : ℕ) → lane < lanes → LeastOf (row_in after x_row lane place) (row_in before x_row lane place) (joined_by sheet roads place) (row_in middle both_row lane)
  from_before place lane l = subst (λ (v : ℕ). LeastOf (row_in after x_row lane place) v (joined_by sheet roads place) (row_in middle both_row lane)) (ap (λ (q : Place). get_or q.x lane 0) (w.kept.same place)) (s.least place lane l)

  pub round_joined : Joined (row_in before x_row) (row_in before ring_row) (row_in after former_row) (row_in after both_row) (length inside)
  round_joined = record {
    former = λ place lane l m. ap (λ (q : Place). get_or q.former lane 0) (k.same place) ∙ j.former place lane l m;
    handed = λ place lane l m. ap (λ (q : Place). get_or q.both lane 0) (k.same place) ∙ j.handed place lane l m;
  }

  pub round_made : Round sheet roads (length inside) (row_in before ring_row) (row_in before x_row) (row_in after x_row)
  round_made = record {
    stepped = λ place lane l m.
        least_over_lem (joined_by sheet roads place) (row_in middle both_row lane) (row_in after x_row lane place) (row_in before x_row lane place) (length inside)
        (b.bound place lane l m) (λ p t. (joined_inside sheet roads (length inside) i roads (omega arith) place p t).1) (from_before place lane m)
        ∙ ap (chain_lattice.meet (row_in before x_row lane place))
        (least_kept chain_lattice chain_lattice (λ u v. u ≡ v) (same_kept chain_lattice) (joined_by sheet roads place) _ _ (length inside) (λ p c _. j.handed p lane c m));
  }

  pub round_worked : KeptPast (length inside) middle after → Worked stepped_part inside before after
  round_worked past = record { kept = kept_trans (stepped_of_joined w.kept) (stepped_of_x k); past = kept_past_trans w.past past; low = stepped_low s k w.low }

-- the ring has not changed since the first round
pub round_as : {sheet : List ℕ} {roads n : ℕ} {before rows : List Place} {x y : Numbers} → Kept stepped_part before rows → Round sheet roads n (row_in rows ring_row) x y
    → Round sheet roads n (row_in before ring_row) x y
round_as {sheet} {roads} {n} {x = x} {y = y} k w = record {
  stepped = λ place lane b l. subst
      (λ (q : ℕ → ℕ). y lane place ≡ chain_lattice.meet (x lane place) (least_over chain_lattice (joined_by sheet roads place) (λ p. chain_lattice.join (x lane p) (q p)) n))
      (ring_same k lane) (w.stepped place lane b l);
}
