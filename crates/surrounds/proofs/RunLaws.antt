-- The runs of a surround: the greatest of what they give, one after the other, is the surround (M-101), and the greatest of their rounds are its rounds.
-- Beyond the ball the runs for a place are all run 0, which is made where there is such a place.
use mathlib.Core.Path.{◌≡◌, refl, sym, ap, subst, ◌∙◌}
use mathlib.Core.Logic.{⊎_elim}
use mathlib.Core.Bool.{Bool, true, false, not, cond, ◌&&◌}
use Prim.Native.Nat.{ℕ, zero, suc, ◌+◌, ◌-◌, ◌<◌, ◌≤◌, max}
use native.Mathlib.Nat.{le_antisymm, le_of_suc-le-suc}
use native.Mathlib.Numerals.{add-one}
use native.Mathlib.Omega.{arith}
use borrow.Author.Tests.{ne_eqb}
use Rattle.std.specs.List.{range_with_len, IsAnyAnswer}
use Rattle.std.proofs.lemmas.List.FromFn.{length-range_with_len, get_or-range_with_len}
use lib.ListN.{get_or}
use lib.Dec.{T, T_not, not_T, eqb, eqb_refl, eqb→eq}
use Rattle.network.specs.Network.{Network, joined, within, reached, other}
use Rattle.network.proofs.Reached.{reached_within, within_centre}
use Rattle.logic.specs.Lattice.{greatest_over}
use Rattle.logic.specs.Margin.{Margin, margin_lattice}
use Rattle.logic.specs.Surround.{surround}
use Rattle.logic.specs.Counts.{run_rounds, surround_rounds}
use Rattle.logic.proofs.Quantifiers.{some_e, some_i}
use Rattle.logic.proofs.Rounds.{rounds_same}
use Rattle.logic.proofs.Islands.{surround_inside, except_inside, except_masked}
use Rattle.counting.specs.Totals.{most_below, most_over}
use Rattle.counting.proofs.Tests.{holds, and_i, and_l, and_r, dec_T}
use Rattle.counting.proofs.Totals.{over_le, le_over}
use Rattle.values.specs.Chain.{chain_lattice, Valid}
use Rattle.values.proofs.Naturals.{join_max}
use Rattle.values.proofs.ChainIslands.{chain_runs}
use Rattle.surrounds.specs.Runs.{left_out, runs_of, beyond, is_made}

-- ---- the greatest, over the places of the definition and over the runs that are made

module _ (N : Network) (upper centre : ℕ) (c : centre < N.places) where
  abbrev inside : ℕ → Bool
  inside = within N centre 0 upper

  abbrev made : Bool → ℕ → Bool
  made = is_made inside (reached N centre) N.places centre

  -- numbers of the runs, where that of each place beyond the ball is that of run 0
  module _ (f : ℕ → ℕ) (plain : (k : ℕ) → k < N.places → T (not (inside k)) → f (suc k) ≡ f 0) where
    abbrev of_places : ℕ
    of_places = most_over (other N centre) (λ k. f (suc k)) N.places

    abbrev of_runs : ℕ
    of_runs = most_over (made false) f (suc N.places)

    -- the run of a place in the ball is made, and so is run 0 if there is a place beyond it
    there : (k : ℕ) → k < N.places → T (other N centre k) → f (suc k) ≤ of_runs
    unfolding is_made beyond other
    there k b t = ⊎_elim
        (λ i. le_over (made false) f _ (suc k) (omega arith) (and_i (not (eqb k centre)) _ (and_r (reached N centre k) _ t) i))
        (λ o. rw (plain k b o) (le_over (made false) f _ 0 (omega arith) (some_i (reached N centre) (λ k. not (inside k)) (N.places) k b (and_l (reached N centre k) _ t) o)))
        (dec_T (inside k))

    -- every run that is made is that of a place
    back : (run : ℕ) → run < suc N.places → T (made false run) → f run ≤ of_places
    unfolding is_made beyond other
    back zero b t =
        let (k, d, r, o) = some_e (reached N centre) (λ k. not (inside k)) (N.places) t in
        rw (← plain k d o) (le_over (other N centre) (λ k. f (suc k)) _ k d (and_i (reached N centre k) _ r
        (not_T (eqb k centre) (λ e. T_not (inside k) o (rw (eqb→eq k centre e) (within_centre N centre upper c))))))
    back (suc k) b t = le_over (other N centre) (λ k. f (suc k)) _ k (le_of_suc-le-suc b)
        (and_i (reached N centre k) _ (reached_within N centre 0 upper k (and_r (not (eqb k centre)) _ t)) (and_l (not (eqb k centre)) _ t))

    pub places_runs : of_places ≡ of_runs
    places_runs = le_antisymm
        (over_le (other N centre) _ N.places _ there)
        (over_le (made false) _ (suc N.places) _ back)

  -- where islands count, run 0 is all
  pub run_alone : (f : ℕ → ℕ) → f 0 ≡ most_over (made true) f 1
  unfolding most_below is_made
  run_alone f = omega arith

-- ---- place after place, some place with a distance lies beyond the ball

nth : (n k : ℕ) → k < n → get_or (range_with_len 0 n) k 0 ≡ k
nth n k b = get_or-range_with_len 0 n k 0 b ∙ omega arith

module _ (inside there : ℕ → Bool) where
  pub beyond_none : beyond inside there 0 ≡ false
  unfolding beyond greatest_over
  beyond_none = refl

  pub beyond_more : (k : ℕ) → beyond inside there k ≡ false → (there k && not (inside k)) ≡ false → beyond inside there (k + 1) ≡ false
  unfolding beyond greatest_over
  beyond_more k e h = rw (add-one, e) (both (there k) _ h)
    where
      both : (t u : Bool) → (t && u) ≡ false → cond t u false ≡ false
      both true u h = h
      both false u h = refl

  pub beyond_found : (k n : ℕ) → k < n → (there k && not (inside k)) ≡ true → beyond inside there n ≡ true
  unfolding beyond
  beyond_found k n b h = let t : T (there k && not (inside k)) = rw h tt in
      holds _ (some_i there (λ k. not (inside k)) n k b (and_l (there k) _ t) (and_r (there k) _ t))

  beyond_nowhere : (n : ℕ) → ((k : ℕ) → k < n → (there k && not (inside k)) ≡ false) → beyond inside there n ≡ false
  beyond_nowhere zero none = beyond_none
  beyond_nowhere (suc n) none = rw (← add-one n) (beyond_more n (beyond_nowhere n (λ k b. none k (omega arith))) (none n (omega arith)))

  -- what a test of a place tells, and a search that tells whether there is such a place
  abbrev pub Told : ℕ → Bool → Type 0
  Told k beyond = (there k && not (inside k)) ≡ beyond

  pub beyond_told : (n : ℕ) (some : Bool) → IsAnyAnswer Told (range_with_len 0 n) some → some ≡ beyond inside there n
  beyond_told n true (i, b, h) = let c : i < n = rw length-range_with_len at b in sym (beyond_found i n c (rw (nth n i c) at (h 0)))
  beyond_told n false none = sym (beyond_nowhere n (λ k b. rw (nth n k b) at (none k 0 (omega arith) (rw length-range_with_len b))))

-- the greatest on chain numbers
greatest_most : (test : ℕ → Bool) (f : ℕ → ℕ) (n : ℕ) → greatest_over chain_lattice test f n ≡ most_over test f n
unfolding greatest_over most_below
greatest_most test f zero = refl
greatest_most test f (suc n) = join_max _ _ ∙ ap (λ (m : ℕ). max m (cond (test n) (f n) 0)) (greatest_most test f n)

-- ---- a surround about a centre, and its rounds

module _ (N : Network) (lower upper centre : ℕ) (c : centre < N.places) where
  module _ (left right : ℕ → ℕ) (valid_left : (l : ℕ) → l < N.places → Valid (left l)) (valid_right : (l : ℕ) → l < N.places → Valid (right l)) where
    abbrev around : Bool → (ℕ → ℕ) → ℕ
    around islands p = surround chain_lattice (joined N) N.places islands (within N centre 0 upper) (within N centre lower upper) p right centre

    abbrev value : ℕ → ℕ
    value run = around true (left_out chain_lattice run left)

    plain_value : (k : ℕ) → k < N.places → T (not (within N centre 0 upper k)) → value (suc k) ≡ value 0
    unfolding left_out
    plain_value k b o = surround_inside chain_lattice (joined N) N.places true (within N centre 0 upper) (within N centre lower upper) _ _ right
        (λ l _. except_inside chain_lattice (within N centre 0 upper) left k o l) centre

    pub surround_runs : (islands : Bool) → around islands left
        ≡ most_over (is_made (within N centre 0 upper) (reached N centre) N.places centre islands) value (runs_of islands N.places)
    unfolding left_out
    surround_runs true = run_alone N upper centre c value
    surround_runs false =
        chain_runs N centre c (within N centre 0 upper) (within N centre lower upper) (reached_within N centre lower upper) left right valid_left valid_right
        ∙ greatest_most (other N centre) (λ k. value (suc k)) N.places
        ∙ places_runs N upper centre c value plain_value

  module _ (left right : ℕ → Margin) where
    abbrev count : ℕ → ℕ
    count run = run_rounds N lower upper (left_out margin_lattice run left) right centre

    plain_count : (k : ℕ) → k < N.places → T (not (within N centre 0 upper k)) → count (suc k) ≡ count 0
    unfolding left_out run_rounds
    plain_count k b o = rounds_same (joined N) N.places _ _ _ _ (λ l _. except_masked margin_lattice (within N centre 0 upper) left k o l) (λ _ _. refl)

    pub rounds_runs : (islands : Bool) → surround_rounds N lower upper islands left right centre
        ≡ most_over (is_made (within N centre 0 upper) (reached N centre) N.places centre islands) count (runs_of islands N.places)
    unfolding left_out surround_rounds
    rounds_runs true = run_alone N upper centre c count
    rounds_runs false = places_runs N upper centre c count plain_count

-- ---- which runs are made: run 0 where islands count or a place lies beyond the ball, any other where its place lies in the ball and is not the centre
module _ (inside there : ℕ → Bool) (n centre : ℕ) (islands : Bool) (run : ℕ) where
  pub islands_made : run ≡ 0 → islands ≡ true → islands ≡ is_made inside there n centre islands run
  unfolding is_made
  islands_made e i = rw (e, i) refl

  pub beyond_made : {r : Bool} → run ≡ 0 → islands ≡ false → r ≡ beyond inside there n → r ≡ is_made inside there n centre islands run
  unfolding is_made
  beyond_made e i b = rw (e, i) b

  place_made : (run ≡ 0 → ⊥) → (not (eqb (run - 1) centre) && inside (run - 1)) ≡ is_made inside there n centre islands run
  unfolding is_made
  place_made h =
      let k : ℕ = run - 1 in
      let e : run ≡ suc k = omega (arith, h) in
      subst (λ (r : ℕ). (not (eqb k centre) && inside k) ≡ is_made inside there n centre islands r) (sym e) refl

  pub ball_made : (run ≡ 0 → ⊥) → (run - 1 ≡ centre → ⊥) → inside (run - 1) ≡ is_made inside there n centre islands run
  ball_made h o = ap (λ t. not t && inside (run - 1)) (sym (ne_eqb (run - 1) centre o)) ∙ place_made h

  pub centre_not_made : (run ≡ 0 → ⊥) → run - 1 ≡ centre → not (eqb (run - 1) centre) ≡ is_made inside there n centre islands run
  centre_not_made h e =
      let same : eqb (run - 1) centre ≡ true = rw e (holds _ (eqb_refl centre)) in
      ap not same ∙ ap (λ t. not t && inside (run - 1)) (sym same) ∙ place_made h
