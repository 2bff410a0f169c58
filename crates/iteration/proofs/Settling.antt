-- The loop of rounds: each turn is one step of the iteration in every lane, brings the sum of the numbers down while something moves, and
-- counts as long as a margin falls. Margins that rest once rest for good, so the rounds that count are the first ones.
use mathlib.Core.Path.{◌≡◌, refl, sym, ap, ap₂, ◌∙◌}
use mathlib.Core.Bool.{Bool, true, false}
use mathlib.Core.List.{List}
use mathlib.Core.Logic.{◌⊎◌, inl, inr, ⊎_elim}
use Prim.Native.Nat.{ℕ, suc, ◌+◌, ◌*◌, ◌/◌, ◌<◌, ◌≤◌}
use native.Mathlib.Nat.{le_antisymm}
use native.Mathlib.Omega.{arith}
use lib.ListN.{length, get_or}
use Rattle.logic.specs.Iteration.{iterate, masked, rounds}
use Rattle.counting.specs.Totals.{most_below, sum_below}
use Rattle.logic.proofs.Keeps.{same_kept, least_kept}
use Rattle.counting.proofs.Totals.{sum_le, sum_lt, sum_bound, most_le, le_most}
use Rattle.values.specs.Chain.{chain_lattice, highest}
use Rattle.values.proofs.ChainSurround.{halves_rest_after, rounds_of_halves}
use Rattle.values.proofs.Naturals.{meet_min}
use Rattle.lanes.specs.declared.Place.{Place}
use Rattle.lanes.specs.Lanes.{lanes, ring_row, x_row, Numbers, row_in}
use Rattle.lanes.proofs.RowLaws.{kept_refl, kept_trans, kept_past_refl, kept_past_trans}
use Rattle.iteration.specs.WorkRows.{stepped_part, Worked}
use Rattle.iteration.specs.Steps.{joined_by, RowsApart, Bounded, ValidRow, Start, Joined, Round, step_in, rounds_in, Settled}
use Rattle.iteration.proofs.Least.{round_as}

-- the sum of all numbers of n places
pub total : Numbers → ℕ → ℕ
total x n = sum_below (λ place. sum_below (λ lane. x lane place) lanes) n

pub total_bound : (x : Numbers) (n : ℕ) → Bounded x n → total x n ≤ n * (lanes * highest)
unfolding total
total_bound x n b = sum_bound _ n (lanes * highest) (λ place l. sum_bound (λ lane. x lane place) lanes highest (λ lane m. b.bound place lane l m))

module _ (sheet : List ℕ) (roads n : ℕ) (right x₀ : Numbers) where
  abbrev step_of : ℕ → ℕ → ℕ → ℕ
  step_of = step_in sheet roads n right x₀

  abbrev rounds_of : ℕ → ℕ
  rounds_of = rounds_in sheet roads n right x₀

  abbrev most_rounds : ℕ
  most_rounds = most_below rounds_of lanes

  -- step i changes no half in a lane
  abbrev Halves : ℕ → ℕ → Type 0
  Halves lane i = (place : ℕ) → place < n → step_of lane (suc i) place / 2 ≡ step_of lane i place / 2

  -- what the loop knows at its head
  pub record Going (x : Numbers) (r : ℕ) : Type 0 where
    pub steps : ℕ
    pub reached : (place lane : ℕ) → place < n → lane < lanes → x lane place ≡ step_of lane steps place
    pub early : r ≤ suc steps
    pub counted : r ≤ most_rounds
    pub last : (r ≡ suc steps) ⊎ (most_rounds ≤ r)
    pub falls : r + total x n ≤ 1 + total x₀ n
    pub bounded : Bounded x n

  module _ (vx : ValidRow x₀ n) (vr : ValidRow right n) where
    halves_after : (lane i : ℕ) → lane < lanes → rounds_of lane ≤ suc i → Halves lane i
    unfolding masked
    halves_after lane i l h = halves_rest_after (joined_by sheet roads) n (λ _. true) (λ _. true) (x₀ lane) (right lane)
        (λ p b. vx.valid p lane b l) (λ p b. vr.valid p lane b l) _ _ (λ _ _. refl) (λ _ _. refl) i h

    halves_least : (lane i : ℕ) → lane < lanes → Halves lane i → rounds_of lane ≤ suc i
    unfolding masked
    halves_least lane i l h = rounds_of_halves (joined_by sheet roads) n (λ _. true) (λ _. true) (x₀ lane) (right lane)
        (λ p b. vx.valid p lane b l) (λ p b. vr.valid p lane b l) _ _ (λ _ _. refl) (λ _ _. refl) i h

    -- a half that changes at step i, and none that does
    more_rounds : (lane i place : ℕ) → lane < lanes → place < n → (step_of lane i place / 2 ≡ step_of lane (suc i) place / 2 → ⊥) → suc i < most_rounds
    more_rounds lane i place l b ne =
        let late : rounds_of lane ≤ suc i → ⊥ = λ h. ne (sym (halves_after lane i l h place b)) in
        let up = le_most rounds_of lanes lane l in
        omega arith

    no_more_rounds : (i : ℕ) → ((lane : ℕ) → lane < lanes → Halves lane i) → most_rounds ≤ suc i
    no_more_rounds i h = most_le rounds_of lanes (suc i) (λ lane l. halves_least lane i l (h lane l))

    first_round : 1 ≤ most_rounds
    unfolding rounds
    first_round = let up = le_most rounds_of lanes 0 (omega arith) in omega arith

    pub going_start : Going x₀ 1
    unfolding iterate
    going_start = record {
      steps = 0;
      reached = λ place lane b l. refl;
      early = omega arith;
      counted = first_round;
      last = inl refl;
      falls = omega arith;
      bounded = record { bound = λ place lane b l. (vx.valid place lane b l).bounded };
    }

-- one turn: x has become y, and old is x
pub record Turn (sheet : List ℕ) (roads n : ℕ) (right x₀ x old y : Numbers) (r : ℕ) : Type 0 where
  pub valid_start : ValidRow x₀ n
  pub valid_right : ValidRow right n
  pub going : Going sheet roads n right x₀ x r
  pub former : (place lane : ℕ) → place < n → lane < lanes → old lane place ≡ x lane place
  pub round : Round sheet roads n right x y

module _ {sheet : List ℕ} {roads n : ℕ} {right x₀ x old y : Numbers} {r : ℕ} (turn : Turn sheet roads n right x₀ x old y r) where
  abbrev g : Going sheet roads n right x₀ x r
  g = turn.going

  abbrev w : Round sheet roads n right x y
  w = turn.round

  next : (place lane : ℕ) → place < n → lane < lanes → y lane place ≡ step_in sheet roads n right x₀ lane (suc g.steps) place
  unfolding iterate
  next place lane b l = w.stepped place lane b l ∙ ap₂ chain_lattice.meet (g.reached place lane b l)
      (least_kept chain_lattice chain_lattice (λ u v. u ≡ v) (same_kept chain_lattice) (joined_by sheet roads place) _ _ n
      (λ k c _. ap₂ chain_lattice.join (g.reached k lane c l) refl))

  former : (place lane : ℕ) → place < n → lane < lanes → old lane place ≡ step_in sheet roads n right x₀ lane g.steps place
  former place lane b l = turn.former place lane b l ∙ g.reached place lane b l

  down : (place lane : ℕ) → place < n → lane < lanes → y lane place ≤ x lane place
  down place lane b l = rw (w.stepped place lane b l, meet_min) (omega arith)

  kept : Bounded y n
  kept = record { bound = λ place lane b l. omega (arith, down place lane b l, g.bounded.bound place lane b l) }

  pub total_falls : (h : ℕ → ℕ) (t : Bool) → t ≡ true → RowsApart t h old y n → total y n < total x n
  unfolding total
  total_falls h t e a =
      let (place, lane, b, l, ne) = a.apart e in
      let other : y lane place ≡ x lane place → ⊥ = λ q. ne (ap h (turn.former place lane b l ∙ sym q)) in
      sum_lt _ _ n place
      (λ p c. sum_le (λ m. y m p) (λ m. x m p) lanes (λ m d. down p m c d))
      b
      (sum_lt (λ m. y m place) (λ m. x m place) lanes lane (λ m d. down place m b d) l (omega (arith, down place lane b l)))

  rested : (t : Bool) → t ≡ false → RowsApart t (λ v. v / 2) old y n → most_rounds sheet roads n right x₀ ≤ suc g.steps
  rested t e a = no_more_rounds sheet roads n right x₀ turn.valid_start turn.valid_right g.steps (λ lane l place b.
      ap (λ (v : ℕ). v / 2) (sym (next place lane b l)) ∙ sym (a.alike e place lane b l) ∙ ap (λ (v : ℕ). v / 2) (former place lane b l))

  late : (t : Bool) → t ≡ false → RowsApart t (λ v. v / 2) old y n → most_rounds sheet roads n right x₀ ≤ r
  late t e a = ⊎_elim (λ q. rw q (rested t e a)) (λ q. q) g.last

  pub going_fell : (t : Bool) → t ≡ true → RowsApart t (λ v. v / 2) old y n → Going sheet roads n right x₀ y (r + 1)
  going_fell t e a =
      let (place, lane, b, l, ne) = a.apart e in
      let more : suc g.steps < most_rounds sheet roads n right x₀ = more_rounds sheet roads n right x₀ turn.valid_start turn.valid_right lane g.steps place l b (λ q.
      ne (ap (λ (v : ℕ). v / 2) (former place lane b l) ∙ q ∙ ap (λ (v : ℕ). v / 2) (sym (next place lane b l)))) in
      let now : r ≡ suc g.steps = ⊎_elim (λ q. q) (λ q. absurd (let f = g.early in omega arith)) g.last in
      record {
        steps = suc g.steps;
        reached = next;
        early = omega arith;
        counted = omega arith;
        last = inl (omega arith);
        falls = omega (arith, g.falls, total_falls (λ v. v / 2) t e a);
        bounded = kept;
      }

  pub going_moved : (t u : Bool) → t ≡ false → u ≡ true → RowsApart t (λ v. v / 2) old y n → RowsApart u (λ v. v / 1) old y n → Going sheet roads n right x₀ y r
  going_moved t u e f a d = record {
    steps = suc g.steps;
    reached = next;
    early = omega (arith, g.early);
    counted = g.counted;
    last = inr (late t e a);
    falls = omega (arith, g.falls, total_falls (λ v. v / 1) u f d);
    bounded = kept;
  }

  pub going_rests : (t u : Bool) → t ≡ false → u ≡ false → RowsApart t (λ v. v / 2) old y n → RowsApart u (λ v. v / 1) old y n
      → Settled sheet roads n right x₀ r y
  going_rests t u e f a d = record {
    steps = g.steps;
    reached = λ place lane b l. same place lane b l ∙ former place lane b l;
    rests = λ place lane b l. sym (next place lane b l) ∙ same place lane b l ∙ former place lane b l;
    counted = le_antisymm g.counted (late t e a);
  }
    where
      same : (place lane : ℕ) → place < n → lane < lanes → y lane place ≡ old lane place
      same place lane b l = omega (arith, d.alike f place lane b l)

-- at rest the former numbers are those that the places have, and what they hand over is made of them
pub rest_joined : {inside : List Bool} {rows after : List Place} {x old both y : Numbers} {n : ℕ} → Joined x (row_in rows ring_row) old both n → (t : Bool) → t ≡ false → RowsApart t (λ v. v / 1) old y n
    → Worked stepped_part inside rows after → Joined y (row_in after ring_row) old both n
rest_joined {old = old} {y = y} {n = n} j t e a w = record {
  former = same;
  handed = λ place lane b l. j.handed place lane b l
      ∙ ap₂ chain_lattice.join (sym (j.former place lane b l) ∙ same place lane b l) (sym (ap (λ (q : Place). get_or q.ring lane 0) (w.kept.same place)));
}
  where
    same : (place lane : ℕ) → place < n → lane < lanes → old lane place ≡ y lane place
    same place lane b l = omega (arith, a.alike e place lane b l)

-- ---- the rows of places

pub worked_on : {part : Place → Place} {inside : List Bool} {before rows after : List Place} → Worked part inside before rows → Worked part inside rows after → Worked part inside before after
worked_on so_far w = record { kept = kept_trans so_far.kept w.kept; past = kept_past_trans so_far.past w.past; low = w.low }

module _ {sheet : List ℕ} {roads : ℕ} {inside : List Bool} {before : List Place} (start : Start sheet roads inside before) where
  abbrev GoingIn : Numbers → ℕ → Type 0
  GoingIn = Going sheet roads (length inside) (row_in before ring_row) (row_in before x_row)

  pub worked_start : Worked stepped_part inside before before
  worked_start = record { kept = kept_refl _ _; past = kept_past_refl _ _; low = start.low }

  pub in_start : GoingIn (row_in before x_row) 1
  in_start = going_start sheet roads (length inside) (row_in before ring_row) (row_in before x_row) start.valid start.ring_valid

  pub start_small : total (row_in before x_row) (length inside) ≤ length inside * (lanes * highest)
  start_small = total_bound (row_in before x_row) (length inside) (record { bound = λ place lane l m. (start.valid.valid place lane l m).bounded })

  -- a round after those so far
  module _ {rows : List Place} {old both y : Numbers} {r : ℕ} (so_far : Worked stepped_part inside before rows) (going : GoingIn (row_in rows x_row) r)
      (joined : Joined (row_in rows x_row) (row_in rows ring_row) old both (length inside)) (round : Round sheet roads (length inside) (row_in rows ring_row) (row_in rows x_row) y) where
    turn : Turn sheet roads (length inside) (row_in before ring_row) (row_in before x_row) (row_in rows x_row) old y r
    turn = record { valid_start = start.valid; valid_right = start.ring_valid; going = going; former = joined.former; round = round_as so_far.kept round }

    pub in_falls : {t : Bool} {h : ℕ → ℕ} → RowsApart t h old y (length inside) → t ≡ true → total y (length inside) < total (row_in rows x_row) (length inside)
    in_falls {t} {h} apart e = total_falls turn h t e apart

    pub in_fell : {t : Bool} → RowsApart t (λ v. v / 2) old y (length inside) → t ≡ true → GoingIn y (r + 1)
    in_fell {t} apart e = going_fell turn t e apart

    pub in_moved : {t u : Bool} → RowsApart t (λ v. v / 2) old y (length inside) → RowsApart u (λ v. v / 1) old y (length inside) → t ≡ false → u ≡ true → GoingIn y r
    in_moved {t} {u} apart moved e f = going_moved turn t u e f apart moved

    pub in_rest : {t u : Bool} → RowsApart t (λ v. v / 2) old y (length inside) → RowsApart u (λ v. v / 1) old y (length inside) → t ≡ false → u ≡ false
        → Settled sheet roads (length inside) (row_in before ring_row) (row_in before x_row) r y
    in_rest {t} {u} apart moved e f = going_rests turn t u e f apart moved
