-- A run about a centre: its masked rows, without what it leaves out, are what the iteration starts from, and what settling gives is the run's
-- surround of every lane, and the greatest rounds of a lane.
use mathlib.Core.Path.{◌≡◌, refl, sym, ap, ap₂, subst, ◌∙◌}
use mathlib.Core.Logic.{⊎_elim}
use mathlib.Core.Bool.{Bool, true, false, not, cond, ◌&&◌, ◌||◌}
use mathlib.Core.List.{List}
use Prim.Native.Nat.{ℕ, zero, suc, ◌-◌, ◌<◌, ◌≤◌}
use native.Mathlib.Omega.{arith}
use lib.Dec.{T_not, eqb, eqb→eq, eqb_refl}
use lib.ListN.{length, get_or, set}
use lib.Seq.{get_or-set_same, get_or-set_other}
use Rattle.words.specs.Bytes.{words_of, numbers_of}
use Rattle.codes.specs.declared.operator.Bounds.{Bounds}
use Rattle.network.specs.Network as Roads
use Rattle.network.specs.Network.{Network, joined}
use Rattle.logic.specs.Lattice.{verdict_lattice}
use Rattle.logic.specs.Margin.{margin_lattice}
use Rattle.logic.specs.Iteration.{iterate, masked, except}
use Rattle.logic.specs.Counts.{run_rounds}
use Rattle.logic.proofs.Keeps.{same_kept, greatest_same, masked_kept, iterate_kept}
use Rattle.logic.proofs.Rounds.{rounds_same}
use Rattle.counting.specs.Totals.{most_below}
use Rattle.counting.proofs.Tests.{holds, fails, dec_T}
use Rattle.counting.proofs.Totals.{most_same}
use Rattle.roads.specs.Roads.{network_of}
use Rattle.values.specs.Chain.{chain_lattice, chain_margin, Valid}
use Rattle.values.specs.Signals.{in_table}
use Rattle.values.proofs.Valid.{valid_kept}
use Rattle.values.proofs.Projections.{margin_kept}
use Rattle.values.proofs.ChainSurround.{surround_rested}
use Rattle.lanes.specs.declared.Place.{Place}
use Rattle.lanes.specs.Lanes.{lanes, left_row, right_row, out_row, ring_row, x_row, no_place, Numbers, row_in}
use Rattle.lanes.specs.Rows.{RowOf, Kept, KeptPast, within, masked_by}
use Rattle.iteration.specs.WorkRows.{stepped_part, operands, Worked, KeptBut}
use Rattle.iteration.specs.Steps.{joined_by, RoadsIn, ValidRow, Start, Settled, rounds_in}
use Rattle.iteration.specs.Masks.{ball_of, CentreMasked}
use Rattle.surrounds.specs.Runs.{left_out, LeftOut, beyond, is_made, run_surround, run_rounds_at, CentreRun}
use Rattle.surrounds.specs.Blocks.{reached_by, given, CentreRaised, RowsReady}
use Rattle.iteration.proofs.Outside.{low_fallen}
use Rattle.surrounds.proofs.Tables.{range_at, reached_at}

-- ---- which runs are made, by tests that are the same below n
pub made_same : {inside there inside' there' : ℕ → Bool} {n : ℕ} → ((k : ℕ) → k < n → inside k ≡ inside' k) → ((k : ℕ) → k < n → there k ≡ there' k)
    → (centre : ℕ) (islands : Bool) (run : ℕ) → run ≤ n → is_made inside there n centre islands run ≡ is_made inside' there' n centre islands run
unfolding is_made beyond
made_same {n = n} h e centre islands zero b = ap (λ t. islands || t) (greatest_same verdict_lattice n e (λ k d. ap not (h k d)))
made_same h e centre islands (suc k) b = ap (λ t. not (eqb k centre) && t) (h k b)

-- ---- what is left out

-- a number stays, or becomes the lowest
left_out_either : (P : ℕ → Type 0) (run : ℕ) (f : ℕ → ℕ) (p : ℕ) → P (f p) → P 0 → P (left_out chain_lattice run f p)
unfolding left_out except masked
left_out_either P zero f p h low = h
left_out_either P (suc k) f p h low = go (not (eqb p k))
  where
    go : (t : Bool) → P (cond t (f p) 0)
    go true = h
    go false = low

-- run 0 leaves all as it is, and any other has the lowest at its place, and elsewhere what was there
pub left_out_none : {row : Numbers} → LeftOut 0 row row
unfolding left_out
left_out_none = record { at = λ _ _ _. refl }

pub left_out_strip : (k : ℕ) {before after : Numbers} → ((lane : ℕ) → lane < lanes → after lane k ≡ 0) → ((p lane : ℕ) → lane < lanes → (p ≡ k → ⊥) → after lane p ≡ before lane p)
    → LeftOut (suc k) before after
unfolding left_out except masked
left_out_strip k lowest kept = record {
  at = λ p lane l. ⊎_elim
      (λ t. let same = eqb→eq p k t in rw (holds (eqb p k) t) (rw same (lowest lane l)))
      (λ t. rw (fails (eqb p k) t) (kept p lane l (λ same. absurd (T_not (eqb p k) t (rw same (eqb_refl k))))))
      (dec_T (eqb p k));
}

-- by the number of a run: 0 leaves nothing out, any other the place of the number before
pub left_out_nothing : {run : ℕ} {row : Numbers} → run ≡ 0 → LeftOut run row row
left_out_nothing e = rw e left_out_none

pub left_out_number : {run : ℕ} {before after : Numbers} → 0 < run → ((lane : ℕ) → lane < lanes → after lane (run - 1) ≡ 0)
    → ((p lane : ℕ) → lane < lanes → (p ≡ run - 1 → ⊥) → after lane p ≡ before lane p) → LeftOut run before after
left_out_number {run} {before} {after} some lowest kept =
    let number : suc (run - 1) ≡ run = omega arith in
    subst (λ (k : ℕ). LeftOut k before after) number (left_out_strip (run - 1) lowest kept)

-- where its place is written
pub left_out_set : {run : ℕ} (rows : List Place) (v : Place) → 0 < run → run ≤ length rows → ((lane : ℕ) → lane < lanes → get_or v.x lane 0 ≡ 0)
    → LeftOut run (row_in rows x_row) (row_in (set rows (run - 1) v) x_row)
left_out_set {run} rows v some room lowest = left_out_number some
    (λ lane l. ap (λ (q : Place). get_or q.x lane 0) (get_or-set_same rows (run - 1) v no_place (omega arith)) ∙ lowest lane l)
    (λ p lane l other. ap (λ (q : Place). get_or q.x lane 0) (get_or-set_other rows (run - 1) p v no_place other))

-- leaving out after masking is masking after leaving out
left_out_masked : (run : ℕ) (test : ℕ → Bool) (f g : ℕ → ℕ) (p : ℕ) → f p ≡ masked chain_lattice test g p
    → left_out chain_lattice run f p ≡ masked chain_lattice test (left_out chain_lattice run g) p
unfolding left_out except masked
left_out_masked zero test f g p e = e
left_out_masked (suc k) test f g p e = rw e (swap (not (eqb p k)) (test p) (g p))
  where
    swap : (t u : Bool) (v : ℕ) → cond t (cond u v 0) 0 ≡ cond u (cond t v 0) 0
    swap true u v = refl
    swap false true v = refl
    swap false false v = refl

-- the margins without what is left out
left_out_margin : (run : ℕ) (f : ℕ → ℕ) (p : ℕ) → chain_margin (left_out chain_lattice run f p) ≡ left_out margin_lattice run (λ k. chain_margin (f k)) p
unfolding left_out except
left_out_margin zero f p = refl
left_out_margin (suc k) f p = masked_kept chain_lattice margin_lattice (λ u v. chain_margin u ≡ v) margin_kept (λ l. not (eqb l k)) f _ (suc p) (λ _ _. refl) p (omega arith)

-- ---- tests by the table and by the network
module _ {left right : Numbers} {n : ℕ} {sheet : List ℕ} {roads : ℕ} (distances : List ℕ) {bounds : Bounds} (ready : RowsReady left right n sheet roads (numbers_of (words_of distances)) bounds)
    {centre : ℕ} (here : centre < n) where
  range_by : (lower k : ℕ) → k < n
      → in_table (numbers_of (words_of distances)) n centre lower bounds.upper k ≡ Roads.within (network_of sheet n roads) centre lower bounds.upper k
  range_by lower k b = range_at ready.measured lower bounds.upper centre k ready.small here b

  pub made_at : (islands : Bool) (run : ℕ) → run ≤ n
      → is_made (within distances n centre (ball_of bounds)) (reached_by distances n centre) n centre islands run
      ≡ is_made (Roads.within (network_of sheet n roads) centre 0 bounds.upper) (Roads.reached (network_of sheet n roads) centre) n centre islands run
  made_at islands run b = made_same (range_by 0) (λ k c. reached_at sheet n roads distances ready.few_places ready.measured centre k here c) centre islands run b

-- ---- masked rows

module _ (test : ℕ → Bool) (from to : Numbers) (n : ℕ) (m : RowOf (masked_by test from) to n) where
  masked_valid : ValidRow from n → ValidRow to n
  masked_valid v = record {
    valid = λ place lane b l.
        subst Valid (sym (m.at place lane b l))
        (masked_kept chain_lattice chain_lattice (λ c _. Valid c) valid_kept test (from lane) (from lane) n (λ p c. v.valid p lane c l) place b);
  }

  -- masked by a test that is the same below n
  masked_at : (test' : ℕ → Bool) → ((k : ℕ) → k < n → test k ≡ test' k) → (lane : ℕ) → lane < lanes → (p : ℕ) → p < n → to lane p ≡ masked chain_lattice test' (from lane) p
  unfolding masked
  masked_at test' same lane l p b = m.at p lane b l ∙ ap (λ t. cond t (from lane p) 0) (same p b)

-- ---- the iteration, from masked rows without what the run leaves out

-- what a run gives a centre in every lane, and the greatest rounds of a lane
pub record RunGiven (left right : Numbers) (N : Network) (b : Bounds) (islands : Bool) (run centre : ℕ) (y : Numbers) (r : ℕ) : Type 0 where
  pub values : (lane : ℕ) → lane < lanes → y lane centre ≡ run_surround left right N b islands run lane centre
  pub rounds : r ≡ most_below (run_rounds_at left right N b islands run centre) lanes

module _ {rows masked_rows start : List Place} {n : ℕ} {sheet : List ℕ} {roads : ℕ} {distances : List ℕ} {bounds : Bounds} {centre : ℕ} {inside : List Bool} {run : ℕ}
    (ready : RowsReady (row_in rows left_row) (row_in rows right_row) n sheet roads (numbers_of (words_of distances)) bounds) (m : CentreMasked n distances bounds centre n rows inside masked_rows)
    (out : LeftOut run (row_in masked_rows x_row) (row_in start x_row)) (kept : KeptBut x_row masked_rows start) where
  abbrev N : Network
  N = network_of sheet n roads

  abbrev ball : ℕ → Bool
  ball = Roads.within N centre 0 bounds.upper

  abbrev about : ℕ → Bool
  about = Roads.within N centre bounds.lower bounds.upper

  abbrev left : Numbers
  left = row_in rows left_row

  abbrev right : Numbers
  right = row_in rows right_row

  -- what it starts from
  abbrev x : Numbers
  x = row_in start x_row

  abbrev ring : Numbers
  ring = row_in start ring_row

  ring_masked : RowOf (masked_by (within distances n centre bounds) right) ring n
  ring_masked = record { at = λ p lane b l. ap (λ (q : Place). get_or q.ring lane 0) (kept.same p) ∙ m.right_masked.at p lane b l }

  -- the iteration can start
  pub run_start : length inside ≡ n → Start sheet roads inside start
  run_start all =
      let valid : ValidRow (row_in masked_rows x_row) n = masked_valid _ left (row_in masked_rows x_row) n m.left_masked ready.left_valid in
      record {
        few_places = omega (arith, ready.few_places);
        roads_in = subst (RoadsIn sheet roads) (sym all) ready.roads_in;
        valid = record { valid = λ p lane b l. subst Valid (sym (out.at p lane l)) (left_out_either Valid run (row_in masked_rows x_row lane) p (valid.valid p lane (omega arith) l) valid_kept.keeps_bottom) };
        ring_valid = subst (ValidRow ring) (sym all) (masked_valid _ right ring n ring_masked ready.right_valid);
        low = low_fallen kept
            (λ p lane l. subst (λ (v : ℕ). v ≤ row_in masked_rows x_row lane p) (sym (out.at p lane l)) (left_out_either (λ v. v ≤ row_in masked_rows x_row lane p) run (row_in masked_rows x_row lane) p (omega arith) (omega arith)))
            m.low;
      }

  module _ (here : centre < n) where
    -- the rows that it starts from
    left_at : (lane : ℕ) → lane < lanes → (p : ℕ) → p < n → x lane p ≡ masked chain_lattice ball (left_out chain_lattice run (left lane)) p
    left_at lane l p b = out.at p lane l ∙ left_out_masked run ball (row_in masked_rows x_row lane) (left lane) p (masked_at _ left (row_in masked_rows x_row) n m.left_masked ball (range_by distances ready here 0) lane l p b)

    right_at : (lane : ℕ) → lane < lanes → (p : ℕ) → p < n → ring lane p ≡ masked chain_lattice about (right lane) p
    right_at = masked_at _ right ring n ring_masked about (range_by distances ready here bounds.lower)

    -- a lane of them steps as the masked lane
    same : (lane : ℕ) → lane < lanes → (i p : ℕ) → p < n
        → iterate chain_lattice (joined_by sheet roads) n (x lane) (ring lane) i p
        ≡ iterate chain_lattice (joined_by sheet roads) n (masked chain_lattice ball (left_out chain_lattice run (left lane))) (masked chain_lattice about (right lane)) i p
    same lane l = iterate_kept chain_lattice chain_lattice (λ u v. u ≡ v) (same_kept chain_lattice) (joined_by sheet roads) n _ _ _ _ (left_at lane l) (right_at lane l)

    left_margin : (lane : ℕ) → lane < lanes → (p : ℕ) → p < n
        → chain_margin (x lane p) ≡ masked margin_lattice ball (left_out margin_lattice run (λ k. chain_margin (left lane k))) p
    left_margin lane l p b = ap chain_margin (left_at lane l p b)
        ∙ masked_kept chain_lattice margin_lattice (λ u v. chain_margin u ≡ v) margin_kept ball _ _ n (λ k _. left_out_margin run (left lane) k) p b

    right_margin : (lane : ℕ) → lane < lanes → (p : ℕ) → p < n → chain_margin (ring lane p) ≡ masked margin_lattice about (λ k. chain_margin (right lane k)) p
    right_margin lane l p b = ap chain_margin (right_at lane l p b)
        ∙ masked_kept chain_lattice margin_lattice (λ u v. chain_margin u ≡ v) margin_kept about (right lane) _ n (λ _ _. refl) p b

    -- what settling leaves, where the run is made by the network
    run_rested : {y : Numbers} {r : ℕ} {islands : Bool} → is_made ball (Roads.reached N centre) n centre islands run ≡ true → Settled sheet roads n ring x r y
        → RunGiven left right N bounds islands run centre y r
    unfolding run_surround run_rounds_at run_rounds joined_by joined
    run_rested made s = record {
      values = λ lane l.
          s.reached centre lane here l ∙ same lane l s.steps centre here
          ∙ surround_rested (joined_by sheet roads) n ball about (left_out chain_lattice run (left lane)) (right lane)
          (λ p c. left_out_either Valid run (left lane) p (ready.left_valid.valid p lane c l) valid_kept.keeps_bottom)
          (λ p c. ready.right_valid.valid p lane c l) s.steps
          (λ p c. sym (same lane l (suc s.steps) p c) ∙ s.rests p lane c l ∙ same lane l s.steps p c) centre here
          ∙ rw made refl;
      rounds = s.counted ∙ most_same (rounds_in sheet roads n ring x) _ lanes
          (λ lane l. rounds_same (joined_by sheet roads) n _ _ _ _ (left_margin lane l) (right_margin lane l) ∙ rw made refl);
    }

    -- what settling leaves is the run's surround, where the run is made by the table
    pub run_settled : {y : Numbers} {r k : ℕ} {islands : Bool} → run ≤ n → k ≡ n → is_made (within distances n centre (ball_of bounds)) (reached_by distances n centre) n centre islands run ≡ true
        → Settled sheet roads k ring x r y → RunGiven left right N bounds islands run centre y r
    run_settled {y} {r} number all made s =
        run_rested (sym (made_at distances ready here _ run number) ∙ made) (subst (λ (m : ℕ). Settled sheet roads m ring x r y) all s)

-- ---- the centre is raised to what the run gives
module _ {n : ℕ} {distances : List ℕ} {bounds : Bounds} {centre : ℕ} {rows masked_rows start settled after : List Place} {inside : List Bool} (m : CentreMasked n distances bounds centre n rows inside masked_rows)
    (kept : KeptBut x_row masked_rows start) (s : Worked stepped_part inside start settled) (w : CentreRaised centre settled after) where
  -- the operands, and what comes of them, till then
  untouched : Kept operands rows settled
  untouched = record { same = λ p. ap operands (s.kept.same p) ∙ ap operands (kept.same p) ∙ m.kept.same p; long = s.kept.long ∙ kept.long ∙ m.kept.long }

  pub raised_worked : {run : ℕ} → KeptPast run masked_rows start → run ≤ n → centre < n → length inside ≡ n → Worked given inside rows after
  raised_worked past number here all = record {
    kept = record { same = λ p. ap given (w.kept.same p) ∙ ap given (untouched.same p); long = w.kept.long ∙ untouched.long };
    past = record {
      past = λ p h. w.elsewhere p (λ e. absurd (omega (arith, all))) ∙ s.past.past p h ∙ past.past p (omega (arith, all)) ∙ m.past.past p (omega (arith, all));
    };
    low = record {
      room = omega (arith, s.low.room, w.kept.long);
      low = λ p h e. let low = s.low.low p h e in record {
        ring_low = λ lane l. ap (λ (q : Place). get_or q.ring lane 0) (w.kept.same p) ∙ low.ring_low lane l;
        x_low = λ lane l. ap (λ (q : Place). get_or q.x lane 0) (w.kept.same p) ∙ low.x_low lane l;
        former_low = λ lane l. ap (λ (q : Place). get_or q.former lane 0) (w.kept.same p) ∙ low.former_low lane l;
        both_low = λ lane l. ap (λ (q : Place). get_or q.both lane 0) (w.kept.same p) ∙ low.both_low lane l;
      };
    };
  }

  pub raised_run : {left right : Numbers} {N : Network} {b : Bounds} {islands : Bool} {run r : ℕ} → RunGiven left right N b islands run centre (row_in settled x_row) r
      → CentreRun left right N b islands run centre (row_in rows out_row) (row_in after out_row) r
  raised_run g = record {
    raised = λ lane l. w.raised lane l ∙ ap₂ chain_lattice.join (ap (λ (q : Place). get_or q.out lane 0) (untouched.same centre)) (g.values lane l);
    kept = λ p lane l other. ap (λ (q : Place). get_or q.out lane 0) (w.elsewhere p other) ∙ ap (λ (q : Place). get_or q.out lane 0) (untouched.same p);
    rounds = g.rounds;
  }
