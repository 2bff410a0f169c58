-- The rows of the operands are kept while centres are worked on: what is said of them before is said of them after, and what runs on them gave is what they
-- give on the first ones.
use mathlib.Core.Path.{◌≡◌, subst, sym, ap, ap₂, ◌∙◌}
use mathlib.Core.Bool.{Bool, cond}
use mathlib.Core.List.{List}
use Prim.Native.Nat.{ℕ, ◌<◌}
use Rattle.codes.specs.declared.operator.Bounds.{Bounds}
use Rattle.network.specs.Network.{Network, within, reached}
use Rattle.logic.specs.Margin.{margin_lattice}
use Rattle.logic.specs.Counts.{run_rounds}
use Rattle.counting.proofs.Totals.{most_same}
use Rattle.values.specs.Chain.{chain_lattice, chain_margin, Valid}
use lib.ListN.{get_or, length}
use Rattle.lanes.specs.declared.Place.{Place}
use Rattle.lanes.specs.Lanes.{lanes, left_row, right_row, out_row, Numbers, row_in}
use Rattle.lanes.specs.Rows.{Kept, KeptPast, RowWritten}
use Rattle.lanes.proofs.RowLaws.{kept_trans, kept_past_trans}
use Rattle.iteration.specs.WorkRows.{operands, Worked}
use Rattle.surrounds.specs.Runs.{left_out, is_made, run_surround, run_rounds_at, CentreRun, RunDone, RunsDone}
use Rattle.surrounds.specs.Blocks.{given, RowsReady}

pub given_kept : {before after : List Place} → Kept operands before after → Kept given before after
given_kept k = record { same = λ p. ap given (k.same p); long = k.long }

pub written_kept : {n : ℕ} {f : Numbers} {before after : List Place} → RowWritten out_row n f before after → Kept given before after
written_kept w = record { same = λ p. ap given (w.kept.same p); long = w.kept.long }

-- the flags may be another ball's
pub worked_next : {part : Place → Place} {inside inside' : List Bool} {before rows after : List Place} → length inside' ≡ length inside → Worked part inside before rows → Worked part inside' rows after
    → Worked part inside' before after
worked_next {before = before} {rows} e v w = record {
  kept = kept_trans v.kept w.kept;
  past = kept_past_trans (subst (λ (n : ℕ). KeptPast n before rows) (sym e) v.past) w.past;
  low = w.low;
}

module _ {before after : List Place} (k : Kept given before after) where
  left_same : (lane : ℕ) → lane < lanes → row_in after left_row lane ≡ row_in before left_row lane
  left_same lane l = λ i p. get_or (k.same p i).left lane 0

  right_same : (lane : ℕ) → lane < lanes → row_in after right_row lane ≡ row_in before right_row lane
  right_same lane l = λ i p. get_or (k.same p i).right lane 0

  pub ready_kept : {n : ℕ} {sheet : List ℕ} {roads : ℕ} {distances : List ℕ} {b : Bounds} → RowsReady (row_in before left_row) (row_in before right_row) n sheet roads distances b
      → RowsReady (row_in after left_row) (row_in after right_row) n sheet roads distances b
  ready_kept {n} ready = record {
    few_places = ready.few_places;
    left_valid = record { valid = λ p lane c l. subst Valid (sym (ap (λ (f : ℕ → ℕ). f p) (left_same lane l))) (ready.left_valid.valid p lane c l) };
    right_valid = record { valid = λ p lane c l. subst Valid (sym (ap (λ (f : ℕ → ℕ). f p) (right_same lane l))) (ready.right_valid.valid p lane c l) };
    roads_in = ready.roads_in;
    measured = ready.measured;
    small = ready.small;
  }

  module _ (N : Network) (b : Bounds) (islands : Bool) where
    surround_same : (run lane centre : ℕ) → lane < lanes
        → run_surround (row_in after left_row) (row_in after right_row) N b islands run lane centre ≡ run_surround (row_in before left_row) (row_in before right_row) N b islands run lane centre
    unfolding run_surround
    surround_same run lane centre l = rw (left_same lane l, right_same lane l)

    rounds_same : (run centre lane : ℕ) → lane < lanes
        → run_rounds_at (row_in after left_row) (row_in after right_row) N b islands run centre lane ≡ run_rounds_at (row_in before left_row) (row_in before right_row) N b islands run centre lane
    unfolding run_rounds_at
    rounds_same run centre lane l = ap₂ (λ (p q : ℕ → ℕ). cond (is_made (within N centre 0 b.upper) (reached N centre) N.places centre islands run)
        (run_rounds N b.lower b.upper (left_out margin_lattice run (λ m. chain_margin (p m))) (λ m. chain_margin (q m)) centre) 0) (left_same lane l) (right_same lane l)

  module _ {N : Network} {b : Bounds} {islands : Bool} where
    pub centre_run_kept : {run centre : ℕ} {out y : Numbers} {r : ℕ} → CentreRun (row_in after left_row) (row_in after right_row) N b islands run centre out y r
        → CentreRun (row_in before left_row) (row_in before right_row) N b islands run centre out y r
    centre_run_kept {run} {centre} {out} at = record {
      raised = λ lane l. at.raised lane l ∙ ap (chain_lattice.join (out lane centre)) (surround_same N b islands run lane centre l);
      kept = at.kept;
      rounds = at.rounds ∙ most_same _ _ lanes (rounds_same N b islands run centre);
    }

    -- a run on rows whose third has not changed either
    pub run_done_kept : {run n : ℕ} {out out₀ y : Numbers} {r : ℕ} → ((place lane : ℕ) → lane < lanes → out lane place ≡ out₀ lane place)
        → RunDone (row_in after left_row) (row_in after right_row) N b islands run n out y r → RunDone (row_in before left_row) (row_in before right_row) N b islands run n out₀ y r
    run_done_kept {run} {n} same done = record {
      values = record { at = λ place lane c l. done.values.at place lane c l ∙ ap₂ chain_lattice.join (same place lane l) (surround_same N b islands run lane place l) };
      kept = λ place lane c l. done.kept place lane c l ∙ same place lane l;
      rounds = done.rounds ∙ most_same _ _ n (λ centre _. most_same _ _ lanes (rounds_same N b islands run centre));
    }

    pub runs_done_kept : {m : ℕ} {y : Numbers} {r : ℕ} → RunsDone (row_in after left_row) (row_in after right_row) N b islands m y r
        → RunsDone (row_in before left_row) (row_in before right_row) N b islands m y r
    runs_done_kept {m} done = record {
      values = record { at = λ place lane c l. done.values.at place lane c l ∙ most_same _ _ m (λ run _. surround_same N b islands run lane place l) };
      rounds = done.rounds ∙ most_same _ _ m (λ run _. most_same _ _ N.places (λ centre _. most_same _ _ lanes (rounds_same N b islands run centre)));
    }
