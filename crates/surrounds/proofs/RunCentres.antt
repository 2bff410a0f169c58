-- Centre after centre and run after run on the rows that are lent: what stands before the first, what a centre and a run add, and what is left when all are done.
use mathlib.Core.Path.{◌≡◌, refl, sym, ap, subst, ◌∙◌}
use mathlib.Core.Bool.{Bool, true, false}
use mathlib.Core.List.{List, ◌++◌}
use Prim.Native.Nat.{ℕ, ◌+◌, ◌<◌, ◌≤◌, max}
use native.Mathlib.Omega.{arith}
use lib.ListN.{get_or, length, take, drop}
use lib.Seq.{length-take-le, length_front, take_at}
use Rattle.checks.specs.Limits.{most_places}
use Rattle.codes.specs.declared.operator.Bounds.{Bounds}
use Rattle.lanes.specs.declared.Place.{Place}
use Rattle.lanes.specs.Lanes.{left_row, right_row, out_row, row_in}
use Rattle.lanes.specs.Rows.{Room, RowWritten, Kept, KeptPast}
use Rattle.lanes.proofs.RowLaws.{kept_refl, kept_trans, kept_past_refl, kept_past_trans}
use Rattle.iteration.specs.WorkRows.{Worked, Cleared}
use Rattle.iteration.proofs.Masks.{cleared_low}
use Rattle.surrounds.specs.declared.runs.Run.{Run}
use Rattle.surrounds.specs.declared.surround.SheetNetwork.{SheetNetwork}
use Rattle.surrounds.specs.Runs.{runs_of, RunsDone, CentresDone}
use Rattle.surrounds.specs.Blocks.{given}
use Rattle.surrounds.specs.Lent.{network_in, is_made_in, RowsReadyIn, RunReadyIn, CentreReadyIn, CentreRunIn, RunDoneIn}
use Rattle.surrounds.proofs.Centres.{made_at}
use Rattle.surrounds.proofs.RunRows.{run_none, run_made, run_skipped, runs_none, runs_more, runs_all}
use Rattle.surrounds.proofs.KeptRows.{given_kept, ready_kept, centre_run_kept, run_done_kept, runs_done_kept}

-- ---- one run about the first centres, from rows whose strips to work in are cleared
module _ (network : SheetNetwork) (run : Run) where
  abbrev n : ℕ
  n = network.distances.places

  -- the flags are those of all places; the strips to work in are lowest outside of them
  pub record RunTo (cleared : List Place) (centre : ℕ) (flags : List Bool) (after : List Place) (most : ℕ) : Type 0 where
    pub inside : centre ≤ n
    pub long : length flags ≡ most_places
    pub worked : Worked given (take n flags) cleared after
    pub done : RunDoneIn cleared network run centre after most

  -- a run about all centres
  pub record RunEnded (rows after : List Place) (most : ℕ) : Type 0 where
    pub done : RunDoneIn rows network run n after most
    pub kept : Kept given rows after
    pub past : KeptPast n rows after

  module _ (rows cleared : List Place) (ready : RowsReadyIn rows network run.bounds) (number : run.number ≤ n) (clear : Cleared n rows cleared) where
    kept : Kept given rows cleared
    kept = given_kept clear.kept

    pub flags_all : (flags : List Bool) → length flags ≡ most_places → length (take n flags) ≡ n
    flags_all flags long = length-take-le n flags (omega (arith, ready.few_places))

    pub run_begun : Room n rows → (flags : List Bool) → length flags ≡ most_places → RunTo cleared 0 flags cleared 0
    run_begun room flags long = record {
      inside = omega arith;
      long = long;
      worked = record { kept = kept_refl _ _; past = kept_past_refl _ _; low = cleared_low clear room (flags_all flags long) };
      done = run_none _;
    }

    module _ {centre : ℕ} {flags : List Bool} {after : List Place} {most : ℕ} (run_to : RunTo cleared centre flags after most) (here : centre < n) where
      pub centre_ready : is_made_in network.distances centre run ≡ true → CentreReadyIn after network run centre (take n flags)
      centre_ready made = record {
        ready = ready_kept run_to.worked.kept (ready_kept kept ready);
        here = here;
        number = number;
        made = made;
        flags = flags_all flags run_to.long;
        low = run_to.worked.low;
      }

      pub run_passed : is_made_in network.distances centre run ≡ false → RunTo cleared (centre + 1) flags after most
      run_passed not_made = record {
        inside = omega arith;
        long = run_to.long;
        worked = run_to.worked;
        done = run_skipped run_to.done (sym (made_at network.distances.table.now (ready_kept kept ready) here run.islands run.number number) ∙ not_made);
      }

      pub run_on : (flags' : List Bool) (after' : List Place) {r most' : ℕ} → length flags' ≡ length (take n flags) → CentreRunIn after network run centre after' r → Worked given flags' after after' → most' ≡ max most r
          → RunTo cleared (centre + 1) (flags' ++ drop n flags) after' most'
      run_on flags' after' same at worked greater =
          let again : take n (flags' ++ drop n flags) ≡ flags' = take_at flags' _ n (same ∙ flags_all flags run_to.long) in
          record {
            inside = omega arith;
            long = length_front flags flags' n same ∙ run_to.long;
            worked = subst (λ (f : List Bool). Worked given f cleared after') (sym again) (record {
              kept = kept_trans run_to.worked.kept worked.kept;
              past = kept_past_trans (subst (λ (k : ℕ). KeptPast k cleared after) (sym same) run_to.worked.past) worked.past;
              low = worked.low;
            });
            done = rw greater (run_made run_to.done (centre_run_kept run_to.worked.kept at));
          }

    pub run_ended : {centre : ℕ} {flags : List Bool} {after : List Place} {most : ℕ} → RunTo cleared centre flags after most → n ≤ centre → RunEnded rows after most
    run_ended {centre} {flags} {after} {most} run_to over =
        let all : centre ≡ n = omega (arith, run_to.inside) in
        record {
          done = run_done_kept kept (λ place lane l. ap (λ (p : Place). get_or p.out lane 0) (clear.kept.same place)) (subst (λ (k : ℕ). RunDoneIn cleared network run k after most) all run_to.done);
          kept = kept_trans kept run_to.worked.kept;
          past = kept_past_trans clear.past (subst (λ (k : ℕ). KeptPast k cleared after) (flags_all flags run_to.long) run_to.worked.past);
        }

-- ---- the first runs about all centres, from a row of what comes of the operands that is cleared
module _ (network : SheetNetwork) (b : Bounds) (islands : Bool) where
  abbrev places : ℕ
  places = network.distances.places

  pub record RunsTo (cleared : List Place) (number runs : ℕ) (after : List Place) (most : ℕ) : Type 0 where
    pub inside : number ≤ runs
    pub kept : Kept given cleared after
    pub done : RunsDone (row_in cleared left_row) (row_in cleared right_row) (network_in network) b islands number (row_in after out_row) most
    pub past : KeptPast places cleared after

  -- all runs about all centres
  pub record RunsEnded (rows after : List Place) (most : ℕ) : Type 0 where
    pub done : CentresDone (row_in rows left_row) (row_in rows right_row) (network_in network) b islands (row_in after out_row) most
    pub kept : Kept given rows after
    pub past : KeptPast places rows after

  module _ (rows cleared : List Place) (ready : RowsReadyIn rows network b) (room : Room places rows) (clear : RowWritten out_row places (λ _ _. 0) rows cleared) where
    cleared_kept : Kept given rows cleared
    cleared_kept = record { same = λ p. ap given (clear.kept.same p); long = clear.kept.long }

    pub runs_begun : (runs : ℕ) → RunsTo cleared 0 runs cleared 0
    runs_begun runs = record { inside = omega arith; kept = kept_refl _ _; done = runs_none clear.written; past = kept_past_refl _ _ }

    module _ {number runs : ℕ} {after : List Place} {most : ℕ} (runs_to : RunsTo cleared number runs after most) where
      -- no run is above that of the last place
      pub number_ready : runs ≡ runs_of islands places → number < runs → RunReadyIn after network (record { bounds = b; islands = islands; number = number })
      number_ready counted more =
          (ready_kept runs_to.kept (ready_kept cleared_kept ready), omega (arith, room, runs_to.kept.long, cleared_kept.long), omega (arith, counted, more, either islands places))
        where
          either : (islands : Bool) (n : ℕ) → runs_of islands n ≤ n + 1
          either true n = omega arith
          either false n = omega arith

      pub runs_on : (after' : List Place) {r most' : ℕ} → number < runs → RunEnded network (record { bounds = b; islands = islands; number = number }) after after' r → most' ≡ max most r
          → RunsTo cleared (number + 1) runs after' most'
      runs_on after' more run greater = record {
        inside = omega arith;
        kept = kept_trans runs_to.kept run.kept;
        done = rw greater (runs_more runs_to.done (run_done_kept runs_to.kept (λ _ _ _. refl) run.done));
        past = kept_past_trans runs_to.past run.past;
      }

      pub runs_ended : runs ≡ runs_of islands places → runs ≤ number → RunsEnded rows after most
      runs_ended counted over =
          let all : number ≡ runs_of islands places = omega (arith, runs_to.inside) in
          record {
            done = runs_all ready.left_valid ready.right_valid (runs_done_kept cleared_kept
                (subst (λ (k : ℕ). RunsDone (row_in cleared left_row) (row_in cleared right_row) (network_in network) b islands k (row_in after out_row) most) all runs_to.done));
            kept = kept_trans cleared_kept runs_to.kept;
            past = kept_past_trans clear.past runs_to.past;
          }
