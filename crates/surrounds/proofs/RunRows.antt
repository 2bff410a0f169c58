-- Run after run, centre after centre: the row is raised to what each gives, and in the end has the surrounds of all centres, with their greatest rounds.
use mathlib.Core.Path.{◌≡◌, refl, sym, ap, ap₂, ◌∙◌}
use mathlib.Core.Bool.{Bool, true, false}
use Prim.Native.Nat.{ℕ, ◌+◌, ◌≤◌, max, zero-le}
use native.Mathlib.Numerals.{add-one}
use native.Mathlib.Omega.{arith}
use borrow.Author.Count.{below_more}
use Rattle.codes.specs.declared.operator.Bounds.{Bounds}
use Rattle.network.specs.Network.{Network, within, reached}
use Rattle.counting.specs.Totals.{most_below}
use Rattle.counting.proofs.Totals.{most_le, most_more, most_same, most_swap}
use Rattle.values.specs.Chain.{chain_lattice, chain_margin}
use Rattle.values.proofs.Naturals.{join_max}
use Rattle.lanes.specs.Lanes.{lanes, Numbers}
use Rattle.lanes.specs.Rows.{RowOf}
use Rattle.iteration.specs.Steps.{ValidRow}
use Rattle.surrounds.specs.Runs.{runs_of, is_made, lane_surround, lane_rounds, run_surround, run_rounds_at, CentreRun, RunDone, RunsDone, CentresDone}
use Rattle.surrounds.proofs.RunLaws.{surround_runs, rounds_runs}

-- no run is above that of the last place
pub few_runs : (islands : Bool) (n : ℕ) → runs_of islands n ≤ n + 1
few_runs true n = omega arith
few_runs false n = omega arith

module _ {left right : Numbers} {N : Network} {b : Bounds} {islands : Bool} where
  -- ---- centre after centre
  module _ {run : ℕ} where
    pub run_none : (out : Numbers) → RunDone left right N b islands run 0 out out 0
    unfolding most_below
    run_none out = record { values = record { at = λ p lane c l. absurd (omega arith) }; kept = λ _ _ _ _. refl; rounds = refl }

    module _ {k : ℕ} {before out : Numbers} {m : ℕ} (done : RunDone left right N b islands run k before out m) where
      -- what the run gives at a centre
      abbrev given : ℕ → ℕ → ℕ
      given lane centre = chain_lattice.join (before lane centre) (run_surround left right N b islands run lane centre)

      pub run_made : {out' : Numbers} {r : ℕ} → CentreRun left right N b islands run k out out' r → RunDone left right N b islands run (k + 1) before out' (max m r)
      unfolding most_below
      run_made {out'} at = record {
        values = record {
          at = λ place lane c l. below_more (λ p. out' lane p ≡ given lane p) k
              (λ p less. at.kept p lane l (λ e. absurd (omega arith)) ∙ done.values.at p lane less l)
              (at.raised lane l ∙ ap (λ (v : ℕ). chain_lattice.join v (run_surround left right N b islands run lane k)) (done.kept k lane (omega arith) l))
              place c;
        };
        kept = λ place lane c l. at.kept place lane l (λ e. absurd (omega arith)) ∙ done.kept place lane (omega arith) l;
        rounds = rw add-one (ap₂ max done.rounds at.rounds);
      }

      -- a run that is not made gives the lowest, and has no rounds
      pub run_skipped : is_made (within N k 0 b.upper) (reached N k) N.places k islands run ≡ false → RunDone left right N b islands run (k + 1) before out m
      unfolding run_surround run_rounds_at
      run_skipped e = record {
        values = record {
          at = λ place lane c l. below_more (λ p. out lane p ≡ given lane p) k
              (λ p less. done.values.at p lane less l)
              (done.kept k lane (omega arith) l ∙ rw (e, join_max) (omega arith))
              place c;
        };
        kept = λ place lane c l. done.kept place lane (omega arith) l;
        rounds =
            let none : most_below (run_rounds_at left right N b islands run k) lanes ≤ 0 = most_le _ lanes 0 (λ lane _. rw e zero-le) in
            rw (most_more (λ centre. most_below (run_rounds_at left right N b islands run centre) lanes) k) (omega (arith, done.rounds));
      }

  -- ---- run after run
  pub runs_none : {out : Numbers} → RowOf (λ _ _. 0) out N.places → RunsDone left right N b islands 0 out 0
  unfolding most_below
  runs_none cleared = record { values = record { at = cleared.at }; rounds = refl }

  pub runs_more : {k : ℕ} {out out' : Numbers} {m r : ℕ} → RunsDone left right N b islands k out m → RunDone left right N b islands k N.places out out' r
      → RunsDone left right N b islands (k + 1) out' (max m r)
  runs_more {k} done run = record {
    values = record {
      at = λ place lane c l.
          run.values.at place lane c l
          ∙ join_max _ _ ∙ ap (λ (v : ℕ). max v (run_surround left right N b islands k lane place)) (done.values.at place lane c l)
          ∙ sym (most_more (λ run. run_surround left right N b islands run lane place) k);
    };
    rounds = ap₂ max done.rounds run.rounds ∙ sym (most_more (λ run. most_below (λ centre. most_below (run_rounds_at left right N b islands run centre) lanes) N.places) k);
  }

  -- ---- all runs
  module _ (valid_left : ValidRow left N.places) (valid_right : ValidRow right N.places) where
    pub runs_all : {after : Numbers} {r : ℕ} → RunsDone left right N b islands (runs_of islands N.places) after r → CentresDone left right N b islands after r
    unfolding run_surround run_rounds_at lane_surround lane_rounds
    runs_all done = record {
      values = record {
        at = λ centre lane c l.
            done.values.at centre lane c l
            ∙ sym (surround_runs N b.lower b.upper centre c (left lane) (right lane) (λ p d. valid_left.valid p lane d l) (λ p d. valid_right.valid p lane d l) islands);
      };
      rounds =
          done.rounds
          ∙ most_swap (λ run centre. most_below (run_rounds_at left right N b islands run centre) lanes) (runs_of islands N.places) N.places
          ∙ most_same _ _ N.places (λ centre c.
          most_swap (λ run lane. run_rounds_at left right N b islands run centre lane) (runs_of islands N.places) lanes
          ∙ most_same _ _ lanes (λ lane _. sym (rounds_runs N b.lower b.upper centre c (λ l. chain_margin (left lane l)) (λ l. chain_margin (right lane l)) islands)));
    }
