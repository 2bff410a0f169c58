-- From the lanes of a block to its samples: the lanes below `count` hold the signals, and the others, all lowest, rest from the
-- start.
use mathlib.Core.Path.{◌≡◌, refl, sym, ap, subst, ◌∙◌}
use mathlib.Core.Bool.{Bool, true, false, not, cond}
use mathlib.Core.List.{List}
use Prim.Native.Nat.{ℕ, ◌+◌, ◌<◌, ◌≤◌}
use native.Mathlib.Nat.{le_trans}
use native.Mathlib.Omega.{arith}
use lib.Dec.{T, eqb, ltb, ltb→lt}
use lib.ListN.{length, get_or}
use Rattle.network.specs.Network.{Network, joined, within, other}
use Rattle.logic.specs.Margin.{Margin, minus_infinity, margin_lattice}
use Rattle.logic.specs.Iteration.{iterate, masked, except, rounds}
use Rattle.logic.specs.Table.{surround_at}
use Rattle.logic.specs.Counts.{run_rounds, surround_rounds}
use Rattle.logic.proofs.Keeps.{same_kept, surround_kept}
use Rattle.logic.proofs.Rounds.{rounds_least}
use Rattle.logic.proofs.Counts.{surround_rounds_same}
use Rattle.values.specs.Chain.{margin_at, chain_lattice, chain_margin, Valid}
use Rattle.values.specs.Signals.{signal_in}
use Rattle.values.proofs.Valid.{valid_kept}
use Rattle.lanes.specs.declared.rows.Block.{Block}
use Rattle.lanes.specs.declared.Place.{Place}
use Rattle.lanes.specs.Lanes.{lanes, Numbers, left_row, right_row, out_row, row_in}
use Rattle.lanes.specs.Rows.{RowOf, KeptPast, RowWritten, lane_signal}
use Rattle.lanes.proofs.RowLaws.{lane_signal_lem, lane_zero}
use Rattle.surrounds.specs.declared.surround.Surround.{Surround}
use Rattle.iteration.specs.Steps.{ValidRow}
use Rattle.surrounds.specs.Surround.{surround_in, surround_rounds_in, block_rounds}
use Rattle.surrounds.specs.Runs.{lane_surround, lane_rounds, CentresDone}
use Rattle.surrounds.specs.Blocks.{BlockReady, BlockDone}
use Rattle.roads.specs.Roads.{network_of}
use Rattle.counting.proofs.Totals.{over_le, le_over, most_same, most_front}
use Rattle.surrounds.proofs.Lowest.{surround_low}

-- ---- one row

-- the left one is there when the right one has been read too
pub left_loaded : {f g : Numbers} {n : ℕ} {before rows after : List Place} → RowWritten left_row n f before rows → RowWritten right_row n g rows after → RowOf f (row_in after left_row) n
left_loaded v w = record { at = λ p lane b l. ap (λ (q : Place). get_or q.left lane 0) (w.kept.same p) ∙ v.written.at p lane b l }

module _ (words : List ℕ) (start n : ℕ) (block : Block) (row : Numbers) (w : RowOf (lane_signal words start n block) row n) where
  pub row_valid : ((t l : ℕ) → block.first ≤ t → t < block.first + block.count → l < n → Valid (signal_in words start n t l)) → ValidRow row n
  row_valid v = record {
    valid = λ l lane b h. subst Valid (sym (w.at l lane b h))
        (either (ltb lane block.count) _ (λ c. let k = ltb→lt lane block.count c in v (block.first + lane) l (omega arith) (omega arith) b));
  }
    where
      either : (t : Bool) (c : ℕ) → (T t → Valid c) → Valid (cond t c 0)
      either true c h = h tt
      either false c h = valid_kept.keeps_bottom

  -- the margins of a lane past the last sample are all minus infinity
  low : (lane l : ℕ) → lane < lanes → block.count ≤ lane → l < n → chain_margin (row lane l) ≡ minus_infinity
  unfolding margin_at
  low lane l h c b = rw (lane_zero words start n block row w lane l h c b) refl

-- ---- rounds of a signal that is minus infinity everywhere

masked_bottom : (test : ℕ → Bool) (p : ℕ → Margin) (l : ℕ) → p l ≡ minus_infinity → masked margin_lattice test p l ≡ minus_infinity
unfolding masked
masked_bottom test p l e = rw e (either (test l))
  where
    either : (t : Bool) → cond t minus_infinity minus_infinity ≡ minus_infinity
    either true = refl
    either false = refl

module _ (N : Network) (lower upper centre : ℕ) where
  -- it rests from the start
  low_run : (p q : ℕ → Margin) → ((l : ℕ) → l < N.places → p l ≡ minus_infinity) → run_rounds N lower upper p q centre ≤ 1
  unfolding run_rounds iterate
  low_run p q h = rounds_least (joined N) N.places _ _ 0 (λ l b. rw (masked_bottom (within N centre 0 upper) p l (h l b)) refl)

  some_round : (p q : ℕ → Margin) → 1 ≤ run_rounds N lower upper p q centre
  unfolding run_rounds rounds
  some_round p q = omega arith

  -- it has no more rounds than any other
  pub low_rounds : (islands : Bool) (p q p' q' : ℕ → Margin) → ((l : ℕ) → l < N.places → p l ≡ minus_infinity)
      → surround_rounds N lower upper islands p q centre ≤ surround_rounds N lower upper islands p' q' centre
  unfolding surround_rounds except
  low_rounds true p q p' q' h = le_trans (low_run p q h) (some_round p' q')
  low_rounds false p q p' q' h = over_le (other N centre) _ N.places _ (λ k b t. le_trans
      (le_trans (low_run (except margin_lattice k p) q (λ l c. masked_bottom (λ m. not (eqb m k)) p l (h l c))) (some_round (except margin_lattice k p') q'))
      (le_over (other N centre) (λ k. run_rounds N lower upper (except margin_lattice k p') q' centre) N.places k b t))

-- ---- the block
module _ (words : List ℕ) (s : Surround) (n : ℕ) (sheet : List ℕ) (roads : ℕ) (distances : List ℕ) (block : Block) (l r : Numbers)
    (ready : BlockReady words s n sheet roads block.first block.count distances)
    (wl : RowOf (lane_signal words s.left n block) l n) (wr : RowOf (lane_signal words s.right n block) r n) where
  abbrev N : Network
  N = network_of sheet n roads

  abbrev rounds_at : ℕ → ℕ → ℕ
  rounds_at = lane_rounds l r N s.bounds s.islands

  -- the margins of a lane are those of its sample
  same_rounds : (centre lane : ℕ) → lane < block.count → rounds_at centre lane ≡ surround_rounds_in words s N (block.first + lane) centre
  unfolding lane_rounds surround_rounds_in
  same_rounds centre lane c = surround_rounds_same N s.bounds.lower s.bounds.upper centre s.islands _ _ _ _
      (λ k b. ap chain_margin (lane_signal_lem words s.left n block l wl lane k ready.few c b))
      (λ k b. ap chain_margin (lane_signal_lem words s.right n block r wr lane k ready.few c b))

  -- the lanes past the last sample add nothing to the greatest rounds
  no_rounds : (centre lane : ℕ) → block.count ≤ lane → lane < lanes → rounds_at centre lane ≤ rounds_at centre 0
  unfolding lane_rounds
  no_rounds centre lane c h = low_rounds N s.bounds.lower s.bounds.upper centre s.islands _ _ _ _ (λ k b. low words s.left n block l wl lane k h c b)

  pub block_done : (before after : List Place) (m : ℕ) → length after ≡ length before → RowOf l (row_in after left_row) n → RowOf r (row_in after right_row) n → KeptPast n before after → CentresDone l r N s.bounds s.islands (row_in after out_row) m
      → BlockDone words s n sheet roads block.first block.count before after m
  unfolding lane_surround surround_in surround_at block_rounds
  block_done before after m long kl kr past done = record {
    values = λ centre lane b c.
        done.values.at centre lane b (omega (arith, ready.few))
        ∙ surround_kept chain_lattice chain_lattice (λ u v. u ≡ v) (same_kept chain_lattice) (joined N) n _ _ _ _
        (λ k d. lane_signal_lem words s.left n block l wl lane k ready.few c d) (λ k d. lane_signal_lem words s.right n block r wr lane k ready.few c d)
        s.islands _ _ centre;
    idle = λ centre lane b c h.
        done.values.at centre lane b h
        ∙ surround_low (joined N) n s.islands _ _ (l lane) (r lane) centre b (lane_zero words s.left n block l wl lane centre h c b);
    left_row_lem = record { at = λ place lane b h. kl.at place lane b h ∙ wl.at place lane b h };
    right_row_lem = record { at = λ place lane b h. kr.at place lane b h ∙ wr.at place lane b h };
    past = past;
    long = long;
    rounds = done.rounds ∙ most_same _ _ n (λ centre b.
        most_front (rounds_at centre) block.count lanes 0 ready.few ready.some (no_rounds centre)
        ∙ most_same (rounds_at centre) _ block.count (same_rounds centre));
  }
