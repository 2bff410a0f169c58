-- Somewhere and everywhere in lanes: what all places come to is the operator's value.
use mathlib.Core.Path.{◌≡◌, refl, ap, ◌∙◌}
use mathlib.Core.Bool.{Bool, true, false, cond}
use mathlib.Core.List.{List}
use Prim.Native.Nat.{ℕ, zero, suc, ◌+◌, ◌-◌, ◌≤◌, ◌<◌, min, max}
use native.Mathlib.Omega.{arith}
use lib.ListN.{get_or}
use Rattle.words.specs.Bytes.{words_of, numbers_of}
use Rattle.codes.specs.declared.operator.Bounds.{Bounds}
use Rattle.logic.specs.Lattice.{least_over, greatest_over}
use Rattle.logic.specs.Table.{Signal}
use Rattle.values.specs.Chain.{chains, chain_lattice, chain_opposite, highest}
use Rattle.values.specs.Signals.{signal_in}
use Rattle.values.proofs.ChainWords.{signal_bound}
use Rattle.values.proofs.Naturals.{meet_min, join_max}
use Rattle.lanes.specs.declared.Place.{Place}
use Rattle.lanes.specs.declared.rows.Block.{Block}
use Rattle.lanes.specs.Lanes.{left_row, out_row, row_in}
use Rattle.lanes.specs.Rows.{RowWritten, lane_signal, within}
use Rattle.lanes.specs.EndLaws.{least_small, least_same, greatest_same}
use Rattle.lanes.proofs.RowLaws.{kept_past_trans, lane_signal_lem, lane_zero}
use Rattle.ranges.specs.Ranges.{somewhere_in, gathered_in, RangeReady, RangeDone}

-- ---- the dual: the least is the opposite of the greatest of the opposites
one_more : (t : Bool) (a b c : ℕ) → a ≡ highest - b → a ≤ highest → c ≤ highest → min a (cond t c highest) ≡ highest - max b (cond t (highest - c) 0)
one_more true a b c e h k = omega arith
one_more false a b c e h k = omega arith

least_dual : (test : ℕ → Bool) (f : ℕ → ℕ) (n : ℕ) → ((k : ℕ) → f k ≤ highest)
    → least_over chain_lattice test f n ≡ chain_opposite (greatest_over chain_lattice test (λ k. chain_opposite (f k)) n)
unfolding least_over greatest_over
least_dual test f zero h = refl
least_dual test f (suc n) h = rw (meet_min, join_max) (one_more (test n) _ _ (f n) (least_dual test f n h) (least_small test f n) (h n))

-- ---- the block
module _ (over : (ℕ → Bool) → (ℕ → ℕ) → ℕ → ℕ) (dual : Bool) (words : List ℕ) (left n : ℕ) (distances : List ℕ) (block : Block) (bounds : Bounds) {before loaded after : List Place}
    (same : (test : ℕ → Bool) (f g : ℕ → ℕ) → ((k : ℕ) → k < n → f k ≡ g k) → over test f n ≡ over test g n)
    (meant : (f : Signal chains) (t centre : ℕ) → ((k : ℕ) → f t k ≤ highest)
    → over (within distances n centre bounds) (f t) n ≡ somewhere_in dual (numbers_of (words_of distances)) n f bounds.lower bounds.upper t centre) where
  done_by : RangeReady words left n (numbers_of (words_of distances)) block.first block.count → RowWritten left_row n (lane_signal words left n block) before loaded
      → RowWritten out_row n (gathered_in over distances n bounds (row_in loaded left_row)) loaded after
      → RangeDone words left n (numbers_of (words_of distances)) block.first block.count bounds.lower bounds.upper dual before after
  done_by ready decoded done = record {
    values = λ centre lane b c.
        done.written.at centre lane b (omega (arith, ready.few))
        ∙ same _ _ (signal_in words left n (block.first + lane)) (λ k d. lane_signal_lem words left n block (row_in loaded left_row) decoded.written lane k ready.few c d)
        ∙ meant (signal_in words left n) (block.first + lane) centre (signal_bound words left n (block.first + lane));
    idle = λ centre lane b c h.
        done.written.at centre lane b h
        ∙ same _ _ (λ _. 0) (λ k d. lane_zero words left n block (row_in loaded left_row) decoded.written lane k h c d)
        ∙ meant (λ _ _. 0) lane centre (λ _. omega arith);
    operand = record { at = λ place lane b h. ap (λ p. get_or p.left lane 0) (done.kept.same place) ∙ decoded.written.at place lane b h };
    kept = record { same = λ p. ap (λ q. left_row.others q) (done.kept.same p) ∙ ap (λ q. out_row.others q) (decoded.kept.same p); long = done.kept.long ∙ decoded.kept.long };
    past = kept_past_trans decoded.past done.past;
  }

module _ (words : List ℕ) (left n : ℕ) (distances : List ℕ) (block : Block) (bounds : Bounds) {before loaded after : List Place}
    (ready : RangeReady words left n (numbers_of (words_of distances)) block.first block.count) (decoded : RowWritten left_row n (lane_signal words left n block) before loaded) where
  pub everywhere_done : RowWritten out_row n (gathered_in (λ test f n. least_over chain_lattice test f n) distances n bounds (row_in loaded left_row)) loaded after
      → RangeDone words left n (numbers_of (words_of distances)) block.first block.count bounds.lower bounds.upper true before after
  everywhere_done = done_by (λ test f n. least_over chain_lattice test f n) true words left n distances block bounds (λ test f g. least_same test f g n) (λ f t centre small. least_dual _ (f t) n small) ready decoded

  pub somewhere_done : RowWritten out_row n (gathered_in (λ test f n. greatest_over chain_lattice test f n) distances n bounds (row_in loaded left_row)) loaded after
      → RangeDone words left n (numbers_of (words_of distances)) block.first block.count bounds.lower bounds.upper false before after
  somewhere_done = done_by (λ test f n. greatest_over chain_lattice test f n) false words left n distances block bounds (λ test f g. greatest_same test f g n) (λ f t centre small. refl) ready decoded
