-- The lanes of a strip, a row that is written strip by strip, parts of places that are kept; masks and flags; and where the words of a signal stand.
use mathlib.Core.Path.{◌≡◌, refl, ap, subst, ◌∙◌}
use mathlib.Core.Bool.{Bool, true, false}
use mathlib.Core.List.{List}
use Prim.Native.Nat.{ℕ, ◌+◌, ◌*◌, ◌<◌, ◌≤◌}
use native.Mathlib.Nat.{le-mul_of_pos_right}
use native.Mathlib.Decide.{ℕ_discrete}
use native.Mathlib.Omega.{arith}
use borrow.Author.Count.{below_more}
use borrow.Author.Tests.{lt-ltb, le-ltb}
use lib.ListN.{length, get_or, set}
use lib.Seq.{get_or-set_same, get_or-set_other}
use Rattle.words.proofs.Rows.{in_table}
use Rattle.logic.specs.Iteration.{masked}
use Rattle.values.specs.Signals.{signal_in}
use Rattle.lanes.specs.declared.rows.Block.{Block}
use Rattle.lanes.specs.declared.Place.{Place}
use Rattle.lanes.specs.declared.Row as Code
use Rattle.lanes.specs.declared.Row.TheVariants.{Left, Right, Out, Ring, X, Former, Both}
use Rattle.lanes.specs.Lanes.{lanes, Row, row_of, Numbers, place_at, row_in}
use Rattle.lanes.specs.Strips.{Held}
use Rattle.lanes.specs.Rows.{RowOf, Kept, KeptPast, StripPut, RowWritten, lane_signal, flagged, Marked, masked_by}

-- ---- the lanes of a strip

-- what a loop over the lanes knows, after k of them
pub record Filled (k : ℕ) (f : ℕ → ℕ) (strip : List ℕ) : Type 0 where
  pub long : length strip ≡ lanes
  pub held : (lane : ℕ) → lane < k → get_or strip lane 0 ≡ f lane

-- ---- parts of places that are kept
pub kept_refl : (part : Place → Place) (places : List Place) → Kept part places places
kept_refl part places = record { same = λ _. refl; long = refl }

module _ {part : Place → Place} {before places after : List Place} (w : Kept part before places) where
  pub kept_trans : Kept part places after → Kept part before after
  kept_trans v = record { same = λ p. v.same p ∙ w.same p; long = v.long ∙ w.long }

-- ---- places past the first n that are kept
pub kept_past_refl : (n : ℕ) (places : List Place) → KeptPast n places places
kept_past_refl n places = record { past = λ _ _. refl }

pub kept_past_trans : {n : ℕ} {before places after : List Place} → KeptPast n before places → KeptPast n places after → KeptPast n before after
kept_past_trans w v = record { past = λ p h. v.past p h ∙ w.past p h }

-- ---- a row that is written strip by strip

-- what a loop over the places knows, after k of them
pub row_written_none : (row : Row) (f : Numbers) (places : List Place) → RowWritten row 0 f places places
row_written_none row f places = record {
  written = record { at = λ place lane b l. absurd (omega arith) };
  kept = kept_refl row.others places;
  past = kept_past_refl 0 places;
}

module _ {row : Row} {k : ℕ} {f : Numbers} {before places : List Place} (w : RowWritten row k f before places) where
  pub row_written_more : {g : ℕ → ℕ} {strip : List ℕ} {after : List Place} → StripPut row strip (place_at places k) (place_at after k) → Held lanes g strip
      → ((p : ℕ) → (p ≡ k → ⊥) → place_at after p ≡ place_at places p) → length after ≡ length places
      → ((lane : ℕ) → lane < lanes → g lane ≡ f lane k) → RowWritten row (k + 1) f before after
  row_written_more {after = after} put held elsewhere long e = record {
    written = record {
      at = λ place lane c l. below_more (λ p. row_in after row lane p ≡ f lane p) k
          (λ p d. ap (λ (q : Place). get_or (row.strip q) lane 0) (elsewhere p (λ q. absurd (omega arith))) ∙ w.written.at p lane d l)
          (ap (λ (s : List ℕ). get_or s lane 0) put.there ∙ held.at lane l ∙ e lane l)
          place c;
    };
    kept = record { same = λ p. at p (ℕ_discrete p k); long = long ∙ w.kept.long };
    past = record { past = λ p h. elsewhere p (λ q. absurd (omega arith)) ∙ w.past.past p (omega arith) };
  }
    where
      at : (p : ℕ) → Dec (p ≡ k) → row.others (place_at after p) ≡ row.others (place_at before p)
      at p (yes same) = rw same (put.kept ∙ w.kept.same k)
      at p (no other) = ap row.others (elsewhere p other) ∙ w.kept.same p

  pub row_written_strip : {strip : List ℕ} {after : List Place} → StripPut row strip (place_at places k) (place_at after k) → Held lanes (λ lane. f lane k) strip
      → ((p : ℕ) → (p ≡ k → ⊥) → place_at after p ≡ place_at places p) → length after ≡ length places → RowWritten row (k + 1) f before after
  row_written_strip put held elsewhere long = row_written_more put held elsewhere long (λ _ _. refl)

  pub row_written_all : {n : ℕ} → k ≡ n → RowWritten row n f before places
  row_written_all e = subst (λ i. RowWritten row i f before places) e w

-- another row is kept
kept_but : (row other : Code.Row) (p q : Place) → (other ≡ row → ⊥) → (row_of row).others p ≡ (row_of row).others q → (row_of other).strip p ≡ (row_of other).strip q
kept_but Left Left p q h e = absurd (h refl)
kept_but Right Right p q h e = absurd (h refl)
kept_but Out Out p q h e = absurd (h refl)
kept_but Ring Ring p q h e = absurd (h refl)
kept_but X X p q h e = absurd (h refl)
kept_but Former Former p q h e = absurd (h refl)
kept_but Both Both p q h e = absurd (h refl)
kept_but _ Left p q h e = ap (λ (v : Place). v.left) e
kept_but _ Right p q h e = ap (λ (v : Place). v.right) e
kept_but _ Out p q h e = ap (λ (v : Place). v.out) e
kept_but _ Ring p q h e = ap (λ (v : Place). v.ring) e
kept_but _ X p q h e = ap (λ (v : Place). v.x) e
kept_but _ Former p q h e = ap (λ (v : Place). v.former) e
kept_but _ Both p q h e = ap (λ (v : Place). v.both) e

pub other_row_kept : {row : Code.Row} {k : ℕ} {f : Numbers} {before places : List Place} → RowWritten (row_of row) k f before places
    → (other : Code.Row) → (other ≡ row → ⊥) → (place lane : ℕ) → row_in places (row_of other) lane place ≡ row_in before (row_of other) lane place
other_row_kept {row} w other h place lane = ap (λ (s : List ℕ). get_or s lane 0) (kept_but row other _ _ h (w.kept.same place))

-- ---- masks and flags
pub masked_in : (test : ℕ → Bool) (row : Numbers) (lane place : ℕ) → test place ≡ true → row lane place ≡ masked_by test row lane place
unfolding masked
masked_in test row lane place e = rw e refl

pub masked_out : (test : ℕ → Bool) (row : Numbers) (lane place : ℕ) → test place ≡ false → 0 ≡ masked_by test row lane place
unfolding masked
masked_out test row lane place e = rw e refl

pub marked_none : (test : ℕ → Bool) (flags : List Bool) → Marked test flags 0
marked_none test flags = record { flag = λ p l. absurd (omega arith) }

pub marked_more : (test : ℕ → Bool) (flags : List Bool) (k : ℕ) (t : Bool) → Marked test flags k → k < length flags → t ≡ test k → Marked test (set flags k t) (k + 1)
marked_more test flags k t m b e = record {
  flag = below_more (λ p. flagged (set flags k t) p ≡ test p) k
      (λ p l. get_or-set_other flags k p t false (λ q. absurd (omega arith)) ∙ m.flag p l)
      (get_or-set_same flags k t false b ∙ e);
}

-- ---- indices
pub signal_index : (start first count n l lane room : ℕ) → start + (first + count) * n ≤ room → l < n → lane < count
    → (first + lane ≤ (first + lane) * n) × (start + ((first + lane) * n + l) < room)
signal_index start first count n l lane room h b c =
    let i : first + lane < first + count = omega arith in
    let t = in_table i b in
    let m = le-mul_of_pos_right {m = n} (first + lane) (omega arith) in
    (m, omega arith)

-- ---- a row that was read from the words: its lanes below `count` have the samples, and the others are lowest
module _ (words : List ℕ) (start n : ℕ) (block : Block) (row : Numbers) (w : RowOf (lane_signal words start n block) row n) where
  pub lane_signal_lem : (lane l : ℕ) → block.count ≤ lanes → lane < block.count → l < n → row lane l ≡ signal_in words start n (block.first + lane) l
  lane_signal_lem lane l h c b = w.at l lane b (omega arith) ∙ simp (lt-ltb lane block.count c)

  pub lane_zero : (lane l : ℕ) → lane < lanes → block.count ≤ lane → l < n → row lane l ≡ 0
  lane_zero lane l h c b = w.at l lane b h ∙ simp (le-ltb lane block.count c)
