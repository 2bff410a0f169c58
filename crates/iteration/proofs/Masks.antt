-- The rows of a centre, place after place: those that it works in are masked inside the ball and lowest outside, where a place that leaves the ball is cleared.
use mathlib.Core.Path.{◌≡◌, refl, sym, ap, ap₂, ◌∙◌}
use mathlib.Core.Bool.{Bool, true, false, cond, ◌&&◌, and-false, false≢true}
use mathlib.Core.List.{List}
use Prim.Native.Nat.{ℕ, ◌+◌, ◌*◌, ◌<◌}
use native.Mathlib.Decide.{ℕ_discrete}
use native.Mathlib.Omega.{arith}
use borrow.Author.Count.{below_more}
use borrow.Author.Tests.{le-leb}
use lib.Dec.{leb}
use lib.ListN.{length, get_or, set, length-set}
use lib.Seq.{get_or-set_same, get_or-set_other}
use Rattle.words.specs.Bytes.{words_of, numbers_of}
use Rattle.codes.specs.declared.operator.Bounds.{Bounds}
use Rattle.logic.specs.Iteration.{masked}
use Rattle.values.specs.Signals.{in_table}
use Rattle.lanes.specs.declared.Place.{Place}
use Rattle.lanes.specs.Lanes.{lanes, left_row, right_row, ring_row, x_row, no_place, place_at, row_in}
use Rattle.lanes.specs.Rows.{Room, Kept, within, flagged, Marked, masked_by}
use Rattle.lanes.proofs.RowLaws.{kept_refl, kept_trans, kept_past_refl, masked_in, masked_out, marked_none, marked_more}
use Rattle.iteration.specs.WorkRows.{operands, LowPlace, LowOutside, PlaceCleared, Cleared}
use Rattle.iteration.specs.Masks.{ball_of, PlaceMasked, CentreMasked}

-- ---- clearing, place after place

pub cleared_none : (rows : List Place) → Cleared 0 rows rows
cleared_none rows = record { low = λ p b. absurd (omega arith); kept = kept_refl _ _; past = kept_past_refl _ _ }

pub cleared_low : {inside : List Bool} {n : ℕ} {before rows : List Place} → Cleared n before rows → Room n before → length inside ≡ n → LowOutside inside rows
cleared_low d room all = record { room = omega (arith, d.kept.long); low = λ p h _. d.low p (omega arith) }

-- ---- masking, place after place

-- one place alone is written, but for what it keeps
pub record WrittenAt (place : ℕ) (before after : List Place) : Type 0 where
  pub kept : Kept operands before after
  pub elsewhere : (p : ℕ) → (p ≡ place → ⊥) → place_at after p ≡ place_at before p

nothing_at : (place : ℕ) (rows : List Place) → WrittenAt place rows rows
nothing_at place rows = record { kept = kept_refl _ _; elsewhere = λ _ _. refl }

set_at : (place : ℕ) (rows : List Place) (v : Place) → place < length rows → operands v ≡ operands (place_at rows place) → WrittenAt place rows (set rows place v)
set_at place rows v b e = record {
  kept = record { same = λ p. at p (ℕ_discrete p place); long = length-set rows place v };
  elsewhere = λ p other. get_or-set_other rows place p v no_place other;
}
  where
    at : (p : ℕ) → Dec (p ≡ place) → operands (place_at (set rows place v) p) ≡ operands (place_at rows p)
    at p (yes same) = rw same (ap operands (get_or-set_same rows place v no_place b) ∙ e)
    at p (no other) = ap operands (get_or-set_other rows place p v no_place other)

pub cleared_more : {k : ℕ} {before rows : List Place} {v : Place} → Cleared k before rows → k < length rows → PlaceCleared (place_at rows k) v → Cleared (k + 1) before (set rows k v)
cleared_more {k} {rows = rows} {v} d b p =
    let w = set_at k rows v b p.kept in record {
      low = below_more (λ q. LowPlace (place_at (set rows k v) q)) k
          (λ q less. rw (w.elsewhere q (λ e. absurd (omega arith))) (d.low q less))
          (rw (get_or-set_same rows k v no_place b) p.low);
      kept = kept_trans d.kept w.kept;
      past = record { past = λ q h. w.elsewhere q (λ e. absurd (omega arith)) ∙ d.past.past q (omega arith) };
    }

-- a place is written, and has a flag or is cleared
low_flag : (k : ℕ) (t : Bool) {inside : List Bool} {rows after : List Place} → k < length inside → LowOutside inside rows → WrittenAt k rows after
    → (t ≡ false → LowPlace (place_at after k)) → LowOutside (set inside k t) after
low_flag k t {inside} {rows} {after} b o w clear = record {
  room = omega (arith, o.room, w.kept.long, length-set inside k t);
  low = λ p h e. at p (omega (arith, length-set inside k t)) e (ℕ_discrete p k);
}
  where
    at : (p : ℕ) → p < length inside → flagged (set inside k t) p ≡ false → Dec (p ≡ k) → LowPlace (place_at after p)
    at p h e (yes same) =
        let none : t ≡ false = sym (get_or-set_same inside k t false b) ∙ ap (flagged (set inside k t)) (sym same) ∙ e in
        rw same (clear none)
    at p h e (no other) = rw (w.elsewhere p other) (o.low p h (sym (get_or-set_other inside k p t false other) ∙ e))

module _ (n : ℕ) (distances : List ℕ) (b : Bounds) (centre : ℕ) where
  abbrev ball : ℕ → Bool
  ball = within distances n centre (ball_of b)

  abbrev about : ℕ → Bool
  about = within distances n centre b

  -- outside a ball nothing is in a range that ends with it
  outside_range : (place : ℕ) → ball place ≡ false → about place ≡ false
  unfolding in_table
  outside_range place e = ap (λ t. leb b.lower d && t) (sym (ap (λ t. t && leb d b.upper) (le-leb 0 d (omega arith))) ∙ e) ∙ and-false (leb b.lower d)
    where
      d : ℕ
      d = get_or (numbers_of (words_of distances)) (centre * n + place) 0

  pub centre_none : {inside : List Bool} {rows : List Place} → LowOutside inside rows → CentreMasked n distances b centre 0 rows inside rows
  centre_none o = record {
    ball = marked_none _ _;
    left_masked = record { at = λ p lane c l. absurd (omega arith) };
    right_masked = record { at = λ p lane c l. absurd (omega arith) };
    former_kept = λ p c e. absurd (omega arith);
    both_kept = λ p c e. absurd (omega arith);
    kept = kept_refl _ _;
    past = kept_past_refl _ _;
    low = o;
  }

  module _ {k : ℕ} {before rows : List Place} {inside : List Bool} (m : CentreMasked n distances b centre k before inside rows) where
    centre_more : {inside' : List Bool} {after : List Place} → Marked ball inside' (k + 1) → WrittenAt k rows after
        → ((lane : ℕ) → lane < lanes → row_in after x_row lane k ≡ masked_by ball (row_in before left_row) lane k)
        → ((lane : ℕ) → lane < lanes → row_in after ring_row lane k ≡ masked_by about (row_in before right_row) lane k)
        → (ball k ≡ true → ((place_at after k).former ≡ (place_at before k).former) × ((place_at after k).both ≡ (place_at before k).both))
        → LowOutside inside' after → CentreMasked n distances b centre (k + 1) before inside' after
    centre_more {after = after} flags w x ring others low = record {
      ball = flags;
      left_masked = record {
        at = λ place lane c l. below_more (λ p. row_in after x_row lane p ≡ masked_by ball (row_in before left_row) lane p) k
            (λ p less. ap (λ (q : Place). get_or q.x lane 0) (w.elsewhere p (λ e. absurd (omega arith))) ∙ m.left_masked.at p lane less l) (x lane l) place c;
      };
      right_masked = record {
        at = λ place lane c l. below_more (λ p. row_in after ring_row lane p ≡ masked_by about (row_in before right_row) lane p) k
            (λ p less. ap (λ (q : Place). get_or q.ring lane 0) (w.elsewhere p (λ e. absurd (omega arith))) ∙ m.right_masked.at p lane less l) (ring lane l) place c;
      };
      former_kept = λ place c t. below_more (λ p. ball p ≡ true → (place_at after p).former ≡ (place_at before p).former) k
          (λ p less u. ap (λ (q : Place). q.former) (w.elsewhere p (λ e. absurd (omega arith))) ∙ m.former_kept p less u) (λ u. (others u).0) place c t;
      both_kept = λ place c t. below_more (λ p. ball p ≡ true → (place_at after p).both ≡ (place_at before p).both) k
          (λ p less u. ap (λ (q : Place). q.both) (w.elsewhere p (λ e. absurd (omega arith))) ∙ m.both_kept p less u) (λ u. (others u).1) place c t;
      kept = kept_trans m.kept w.kept;
      past = record { past = λ p h. w.elsewhere p (λ e. absurd (omega arith)) ∙ m.past.past p (omega arith) };
      low = low;
    }

    -- a place in the ball
    pub centre_inside : {ring : Bool} {v : Place} → k < length inside → true ≡ ball k → ring ≡ about k → PlaceMasked ring (place_at rows k) v
        → CentreMasked n distances b centre (k + 1) before (set inside k true) (set rows k v)
    unfolding masked
    centre_inside {v = v} c e f p =
        let room : k < length rows = omega (arith, m.low.room) in
        let here = get_or-set_same rows k v no_place room in
        let w = set_at k rows v room p.kept in
        centre_more
        (marked_more ball inside k true m.ball c e)
        w
        (λ lane l. ap (λ (q : Place). get_or q.x lane 0) here ∙ ap (λ (q : List ℕ). get_or q lane 0) p.left_there ∙ ap (λ (q : Place). get_or q.left lane 0) (m.kept.same k) ∙ masked_in ball (row_in before left_row) lane k (sym e))
        (λ lane l. ap (λ (q : Place). get_or q.ring lane 0) here ∙ p.right_there lane l ∙ ap₂ (λ (t : Bool) (v : ℕ). cond t v 0) f (ap (λ (q : Place). get_or q.right lane 0) (m.kept.same k)))
        (λ _. (
          ap (λ (q : Place). q.former) here ∙ p.former_kept ∙ ap (λ (q : Place). q.former) (m.past.past k (omega arith)),
          ap (λ (q : Place). q.both) here ∙ p.both_kept ∙ ap (λ (q : Place). q.both) (m.past.past k (omega arith)),
        ))
        (low_flag k true c m.low w (λ z. absurd (false≢true (sym z))))

    module _ (e : ball k ≡ false) {after : List Place} (low : LowPlace (place_at after k)) where
      outside_more : {inside' : List Bool} → Marked ball inside' (k + 1) → WrittenAt k rows after → LowOutside inside' after → CentreMasked n distances b centre (k + 1) before inside' after
      outside_more flags w o = centre_more flags w
          (λ lane l. low.x_low lane l ∙ masked_out ball (row_in before left_row) lane k e)
          (λ lane l. low.ring_low lane l ∙ masked_out about (row_in before right_row) lane k (outside_range k e))
          (λ t. absurd (false≢true (sym e ∙ t)))
          o

    -- one that leaves it, and one that stays outside
    pub centre_left : {v : Place} → k < length inside → ball k ≡ false → PlaceCleared (place_at rows k) v → CentreMasked n distances b centre (k + 1) before (set inside k false) (set rows k v)
    centre_left {v} c e p =
        let room : k < length rows = omega (arith, m.low.room) in
        let w = set_at k rows v room p.kept in
        let low : LowPlace (place_at (set rows k v) k) = rw (get_or-set_same rows k v no_place room) p.low in
        outside_more e low (marked_more ball inside k false m.ball c (sym e)) w (low_flag k false c m.low w (λ _. low))

    pub centre_outside : k < length inside → ball k ≡ false → flagged inside k ≡ false → CentreMasked n distances b centre (k + 1) before inside rows
    centre_outside c e f = outside_more e
        (m.low.low k c f)
        (record { flag = below_more (λ p. flagged inside p ≡ ball p) k m.ball.flag (f ∙ sym e) })
        (nothing_at k rows)
        m.low
