-- Places outside a ball: the strips to work in are lowest there and stay so, so that a round, and a comparison of rows, is the same whether or not it touches
-- them.
use mathlib.Core.Path.{◌≡◌, refl, sym, ap, ap₂, subst, ◌∙◌}
use mathlib.Core.Bool.{Bool, true, false, cond, ◌&&◌, false≢true}
use mathlib.Core.List.{List, [], ◌∷◌, ◌++◌}
use Prim.Native.Nat.{ℕ, zero, suc, ◌+◌, ◌<◌, ◌≤◌}
use native.Mathlib.Decide.{ℕ_discrete}
use native.Mathlib.Omega.{arith}
use borrow.Author.Count.{below_more}
use lib.ListN.{length, get_or, set, length-set, get_or-append}
use lib.Seq.{get_or-set_same, get_or-set_other, set-append_left}
use Rattle.std.proofs.lemmas.List.{set-get_or}
use Rattle.std.specs.List.{zip, IsAnyAnswer}
use Rattle.roads.specs.declared.road.Way.{Way}
use Rattle.values.specs.Chain.{chain_lattice}
use Rattle.values.proofs.Naturals.{meet_min}
use Rattle.lanes.specs.declared.Place.{Place}
use Rattle.lanes.specs.Lanes.{lanes, Row, ring_row, x_row, former_row, both_row, Numbers, no_place, place_at, row_in}
use Rattle.lanes.specs.Strips.{Held, StripsApart}
use Rattle.lanes.specs.Rows.{Kept, KeptPast, flagged}
use Rattle.lanes.proofs.RowLaws.{kept_refl, kept_past_refl}
use Rattle.iteration.specs.WorkRows.{joined_part, stepped_part, LowPlace, LowOutside, Worked, KeptBut}
use Rattle.iteration.specs.Steps.{Joined, Pulled, Stepped, RowsApart}

-- what is lowest stays lowest: the lesser of it and another number
pub meet_low : (a b : ℕ) → a ≡ 0 → chain_lattice.meet a b ≡ 0
meet_low a b e = rw meet_min (omega arith)

-- ---- what is kept

-- the ring is the same function of the places
pub ring_same : {before after : List Place} → Kept stepped_part before after → (lane : ℕ) → row_in after ring_row lane ≡ row_in before ring_row lane
ring_same k lane = λ i p. get_or (k.same p i).ring lane 0

pub nothing_written : (row : Row) {rows : List Place} → KeptBut row rows rows
nothing_written row {rows} = kept_refl row.others rows

pub stepped_of_joined : {before after : List Place} → Kept joined_part before after → Kept stepped_part before after
stepped_of_joined k = record { same = λ p. ap stepped_part (k.same p); long = k.long }

pub stepped_of_x : {before after : List Place} → KeptBut x_row before after → Kept stepped_part before after
stepped_of_x k = record { same = λ p. ap stepped_part (k.same p); long = k.long }

-- ---- places that are lowest outside
module _ {inside : List Bool} where
  -- numbers of x that fall stay lowest
  pub low_fallen : {before after : List Place} → KeptBut x_row before after → ((place lane : ℕ) → lane < lanes → row_in after x_row lane place ≤ row_in before x_row lane place)
      → LowOutside inside before → LowOutside inside after
  low_fallen {before} {after} k fallen o = record {
    room = omega (arith, o.room, k.long);
    low = λ p h e. let low = o.low p h e in record {
      ring_low = λ lane l. ap (λ (q : Place). get_or q.ring lane 0) (k.same p) ∙ low.ring_low lane l;
      x_low = λ lane l. omega (arith, fallen p lane l, low.x_low lane l);
      former_low = λ lane l. ap (λ (q : Place). get_or q.former lane 0) (k.same p) ∙ low.former_low lane l;
      both_low = λ lane l. ap (λ (q : Place). get_or q.both lane 0) (k.same p) ∙ low.both_low lane l;
    };
  }

  pub stepped_low : {joined : ℕ → ℕ → Bool} {before after : List Place} {both : Numbers} → Stepped joined both (row_in before x_row) (row_in after x_row) → KeptBut x_row before after
      → LowOutside inside before → LowOutside inside after
  stepped_low s k o = low_fallen k (λ p lane l. (s.least p lane l).below) o

-- ---- a pull along a way

-- what is handed over has not changed
pub pulled_as : {way : Way} {before rows : List Place} {x y : Numbers} → KeptBut x_row before rows → Pulled way (row_in rows both_row) x y → Pulled way (row_in before both_row) x y
pulled_as {way} {x = x} k p = record {
  taken = λ lane l. p.taken lane l
      ∙ ap (λ (v : ℕ). cond way.runs (chain_lattice.meet (x lane way.from) v) (x lane way.from)) (ap (λ (q : Place). get_or q.both lane 0) (k.same way.to));
  other = p.other;
}

-- numbers only fall by it, so what is lowest outside stays so
cond_lower : (t : Bool) (a b : ℕ) → cond t (chain_lattice.meet a b) a ≤ a
cond_lower true a b = rw meet_min (omega arith)
cond_lower false a b = omega arith

pub pulled_low : {inside : List Bool} {way : Way} {both : Numbers} {before after : List Place} → Pulled way both (row_in before x_row) (row_in after x_row) → KeptBut x_row before after
    → LowOutside inside before → LowOutside inside after
pulled_low {way = way} {both} {before} {after} p k = low_fallen k (λ q lane l. fallen q lane l (ℕ_discrete q way.from))
  where
    fallen : (q lane : ℕ) → lane < lanes → Dec (q ≡ way.from) → row_in after x_row lane q ≤ row_in before x_row lane q
    fallen q lane l (yes e) = rw (e, p.taken lane l) (cond_lower way.runs (row_in before x_row lane way.from) (both lane way.to))
    fallen q lane l (no u) = omega (arith, p.other q lane l u)

-- where it does not, or the place lies outside, nothing is taken over
pub not_pulled : (way : Way) {inside : List Bool} {rows : List Place} → LowOutside inside rows → way.from < length inside → (way.runs && flagged inside way.from) ≡ false
    → Pulled way (row_in rows both_row) (row_in rows x_row) (row_in rows x_row)
not_pulled way {inside} {rows} o i e = record { taken = λ lane l. go lane l way.runs e; other = λ _ _ _ _. refl }
  where
    go : (lane : ℕ) → lane < lanes → (t : Bool) → (t && flagged inside way.from) ≡ false
        → row_in rows x_row lane way.from ≡ cond t (chain_lattice.meet (row_in rows x_row lane way.from) (row_in rows both_row lane way.to)) (row_in rows x_row lane way.from)
    go lane l true out = let low = (o.low way.from i out).x_low lane l in low ∙ sym (meet_low _ _ low)
    go lane l false out = refl

-- ---- comparing, place after place
module _ (h : ℕ → ℕ) (a b : Numbers) where
  pub rows_none : RowsApart false h a b 0
  rows_none = record { alike = λ e p lane l. absurd (omega arith); apart = λ e. absurd (false≢true e) }

  pub rows_more : (k : ℕ) → RowsApart false h a b k → ((lane : ℕ) → lane < lanes → h (a lane k) ≡ h (b lane k)) → RowsApart false h a b (k + 1)
  rows_more k w e = record {
    alike = λ z p lane l m. below_more (λ q. h (a lane q) ≡ h (b lane q)) k (λ q c. w.alike z q lane c m) (e lane m) p l;
    apart = λ z. absurd (false≢true z);
  }

module _ (h : ℕ → ℕ) (rows : List Place) (r : Bool) (k : ℕ) (s : StripsApart r h (place_at rows k).former (place_at rows k).x lanes) where
  pub strips_alike : r ≡ false → (lane : ℕ) → lane < lanes → h (row_in rows former_row lane k) ≡ h (row_in rows x_row lane k)
  strips_alike e = s.alike e

  pub rows_found : (n : ℕ) → k < n → r ≡ true → RowsApart true h (row_in rows former_row) (row_in rows x_row) n
  rows_found n l e = record {
    alike = λ z. absurd (false≢true (sym z));
    apart = λ _. let u = s.apart e in (k, u.0, l, u.1, u.2);
  }

-- ---- comparing, the places and their flags side by side

at_pair : (rows : List Place) (inside : List Bool) (i : ℕ) (d : Place × Bool) → i < length inside → length inside ≤ length rows
    → (i < length (zip rows inside)) × (get_or (zip rows inside) i d ≡ (place_at rows i, flagged inside i))
at_pair [] inside i d b r = absurd (omega arith)
at_pair (p ∷ ps) [] i d b r = absurd (omega arith)
at_pair (p ∷ ps) (f ∷ fs) zero d b r = (omega arith, refl)
at_pair (p ∷ ps) (f ∷ fs) (suc i) d b r = let next = at_pair ps fs i d (omega arith) (omega arith) in (omega arith, next.1)

pairs_inside : (rows : List Place) (inside : List Bool) → length (zip rows inside) ≤ length inside
pairs_inside [] inside = omega arith
pairs_inside (p ∷ ps) [] = omega arith
pairs_inside (p ∷ ps) (f ∷ fs) = omega (arith, pairs_inside ps fs)

module _ (h : ℕ → ℕ) where
  -- what a test of a place and its flag tells, and a search that tells whether a place inside is another
  abbrev pub Told : Place × Bool → Bool → Type 0
  Told p true = StripsApart true h p.0.former p.0.x lanes
  Told p false = p.1 ≡ true → StripsApart false h p.0.former p.0.x lanes

  pub changed_told : (rows : List Place) (inside : List Bool) → LowOutside inside rows → (some : Bool) → IsAnyAnswer Told (zip rows inside) some
      → RowsApart some h (row_in rows former_row) (row_in rows x_row) (length inside)
  changed_told rows inside o true (i, b, w) =
      let c : i < length inside = omega (arith, pairs_inside rows inside) in
      rows_found h rows true i (rw (at_pair rows inside i (no_place, false) c o.room).1 at (w (no_place, false))) (length inside) c refl
  changed_told rows inside o false none = record { alike = λ e p lane c l. alike p lane c l (flagged inside p) refl; apart = λ e. absurd (false≢true e) }
    where
      alike : (p lane : ℕ) → p < length inside → lane < lanes → (flag : Bool) → flagged inside p ≡ flag → h (row_in rows former_row lane p) ≡ h (row_in rows x_row lane p)
      alike p lane c l true e =
          let (b, here) = at_pair rows inside p (no_place, false) c o.room in
          (subst (λ (q : Place × Bool). Told q false) here (none p (no_place, false) (omega arith) b) e).alike refl lane l
      alike p lane c l false e = let low = o.low p c e in ap h (low.former_low lane l ∙ sym (low.x_low lane l))

-- ---- joining, place after place
pub record Joining (inside : List Bool) (before rows : List Place) (k : ℕ) : Type 0 where
  pub joined : Joined (row_in before x_row) (row_in before ring_row) (row_in rows former_row) (row_in rows both_row) k
  pub worked : Worked joined_part inside before rows
  pub rest : KeptPast k before rows

pub joining_none : {inside : List Bool} {rows : List Place} → LowOutside inside rows → Joining inside rows rows 0
joining_none o = record {
  joined = record { former = λ p lane b l. absurd (omega arith); handed = λ p lane b l. absurd (omega arith) };
  worked = record { kept = kept_refl _ _; past = kept_past_refl _ _; low = o };
  rest = kept_past_refl _ _;
}

-- a place outside is joined as it is
pub joining_outside : {inside : List Bool} {before rows : List Place} {k : ℕ} → Joining inside before rows k → k < length inside → flagged inside k ≡ false → Joining inside before rows (k + 1)
joining_outside {inside} {before} {rows} {k} j b e =
    let low : LowPlace (place_at rows k) = j.worked.low.low k b e in record {
      joined = record {
        former = λ p lane c l. below_more (λ q. row_in rows former_row lane q ≡ row_in before x_row lane q) k (λ q d. j.joined.former q lane d l)
            (low.former_low lane l ∙ sym (low.x_low lane l) ∙ ap (λ (q : Place). get_or q.x lane 0) (j.worked.kept.same k)) p c;
        handed = λ p lane c l. below_more (λ q. row_in rows both_row lane q ≡ chain_lattice.join (row_in before x_row lane q) (row_in before ring_row lane q)) k (λ q d. j.joined.handed q lane d l)
            (low.both_low lane l ∙ ap₂ chain_lattice.join (sym (low.x_low lane l) ∙ ap (λ (q : Place). get_or q.x lane 0) (j.worked.kept.same k)) (sym (low.ring_low lane l) ∙ ap (λ (q : Place). get_or q.ring lane 0) (j.worked.kept.same k))) p c;
      };
      worked = j.worked;
      rest = record { past = λ p h. j.rest.past p (omega arith) };
    }

-- a place inside has what it had as its former numbers, and a strip of what it hands over
abbrev joined_at : Place → List ℕ → Place
joined_at p strip = record { left = p.left; right = p.right; out = p.out; ring = p.ring; x = p.x; former = p.x; both = strip }

place_joined : {inside : List Bool} {before rows : List Place} {k : ℕ} (strip : List ℕ) → Joining inside before rows k → k < length inside → flagged inside k ≡ true
    → Held lanes (λ lane. chain_lattice.join (get_or (place_at rows k).x lane 0) (get_or (place_at rows k).ring lane 0)) strip
    → Joining inside before (set rows k (joined_at (place_at rows k) strip)) (k + 1)
place_joined {inside} {before} {rows} {k} strip j b e held = record {
  joined = record {
    former = λ p lane c l. below_more (λ q. row_in after former_row lane q ≡ row_in before x_row lane q) k
        (λ q d. ap (λ (r : Place). get_or r.former lane 0) (elsewhere q (λ m. absurd (omega arith))) ∙ j.joined.former q lane d l)
        (ap (λ (r : Place). get_or r.former lane 0) here ∙ ap (λ (r : Place). get_or r.x lane 0) (j.worked.kept.same k)) p c;
    handed = λ p lane c l. below_more (λ q. row_in after both_row lane q ≡ chain_lattice.join (row_in before x_row lane q) (row_in before ring_row lane q)) k
        (λ q d. ap (λ (r : Place). get_or r.both lane 0) (elsewhere q (λ m. absurd (omega arith))) ∙ j.joined.handed q lane d l)
        (ap (λ (r : Place). get_or r.both lane 0) here ∙ held.at lane l
        ∙ ap₂ chain_lattice.join (ap (λ (r : Place). get_or r.x lane 0) (j.worked.kept.same k)) (ap (λ (r : Place). get_or r.ring lane 0) (j.worked.kept.same k))) p c;
  };
  worked = record {
    kept = record { same = λ p. part p (ℕ_discrete p k); long = long ∙ j.worked.kept.long };
    past = record { past = λ p h. elsewhere p (λ m. absurd (omega arith)) ∙ j.worked.past.past p h };
    low = record { room = omega (arith, j.worked.low.room, long); low = λ p c f. low p c f (ℕ_discrete p k) };
  };
  rest = record { past = λ p h. elsewhere p (λ m. absurd (omega arith)) ∙ j.rest.past p (omega arith) };
}
  where
    after : List Place
    after = set rows k (joined_at (place_at rows k) strip)

    long : length after ≡ length rows
    long = length-set rows k (joined_at (place_at rows k) strip)

    here : place_at after k ≡ joined_at (place_at rows k) strip
    here = get_or-set_same rows k (joined_at (place_at rows k) strip) no_place (omega (arith, b, j.worked.low.room))

    elsewhere : (p : ℕ) → (p ≡ k → ⊥) → place_at after p ≡ place_at rows p
    elsewhere p n = get_or-set_other rows k p (joined_at (place_at rows k) strip) no_place n

    part : (p : ℕ) → Dec (p ≡ k) → joined_part (place_at after p) ≡ joined_part (place_at before p)
    part p (yes m) = rw m (ap joined_part here ∙ j.worked.kept.same k)
    part p (no n) = ap joined_part (elsewhere p n) ∙ j.worked.kept.same p

    low : (p : ℕ) → p < length inside → flagged inside p ≡ false → Dec (p ≡ k) → LowPlace (place_at after p)
    low p c f (yes m) = absurd (false≢true (sym f ∙ ap (flagged inside) m ∙ e))
    low p c f (no n) = subst LowPlace (sym (elsewhere p n)) (j.worked.low.low p c f)

-- the same where a loop goes over the first places, and the rest stands after them
module _ {inside : List Bool} {before : List Place} (front rest : List Place) {k : ℕ} (j : Joining inside before (front ++ rest) k) (b : k < length front) (i : k < length inside) where
  pub front_inside : (strip : List ℕ) → flagged inside k ≡ true
      → Held lanes (λ lane. chain_lattice.join (get_or (place_at front k).x lane 0) (get_or (place_at front k).ring lane 0)) strip
      → Joining inside before (set front k (joined_at (place_at front k) strip) ++ rest) (k + 1)
  front_inside strip e held =
      let same : place_at (front ++ rest) k ≡ place_at front k = get_or-append front rest no_place k b in
      let next = place_joined strip j i e (rw same held) in
      rw (sym (set-append_left front rest k (joined_at (place_at front k) strip) b)) (subst (λ p. Joining inside before (set (front ++ rest) k (joined_at p strip)) (k + 1)) same next)

  pub front_outside : flagged inside k ≡ false → Joining inside before (set front k (place_at front k) ++ rest) (k + 1)
  front_outside e = rw (set-get_or front k no_place) (joining_outside j i e)
