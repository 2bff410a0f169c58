-- Roads laid out anew pass the check as those that they were made of did, and as many.
use mathlib.Core.Path.{◌≡◌, refl, sym, ap, subst, ◌∙◌}
use mathlib.Core.Bool.{Bool, true, false}
use mathlib.Core.List.{List}
use Prim.Native.Nat.{ℕ, zero, suc, ◌+◌, ◌<◌, ◌≤◌}
use native.Mathlib.Omega.{arith}
use lib.Dec.{T, eqb, ltb, ltb→lt, lt→ltb}
use lib.ListN.{length}
use Rattle.words.specs.Word.{kind_of, payload_of}
use Rattle.counting.proofs.Tests.{holds, and_i, and_l, and_r}
use Rattle.checks.specs.Checked.{Checked, accepted, ◌>>=◌, word_at, is_kind}
use Rattle.checks.specs.Heads.{most_of, is_wide}
use Rattle.checks.proofs.Checks.{same_accepted, bind_accepted}
use Rattle.roads.specs.Roads.{road_at, weight_at, spare_bits, bits_fit, place_pair, road_checked, roads_from}
use Rattle.roads.proofs.AcceptedRoads.{Passed, road_passed, road_passes, roads_least}
use Rattle.roads.proofs.Passing.{roads_end, road_more}
use Rattle.conversion.specs.Relaid.{laid_out}
use Rattle.conversion.proofs.Road.{SaysSame, says_same, SamePair, pair_of, order_same}

-- the same kind at two indices where the words are alike
kind_kept : (X Y : List ℕ) (k i j : ℕ) → kind_of (word_at Y j) ≡ kind_of (word_at X i) → j < length Y → T (is_kind k X i) → T (is_kind k Y j)
unfolding is_kind
kind_kept X Y k i j e h t = and_i (ltb j (length Y)) (eqb (kind_of (word_at Y j)) k) (lt→ltb j (length Y) h) (rw e (and_r (ltb i (length X)) _ t))

-- the bits fit as well where they fitted
fit_laid : (from to : Bool) (w v : ℕ) → SaysSame from to w v → T (bits_fit from w) → T (bits_fit to v)
fit_laid from to w v same fit = and_i (eqb (spare_bits to v) 0) _ (rw same.spare tt) (rw (same.forth, same.back) (and_r (eqb (spare_bits from w) 0) _ fit))

module _ (X Y : List ℕ) (n roads : ℕ) where
  abbrev from : Bool
  from = is_wide X

  abbrev to : Bool
  to = is_wide Y

  -- what Y has of the roads of X
  pub record RoadsLaid : Type 0 where
    pub few : n ≤ most_of from
    pub few_laid : n ≤ most_of to
    pub some : 0 < n
    pub road : (r : ℕ) → r < roads → word_at Y (road_at to r) ≡ laid_out from to (word_at X (road_at from r))
    pub weight : (r : ℕ) → r < roads → word_at Y (weight_at to r) ≡ word_at X (weight_at from r)
    pub ends : is_kind 2 Y (road_at to roads) ≡ false
    pub there : road_at to roads < length Y

  module _ (laid : RoadsLaid) where
    -- one road, after roads of the same pair
    road_laid : (r last last' pair : ℕ) → r < roads → SamePair n from to last last' → Passed X n (road_at from r) last pair
        → (pair' : ℕ) × (road_checked Y n (road_at to r) last' ≡ accepted pair') × SamePair n from to pair pair'
    road_laid r last last' pair h before passed =
        let w : ℕ = word_at X (road_at from r) in
        let v : ℕ = word_at Y (road_at to r) in
        let same : SaysSame from to w v = subst (SaysSame from to w) (sym (laid.road r h)) (says_same from to w passed.order (omega (arith, passed.inside, laid.few_laid))) in
        let pairs : SamePair n from to (place_pair from w) (place_pair to v) = pair_of n from to w v passed.inside same in
        let weighed : Bool = ltb 0 (payload_of (word_at X (weight_at from r))) in
        let later : last' < place_pair to v =
        order_same n from to laid.few laid.few_laid last (place_pair from w) last' (place_pair to v) before pairs (ltb→lt _ _ passed.later) in (
          place_pair to v,
          road_passes Y n (road_at to r) last' (place_pair to v) (record {
            fit = fit_laid from to w v same passed.fit;
            order = rw (same.first, same.second) passed.order;
            inside = rw same.second passed.inside;
            later = lt→ltb _ _ later;
            weight = and_i (is_kind 3 Y (weight_at to r)) (ltb 0 (payload_of (word_at Y (weight_at to r))))
                (kind_kept X Y 3 (weight_at from r) (weight_at to r) (ap kind_of (laid.weight r h)) (omega (arith, laid.there)) (and_l (is_kind 3 X (weight_at from r)) weighed passed.weight))
                (rw (laid.weight r h) (and_r (is_kind 3 X (weight_at from r)) weighed passed.weight));
            pair_of = refl;
          }),
          rw (← passed.pair_of) pairs,
        )

    -- its kind
    kind_laid : (r last pair : ℕ) → r < roads → T (is_kind 2 X (road_at from r)) → Passed X n (road_at from r) last pair → is_kind 2 Y (road_at to r) ≡ true
    kind_laid r last pair h is passed =
        let w : ℕ = word_at X (road_at from r) in
        let same : SaysSame from to w (laid_out from to w) = says_same from to w passed.order (omega (arith, passed.inside, laid.few_laid)) in
        holds (is_kind 2 Y (road_at to r)) (kind_kept X Y 2 (road_at from r) (road_at to r) (ap kind_of (laid.road r h) ∙ same.kind) (omega (arith, laid.there)) is)

    no_more : (r words' last' : ℕ) → r ≡ roads → roads_from Y n words' r last' ≡ accepted roads
    no_more r words' last' same = roads_end Y n words' r last' (ap (λ k. is_kind 2 Y (road_at to k)) same ∙ laid.ends) ∙ ap accepted same

    more_roads : (words words' r last last' : ℕ) → roads_from X n words r last ≡ accepted roads → SamePair n from to last last' → roads < r + words' → roads_from Y n words' r last' ≡ accepted roads
    unfolding roads_from
    more_roads words zero r last last' e before enough = absurd (omega (arith, roads_least X n words r last roads e))
    more_roads zero (suc words') r last last' e before enough = no_more r (suc words') last' (same_accepted e)
    more_roads (suc words) (suc words') r last last' e before enough = go (is_kind 2 X (road_at from r)) refl (λ pair pair'. more_roads words words' (suc r) pair pair') e
      where
        go : (t : Bool) → is_kind 2 X (road_at from r) ≡ t
            → ((pair pair' : ℕ) → roads_from X n words (suc r) pair ≡ accepted roads → SamePair n from to pair pair' → roads < suc r + words' → roads_from Y n words' (suc r) pair' ≡ accepted roads)
            → ◌≡◌ {A = Checked ℕ} (elim t as (λ _. Checked ℕ) [
              | true ↦ road_checked X n (road_at from r) last >>= λ pair. roads_from X n words (suc r) pair
              | false ↦ accepted r
            ]) (accepted roads)
            → roads_from Y n (suc words') r last' ≡ accepted roads
        go true is onward e =
            let (pair, checks, rest) = bind_accepted (road_checked X n (road_at from r) last) _ e in
            let passed = road_passed X n (road_at from r) last pair checks in
            let h : r < roads = roads_least X n words (suc r) pair roads rest in
            let (pair', passes, pairs) = road_laid r last last' pair h before passed in
            road_more Y n words' r last' (kind_laid r last pair h (rw is tt) passed) ∙ simp (passes, onward pair pair' rest pairs (omega arith))
        go false is onward e = no_more r (suc words') last' (same_accepted e)

    pub roads_laid : (words words' : ℕ) → roads_from X n words 0 0 ≡ accepted roads → roads < words' → roads_from Y n words' 0 0 ≡ accepted roads
    roads_laid words words' e enough = more_roads words words' 0 0 0 e (record { first = 0; second = 0; inside = laid.some; as_from = omega arith; as_to = omega arith }) (omega arith)
