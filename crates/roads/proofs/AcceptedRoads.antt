-- What the roads that passed are: words of kinds 2 and 3, a first place below the second and that below n, a weight above 0.
use mathlib.Core.Path.{◌≡◌, refl, ap, subst}
use mathlib.Core.Logic.{⊎_elim}
use mathlib.Core.Bool.{Bool, true, false, ◌&&◌}
use mathlib.Core.List.{List}
use Prim.Native.Nat.{ℕ, zero, suc, ◌+◌, ◌<◌, ◌≤◌, ◌^◌}
use native.Mathlib.Nat.{eq-or-lt_of_le, le_of_lt}
use native.Mathlib.Omega.{arith}
use lib.Dec.{T, eqb, ltb, eqb→eq, ltb→lt, lt→ltb}
use Rattle.words.specs.Word.{payload_of}
use Rattle.counting.proofs.Tests.{holds, and_i, and_l, and_r}
use Rattle.checks.specs.Checked.{Checked, accepted, ◌>>=◌, word_at, is_kind}
use Rattle.checks.proofs.Checks.{require_e, bind_accepted, same_accepted}
use Rattle.checks.specs.Heads.{is_wide}
use Rattle.roads.specs.Roads.{GoodRoad, road_at, weight_at, first_place, second_place, spare_bits, bits_fit, place_pair, road_checked, roads_from}

pair_few : (wide : Bool) (w : ℕ) → place_pair wide w < 2 ^ 24
pair_few true w = omega arith
pair_few false w = omega arith

module _ (s : List ℕ) (n : ℕ) where
  abbrev at : ℕ → ℕ
  at r = road_at (is_wide s) r

  abbrev after : ℕ → ℕ
  after r = weight_at (is_wide s) r

  -- what the check of a road tells where it passes
  pub record Passed (index last pair : ℕ) : Type 0 where
    pub fit : T (bits_fit (is_wide s) (word_at s index))
    pub order : first_place (is_wide s) (word_at s index) < second_place (is_wide s) (word_at s index)
    pub inside : second_place (is_wide s) (word_at s index) < n
    pub later : T (ltb last (place_pair (is_wide s) (word_at s index)))
    pub weight : T (is_kind 3 s (index + 1) && ltb 0 (payload_of (word_at s (index + 1))))
    pub pair_of : place_pair (is_wide s) (word_at s index) ≡ pair

  pub spare_zero : {index last pair : ℕ} → Passed index last pair → spare_bits (is_wide s) (word_at s index) ≡ 0
  spare_zero {index} p = eqb→eq _ 0 (and_l (eqb (spare_bits (is_wide s) (word_at s index)) 0) _ p.fit)

  module _ (index last pair : ℕ) where
    abbrev ordered : Bool
    ordered = ltb (first_place (is_wide s) (word_at s index)) (second_place (is_wide s) (word_at s index))

    abbrev among : Bool
    among = ltb (second_place (is_wide s) (word_at s index)) n

    abbrev weighed : Bool
    weighed = is_kind 3 s (index + 1) && ltb 0 (payload_of (word_at s (index + 1)))

    pub road_passed : road_checked s n index last ≡ accepted pair → Passed index last pair
    unfolding road_checked
    road_passed e =
        let w : ℕ = word_at s index in
        let (fit, e₁) = require_e (bits_fit (is_wide s) w) 4 index _ pair e in
        let (ends, e₂) = require_e (ordered && among) 5 index _ pair e₁ in
        let (later, e₃) = require_e (ltb last (place_pair (is_wide s) w)) 6 index _ pair e₂ in
        let (weight, e₄) = require_e weighed 7 (index + 1) _ pair e₃ in
        record {
          fit = fit;
          order = ltb→lt _ _ (and_l ordered _ ends);
          inside = ltb→lt _ _ (and_r ordered _ ends);
          later = later;
          weight = weight;
          pair_of = same_accepted e₄;
        }

    -- and with all that it passes
    pub road_passes : Passed index last pair → road_checked s n index last ≡ accepted pair
    unfolding road_checked
    road_passes p =
        let ends = holds (ordered && among) (and_i ordered among (lt→ltb _ _ p.order) (lt→ltb _ _ p.inside)) in
        let later = holds (ltb last (place_pair (is_wide s) (word_at s index))) p.later in
        simp (holds (bits_fit (is_wide s) (word_at s index)) p.fit, ends, later, holds weighed p.weight) (ap accepted p.pair_of)

  -- what every road has that passed, whatever stands before it
  pub each_road : (P : ℕ → Type 0) → ((r last pair : ℕ) → T (is_kind 2 s (at r)) → Passed (at r) last pair → P r)
      → (words r last roads : ℕ) → roads_from s n words r last ≡ accepted roads → (q : ℕ) → r ≤ q → q < roads → P q
  unfolding roads_from
  each_road P told zero r last roads e q h k = absurd (let same = same_accepted e in omega arith)
  each_road P told (suc words) r last roads e q h k = go (is_kind 2 s (at r)) refl (λ pair. each_road P told words (suc r) pair roads) e
    where
      go : (t : Bool) → is_kind 2 s (at r) ≡ t
          → ((pair : ℕ) → roads_from s n words (suc r) pair ≡ accepted roads → (q : ℕ) → suc r ≤ q → q < roads → P q)
          → ◌≡◌ {A = Checked ℕ} (elim t as (λ _. Checked ℕ) [
            | true ↦ road_checked s n (at r) last >>= λ pair. roads_from s n words (suc r) pair
            | false ↦ accepted r
          ]) (accepted roads)
          → P q
      go true is later e =
          let (pair, passed, rest) = bind_accepted (road_checked s n (at r) last) _ e in
          ⊎_elim (λ same. subst P same (told r last pair (rw is tt) (road_passed (at r) last pair passed))) (λ l. later pair rest q l k) (eq-or-lt_of_le h)
      go false is later e = absurd (let same = same_accepted e in omega arith)

  -- there are at least as many as were read before
  pub roads_least : (words r last roads : ℕ) → roads_from s n words r last ≡ accepted roads → r ≤ roads
  unfolding roads_from
  roads_least zero r last roads e = let same = same_accepted e in omega arith
  roads_least (suc words) r last roads e = go (is_kind 2 s (at r)) (λ pair. roads_least words (suc r) pair roads) e
    where
      go : (t : Bool) → ((pair : ℕ) → roads_from s n words (suc r) pair ≡ accepted roads → suc r ≤ roads)
          → ◌≡◌ {A = Checked ℕ} (elim t as (λ _. Checked ℕ) [
            | true ↦ road_checked s n (at r) last >>= λ pair. roads_from s n words (suc r) pair
            | false ↦ accepted r
          ]) (accepted roads)
          → r ≤ roads
      go true onward e = let (pair, passed, rest) = bind_accepted (road_checked s n (at r) last) _ e in le_of_lt (onward pair rest)
      go false onward e = let same = same_accepted e in omega arith

  -- and no more than there are pairs, since these rise
  roads_few : (words r last roads : ℕ) → r ≤ last → last < 2 ^ 24 → roads_from s n words r last ≡ accepted roads → roads < 2 ^ 24
  unfolding roads_from
  roads_few zero r last roads h k e = let same = same_accepted e in omega arith
  roads_few (suc words) r last roads h k e = go (is_kind 2 s (at r)) (λ pair. roads_few words (suc r) pair roads) e
    where
      go : (t : Bool) → ((pair : ℕ) → suc r ≤ pair → pair < 2 ^ 24 → roads_from s n words (suc r) pair ≡ accepted roads → roads < 2 ^ 24)
          → ◌≡◌ {A = Checked ℕ} (elim t as (λ _. Checked ℕ) [
            | true ↦ road_checked s n (at r) last >>= λ pair. roads_from s n words (suc r) pair
            | false ↦ accepted r
          ]) (accepted roads)
          → roads < 2 ^ 24
      go true onward e =
          let (pair, checks, rest) = bind_accepted (road_checked s n (at r) last) _ e in
          let passed = road_passed (at r) last pair checks in
          onward pair (omega (arith, ltb→lt last (place_pair (is_wide s) (word_at s (at r))) passed.later, passed.pair_of)) (omega (arith, pair_few (is_wide s) (word_at s (at r)), passed.pair_of)) rest
      go false onward e = let same = same_accepted e in omega arith

  pub few_roads : (words roads : ℕ) → roads_from s n words 0 0 ≡ accepted roads → roads < 2 ^ 24
  few_roads words roads = roads_few words 0 0 roads (omega arith) (omega arith)

  pub road_good : (words r last roads : ℕ) → roads_from s n words r last ≡ accepted roads → (q : ℕ) → r ≤ q → q < roads → GoodRoad s n q
  road_good = each_road (GoodRoad s n) (λ r last pair kind_2 passed.
      record { road = kind_2; weight = and_l (is_kind 3 s (after r)) _ passed.weight; order = passed.order; inside = passed.inside })
