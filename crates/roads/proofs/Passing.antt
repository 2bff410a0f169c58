-- The roads one by one: what the loop over them knows, what one more adds, and what ends them.
use Prim.Native.Nat.{ℕ, zero, suc, ◌+◌, ◌-◌, ◌<◌}
use mathlib.Core.Bool.{true, false, ◌&&◌}
use mathlib.Core.List.{List}
use mathlib.Core.Path.{◌≡◌, refl, sym, ◌∙◌, ap}
use native.Mathlib.Omega.{arith}
use lib.Dec.{ltb}
use lib.ListN.{length}
use Rattle.words.specs.Word.{payload_of}
use Rattle.checks.specs.Checked.{accepted, refused, ◌>>=◌, mapped, word_at, is_kind}
use Rattle.checks.specs.Heads.{head_words, is_wide}
use Rattle.roads.specs.Roads.{road_at, first_place, second_place, bits_fit, place_pair, road_checked, roads_from, roads_checked}
use Rattle.checks.proofs.Checks.{require_accepted}
use Rattle.checks.proofs.Tests.{and_true, kind_told}

-- a road that passes has both its words
pub road_there : (s : List ℕ) (n at last : ℕ) {pair : ℕ} → road_checked s n at last ≡ accepted pair → at + 1 < length s
unfolding road_checked
road_there s n at last e =
    let w = word_at s at in
    let wide = is_wide s in
    let fit = require_accepted (bits_fit wide w) 4 at _ e in
    let places = require_accepted (ltb (first_place wide w) (second_place wide w) && ltb (second_place wide w) n) 5 at _ fit.1 in
    let order = require_accepted (ltb last (place_pair wide w)) 6 at _ places.1 in
    let weight = require_accepted (is_kind 3 s (at + 1) && ltb 0 (payload_of (word_at s (at + 1)))) 7 (at + 1) _ order.1 in
    (kind_told 3 s (at + 1) (and_true (is_kind 3 s (at + 1)) (ltb 0 (payload_of (word_at s (at + 1)))) weight.0).0).0

pub roads_end : (s : List ℕ) (n room r last : ℕ) → is_kind 2 s (road_at (is_wide s) r) ≡ false → roads_from s n room r last ≡ accepted r
unfolding roads_from
roads_end s n zero r last other = refl
roads_end s n (suc room) r last other = rw (other, roads_from)

pub road_more : (s : List ℕ) (n room r last : ℕ) → is_kind 2 s (road_at (is_wide s) r) ≡ true
    → roads_from s n (suc room) r last ≡ (road_checked s n (road_at (is_wide s) r) last >>= λ pair. roads_from s n room (suc r) pair)
unfolding roads_from
road_more s n room r last kind_2 = rw (kind_2, roads_from)

-- the loop over the roads: how many were passed, and that what is left decides the whole
pub record Roads (s : List ℕ) (n at last : ℕ) : Type 0 where
  pub passed : ℕ
  pub place : at ≡ road_at (is_wide s) passed
  pub rest : roads_from s n (length s) 0 0 ≡ roads_from s n (length s - passed) passed last

pub roads_start : (s : List ℕ) (n : ℕ) → Roads s n (head_words (is_wide s)) 0
roads_start s n =
    let none : length s ≡ length s - 0 = omega arith in
    record { passed = 0; place = omega arith; rest = ap (λ (m : ℕ). roads_from s n m 0 0) none }

module _ (s : List ℕ) (n : ℕ) {at last : ℕ} (so_far : Roads s n at last) where
  pub roads_done : is_kind 2 s at ≡ false → accepted at ≡ roads_checked s n
  roads_done other =
      let r = so_far.passed in
      let all = so_far.rest ∙ roads_end s n (length s - r) r last (rw so_far.place at other) in
      ap accepted so_far.place ∙ ap (mapped (road_at (is_wide s))) (sym all)

  module _ (kind_2 : is_kind 2 s at ≡ true) where
    one_more : roads_from s n (length s) 0 0
        ≡ (road_checked s n at last >>= λ pair. roads_from s n (length s - suc so_far.passed) (suc so_far.passed) pair)
    one_more =
        let r = so_far.passed in
        let place = so_far.place in
        let there = kind_told 2 s at kind_2 in
        let room : length s - r ≡ suc (length s - suc r) = omega arith in
        so_far.rest ∙ ap (λ (m : ℕ). roads_from s n m r last) room
        ∙ rw so_far.place (road_more s n (length s - suc r) r last (rw so_far.place at kind_2))

    pub road_refused : {number place : ℕ} → road_checked s n at last ≡ refused number place
        → roads_checked s n ≡ refused number place
    road_refused {number} {place} e =
        let whole : roads_from s n (length s) 0 0 ≡ refused number place = one_more ∙ simp e in
        ap (mapped (road_at (is_wide s))) whole

    pub road_passed : {pair : ℕ} → road_checked s n at last ≡ accepted pair → Roads s n (at + 2) pair
    road_passed e =
        let place = so_far.place in
        record { passed = suc so_far.passed; place = omega arith; rest = one_more ∙ simp e }
