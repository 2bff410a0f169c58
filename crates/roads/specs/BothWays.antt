-- Roads as document 01 and request M-104 have them, before request M-106: bits 27 and 26 are spare as those below them are, and every road runs both ways. It is said
-- for one theorem, that sheets without these bits keep every answer.
use Rattle.std.specs.Prelude.{ℕ, zero, suc, ◌-◌, ◌*◌, ◌≡◌, Bool, true, false, ◌&&◌, ◌||◌, List, eqb}
use Rattle.words.specs.Word.{bits, kind_of}
use Rattle.network.specs.Distance.{Distance, dist, none}
use Rattle.network.specs.Network.{Network}
use Rattle.checks.specs.Checked.{Checked, accepted, ◌>>=◌, require, word_at, is_kind}
use Rattle.checks.specs.Heads.{is_wide}
use Rattle.roads.specs.Roads.{road_at, place_bits, first_of, second_of, weight_of, road_checked}

-- bits 27 to 2p of a road's first word
abbrev pub above_bits : Bool → ℕ → ℕ
above_bits wide w = bits (2 * place_bits wide) (28 - 2 * place_bits wide) w

module _ (s : List ℕ) where
  -- no first word of a road has bit 27 or 26; no other word of an accepted sheet is of kind 2
  abbrev pub NoneOneWay : Type 0
  NoneOneWay = (i : ℕ) → kind_of (word_at s i) ≡ 2 → bits 26 2 (word_at s i) ≡ 0

  -- 4 is told of any of these bits; where they are zero, what is asked of the places and of the weight is as now
  abbrev pub road_before : ℕ → ℕ → ℕ → Checked ℕ
  road_before n at last = require (eqb (above_bits (is_wide s) (word_at s at)) 0) 4 at (road_checked s n at last)

  unfoldable pub roads_before : ℕ → ℕ → ℕ → ℕ → Checked ℕ
  roads_before n zero r last = accepted r
  roads_before n (suc words) r last = elim (is_kind 2 s (road_at (is_wide s) r)) [
    | true ↦ road_before n (road_at (is_wide s) r) last >>= λ pair. roads_before n words (suc r) pair
    | false ↦ accepted r
  ]

  -- road r joins a and b
  abbrev pub joins : ℕ → ℕ → ℕ → Bool
  joins r a b = eqb (first_of s r) a && eqb (second_of s r) b || eqb (first_of s r) b && eqb (second_of s r) a

  unfoldable pub weight_before : ℕ → ℕ → ℕ → Distance
  weight_before zero a b = none
  weight_before (suc r) a b = elim (joins r a b) [ true ↦ dist (weight_of s r) | false ↦ weight_before r a b ]

  abbrev pub network_before : ℕ → ℕ → Network
  network_before places roads = record { places = places; weight = weight_before roads }
