-- The roads of a sheet, narrow or wide ("The sheet", requests M-104 and M-106; refusals 4 to 7), and the network that they make.
use Rattle.std.specs.Prelude.{ℕ, zero, suc, ◌+◌, ◌-◌, ◌*◌, ◌<◌, Bool, true, false, cond, ◌&&◌, ◌||◌, List, T, eqb, ltb, length}
use Rattle.words.specs.Word.{bits, payload_of}
use Rattle.network.specs.Distance.{Distance, dist, none}
use Rattle.network.specs.Network.{Network}
use Rattle.checks.specs.Checked.{Checked, accepted, ◌>>=◌, mapped, require, word_at, is_kind}
use Rattle.checks.specs.Heads.{head_words, is_wide}
use Rattle.roads.specs.declared.road.Way.{Way}

-- ---- where a road stands and what its first word says: eight bits for a place in a narrow sheet, twelve in a wide one (M-104)

-- the two words of a road, given how many roads stand before it; after the last the samples begin
abbrev pub road_at : Bool → ℕ → ℕ
road_at wide r = head_words wide + 2 * r

abbrev pub weight_at : Bool → ℕ → ℕ
weight_at wide r = road_at wide r + 1

abbrev pub place_bits : Bool → ℕ
place_bits wide = cond wide 12 8

-- the second place in the lowest bits, the first above it, then spare bits up to bit 25
abbrev pub first_place : Bool → ℕ → ℕ
first_place wide w = bits (place_bits wide) (place_bits wide) w

abbrev pub second_place : Bool → ℕ → ℕ
second_place wide w = bits 0 (place_bits wide) w

abbrev pub spare_bits : Bool → ℕ → ℕ
spare_bits wide w = bits (2 * place_bits wide) (26 - 2 * place_bits wide) w

-- which ways a road runs (M-106): bit 27 lets it run only forth, from its first place to its second, and bit 26 only back; neither means both ways
abbrev pub runs_forth : ℕ → Bool
runs_forth w = eqb (bits 26 1 w) 0

abbrev pub runs_back : ℕ → Bool
runs_back w = eqb (bits 27 1 w) 0

-- no spare bit, and not both of bits 27 and 26
abbrev pub bits_fit : Bool → ℕ → Bool
bits_fit wide w = eqb (spare_bits wide w) 0 && (runs_forth w || runs_back w)

-- the two ways of a road, and whether it runs so (M-106)
abbrev pub way_forth : Bool → ℕ → Way
way_forth wide w = record { from = first_place wide w; to = second_place wide w; runs = runs_forth w }

abbrev pub way_back : Bool → ℕ → Way
way_back wide w = record { from = second_place wide w; to = first_place wide w; runs = runs_back w }

-- a way leads from a to b
abbrev pub leads_by : Way → ℕ → ℕ → Bool
leads_by way a b = way.runs && (eqb way.from a && eqb way.to b)

-- both places as one number: the order of such numbers is that of the pairs
abbrev pub place_pair : Bool → ℕ → ℕ
place_pair wide w = bits 0 (2 * place_bits wide) w

module _ (s : List ℕ) where
  -- the road at an index, after one with the pair `last` (0 before the first): its pair
  unfoldable pub road_checked : ℕ → ℕ → ℕ → Checked ℕ
  road_checked n at last =
      let w : ℕ = word_at s at in
      let wide : Bool = is_wide s in
      require (bits_fit wide w) 4 at
      (require (ltb (first_place wide w) (second_place wide w) && ltb (second_place wide w) n) 5 at
      (require (ltb last (place_pair wide w)) 6 at
      (require (is_kind 3 s (at + 1) && ltb 0 (payload_of (word_at s (at + 1)))) 7 (at + 1)
      (accepted (place_pair wide w)))))

  -- how many roads there are, r of them read: the first word that is not of kind 2 ends them. `words` bounds the roads that may come.
  unfoldable pub roads_from : ℕ → ℕ → ℕ → ℕ → Checked ℕ
  roads_from n zero r last = accepted r
  roads_from n (suc words) r last = elim (is_kind 2 s (road_at (is_wide s) r)) [
    | true ↦ road_checked n (road_at (is_wide s) r) last >>= λ pair. roads_from n words (suc r) pair
    | false ↦ accepted r
  ]

  -- all of them among n places: the index after them
  abbrev pub roads_checked : ℕ → Checked ℕ
  roads_checked n = mapped (road_at (is_wide s)) (roads_from n (length s) 0 0)

  -- the ends and the weight of a road
  abbrev pub first_of : ℕ → ℕ
  first_of r = first_place (is_wide s) (word_at s (road_at (is_wide s) r))

  abbrev pub second_of : ℕ → ℕ
  second_of r = second_place (is_wide s) (word_at s (road_at (is_wide s) r))

  abbrev pub weight_of : ℕ → ℕ
  weight_of r = payload_of (word_at s (weight_at (is_wide s) r))

  -- its two ways
  abbrev pub forth_of : ℕ → Way
  forth_of r = way_forth (is_wide s) (word_at s (road_at (is_wide s) r))

  abbrev pub back_of : ℕ → Way
  back_of r = way_back (is_wide s) (word_at s (road_at (is_wide s) r))

  -- what the distances need of a road that passed
  pub record GoodRoad (n r : ℕ) : Type 0 where
    pub road : T (is_kind 2 s (road_at (is_wide s) r))
    pub weight : T (is_kind 3 s (weight_at (is_wide s) r))
    pub order : first_of r < second_of r
    pub inside : second_of r < n

  -- each of the first roads is such a one
  abbrev pub GoodRoads : ℕ → ℕ → Type 0
  GoodRoads n roads = (r : ℕ) → r < roads → GoodRoad n r

  -- road r leads from a to b: forth, or back (M-106)
  unfoldable pub leads : ℕ → ℕ → ℕ → Bool
  leads r a b = leads_by (forth_of r) a b || leads_by (back_of r) a b

  -- the weight of the road that leads from a to b among the first r roads
  unfoldable pub weight_among : ℕ → ℕ → ℕ → Distance
  weight_among zero a b = none
  weight_among (suc r) a b = elim (leads r a b) [ true ↦ dist (weight_of r) | false ↦ weight_among r a b ]

  -- the network of so many places and roads
  abbrev pub network_of : ℕ → ℕ → Network
  network_of places roads = record { places = places; weight = weight_among roads }
