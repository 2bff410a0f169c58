-- Two sheets whose first roads have the same ways and weights make the same network of them, however they are laid out.
use mathlib.Core.Path.{◌≡◌, refl}
use mathlib.Core.Bool.{true, false, ◌||◌}
use mathlib.Core.List.{List}
use Prim.Native.Nat.{ℕ, zero, suc, ◌<◌, ◌≤◌}
use native.Mathlib.Nat.{le_of_lt}
use native.Mathlib.Omega.{arith}
use Rattle.network.specs.Distance.{Distance, dist}
use Rattle.roads.specs.declared.road.Way.{Way}
use Rattle.roads.specs.Roads.{leads_by, forth_of, back_of, weight_of, leads, weight_among, network_of}

-- the weight of a road, given its ways and its weight, where it leads from a to b, else what the roads before it say
abbrev weight_or : Way → Way → ℕ → ℕ → ℕ → Distance → Distance
weight_or forth back weight a b others = elim (leads_by forth a b || leads_by back a b) [ true ↦ dist weight | false ↦ others ]

pub record SameRoad (X Y : List ℕ) (r : ℕ) : Type 0 where
  pub forth : forth_of X r ≡ forth_of Y r
  pub back : back_of X r ≡ back_of Y r
  pub weight : weight_of X r ≡ weight_of Y r

module _ (X Y : List ℕ) (roads : ℕ) (same : (r : ℕ) → r < roads → SameRoad X Y r) where
  weights_same : (r : ℕ) → r ≤ roads → (a b : ℕ) → weight_among X r a b ≡ weight_among Y r a b
  unfolding weight_among leads
  weights_same zero h a b = refl
  weights_same (suc r) h a b =
      let road : SameRoad X Y r = same r h in
      let others = weights_same r (le_of_lt h) a b in
      λ i. weight_or (road.forth i) (road.back i) (road.weight i) a b (others i)

  pub networks_same : (places : ℕ) → network_of X places roads ≡ network_of Y places roads
  networks_same places = λ i. record { places = places; weight = λ a b. weights_same roads (omega arith) a b i }
