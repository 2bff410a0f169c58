-- Definition 2.1: a network is its places (the source's locations), numbered from 0, and the weight of the road (edge) that leads from one of them to
-- another; back there may be none (M-106). That a sheet's roads have weights above 0 is said where they are read (roads/specs/Roads.antt).
use Rattle.std.specs.Prelude.{Bool, true, false, not, ◌&&◌, ℕ, eqb}
use Rattle.network.specs.Distance.{Distance, dist, none, in_range, distance}

pub record Network : Type 0 where
  pub places : ℕ
  pub weight : ℕ → ℕ → Distance

abbrev pub is_road : Distance → Bool
is_road (dist x) = true
is_road none = false

-- a road leads from a to b
unfoldable pub joined : Network → ℕ → ℕ → Bool
joined N a b = is_road (N.weight a b)

unfoldable pub distance_in : Network → ℕ → ℕ → Distance
distance_in N a b = distance N.weight N.places a b

-- the range after Remark 2.3: place k lies within lower..upper of the centre
unfoldable pub within : Network → ℕ → ℕ → ℕ → ℕ → Bool
within N centre lower upper k = in_range lower upper (distance_in N centre k)

-- place k has a distance from the centre
unfoldable pub reached : Network → ℕ → ℕ → Bool
reached N centre k = is_road (distance_in N centre k)

-- .. and is another place (M-101)
unfoldable pub other : Network → ℕ → ℕ → Bool
other N centre k = reached N centre k && not (eqb k centre)
