-- Which places are others with a distance from a centre (M-101), and that distances are measured from it (M-106), pinned where they are defined.
use mathlib.Core.Path.{◌≡◌, refl}
use mathlib.Core.Bool.{true, false, cond, ◌||◌, ◌&&◌}
use Prim.Native.Nat.{◌+◌}
use lib.Dec.{eqb, ltb}
use Rattle.network.specs.Distance.{dist, none, direct, distance}
use Rattle.network.specs.Network.{Network, distance_in, within, reached, other}

-- places 0-1-2 with weights 1, and place 3 without a road
abbrev path : Network
path = record { places = 4; weight = λ a b. cond ((eqb (a + 1) b && ltb b 3) || (eqb (b + 1) a && ltb a 3)) (dist 1) none }

-- about place 0: not itself, 1 and 2 by a path, and not 3
others : (other path 0 0 ≡ false) × (other path 0 1 ≡ true) × (other path 0 2 ≡ true) × (other path 0 3 ≡ false)
unfolding other reached distance_in distance direct
others = (refl, refl, refl, refl)

-- a road of weight 3 that leads from 0 to 1 alone: 1 lies in range of 0 and is reached from it, and not the other way round
abbrev one_way : Network
one_way = record { places = 2; weight = λ a b. cond (eqb a 0 && eqb b 1) (dist 3) none }

from_centre : (within one_way 0 1 9 1 ≡ true) × (within one_way 1 1 9 0 ≡ false) × (other one_way 0 1 ≡ true) × (other one_way 1 0 ≡ false)
unfolding within other reached distance_in distance direct
from_centre = (refl, refl, refl, refl)
