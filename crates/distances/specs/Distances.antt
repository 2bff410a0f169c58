-- The distances of a sheet's network as the lent table holds them ("Distance").
use Rattle.std.specs.Prelude.{ℕ, ◌+◌, ◌-◌, ◌*◌, ◌<◌, ◌≤◌, ◌^◌, ◌≡◌, cond, eqb, Option, Some, None, List, length, get_or}
use Rattle.words.specs.Bytes.{words_of, numbers_of}
use Rattle.words.specs.Rows.{rows, padded}
use Rattle.network.specs.Distance.{Distance, dist, none}
use Rattle.network.specs.Network.{Network, distance_in}
use Rattle.roads.specs.Roads.{network_of}

-- 2^64 - 1 for none
abbrev pub distance_number : Distance → ℕ
distance_number (dist x) = x
distance_number none = 2 ^ 64 - 1

-- .. and what such a number tells: a distance, or that there is none
abbrev pub distance_told : ℕ → Option ℕ
distance_told x = cond (eqb x (distance_number none)) None (Some x)

-- row by row: a row has the distances from its place (M-106)
unfoldable pub distance_table : Network → List ℕ
distance_table N = rows (λ a b. distance_number (distance_in N a b)) (N.places) (N.places)

-- those of the network that the first roads of a sheet make
abbrev pub distances_along : List ℕ → ℕ → ℕ → List ℕ
distances_along s places roads = distance_table (network_of s places roads)

-- a table has the distances of a network, row by row
pub record Measured (N : Network) (table : List ℕ) : Type 0 where
  pub number : (a b : ℕ) → a < N.places → b < N.places → get_or table (a * N.places + b) 0 ≡ distance_number (distance_in N a b)

-- ---- the bytes that are lent for a table: their numbers, how many these are, whether they are enough, and what is left in them: the distances and zeros beyond
abbrev pub numbers_in : List ℕ → List ℕ
numbers_in table = numbers_of (words_of table)

abbrev pub room_in : List ℕ → ℕ
room_in table = length (numbers_in table)

abbrev pub HasRoom : ℕ → List ℕ → Type 0
HasRoom places table = places * places ≤ room_in table

abbrev pub filled_along : List ℕ → ℕ → ℕ → List ℕ → List ℕ
filled_along s places roads table = padded (distances_along s places roads) (room_in table)
