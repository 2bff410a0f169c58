-- For inner contracts alone: the distance table while it is computed within itself by relaxation. It follows the recursion of `distance`, one
-- more place let in at a time.
use Rattle.std.specs.Prelude.{◌≡◌, ℕ, suc, ◌+◌, ◌-◌, ◌*◌, ◌^◌, min, cond, List, ltb, get_or, set}
use Rattle.words.specs.Rows.{rows}
use Rattle.network.specs.Distance.{Distance, distance}
use Rattle.roads.specs.declared.road.Way.{Way}
use Rattle.roads.specs.Roads.{weight_among}
use Rattle.distances.specs.Distances.{distance_number, numbers_in, room_in}

-- bytes for just the distances of n places
abbrev pub IsTable : ℕ → List ℕ → Type 0
IsTable n table = room_in table ≡ n * n

-- the largest number of 64 bits stands for none and for whatever is too large
unfoldable pub saturated : Distance → ℕ
saturated d = min (distance_number d) (2 ^ 64 - 1)

module _ (weight : ℕ → ℕ → Distance) (n : ℕ) where
  -- the table of n places where paths pass only through places below k
  unfoldable pub stage : ℕ → List ℕ
  stage k = rows (λ a b. saturated (distance weight k a b)) n n

  -- the same while entries are relaxed by way of place k, one by one: those with an index below m are done
  unfoldable pub relaxing : ℕ → ℕ → List ℕ
  relaxing k m = rows (λ a b. saturated (cond (ltb (a * n + b) m) (distance weight (suc k) a b) (distance weight k a b))) n n

-- the table of the first roads of a sheet, where paths pass through no place
abbrev pub roads_put : List ℕ → ℕ → ℕ → List ℕ
roads_put s n roads = stage (weight_among s roads) n 0

-- the weight of a road put into a table of n places one way, if the road runs so
abbrev pub way_put : ℕ → Way → ℕ → List ℕ → List ℕ
way_put n way weight t = cond way.runs (set t (way.from * n + way.to) weight) t

-- one number of a table relaxed: x plus another number takes its place where that is less
abbrev pub relaxed : ℕ → ℕ → ℕ → List ℕ → List ℕ
relaxed x from to t = set t to (min (get_or t to 0) (x + get_or t from 0))

-- whatever the weights are, the bytes of a table that was at one stage are those of another
abbrev pub Advances : ((ℕ → ℕ → Distance) → List ℕ) → ((ℕ → ℕ → Distance) → List ℕ) → List ℕ → List ℕ → Type 0
Advances from to before after = (weight : ℕ → ℕ → Distance) → numbers_in before ≡ from weight → numbers_in after ≡ to weight

-- k is let in for the row of a; places from `from` on and below `to` are let in for all rows
abbrev pub RowRelaxed : ℕ → ℕ → ℕ → List ℕ → List ℕ → Type 0
RowRelaxed n k a = Advances (λ weight. relaxing weight n k (a * n)) (λ weight. relaxing weight n k (a * n + n))

abbrev pub LetIn : ℕ → ℕ → ℕ → List ℕ → List ℕ → Type 0
LetIn n from to = Advances (λ weight. stage weight n from) (λ weight. stage weight n to)
