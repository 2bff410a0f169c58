-- What a round does to numbers by lane and place: `both` holds what each place hands to its neighbours, and a pull takes it over where it is less. These are
-- for contracts inside the engine: no promise to a host speaks of them.
use Rattle.std.specs.Prelude.{◌≡◌, Bool, true, false, cond, List, ℕ, suc, ◌<◌, ◌≤◌, T, length}
use Rattle.network.specs.Network.{is_road}
use Rattle.logic.specs.Lattice.{least_over}
use Rattle.logic.specs.Iteration.{iterate, rounds}
use Rattle.counting.specs.Totals.{most_below}
use Rattle.checks.specs.Limits.{most_places}
use Rattle.checks.specs.Heads.{is_wide}
use Rattle.roads.specs.declared.road.Way.{Way}
use Rattle.roads.specs.Roads.{road_at, first_of, second_of, weight_among}
use Rattle.values.specs.Chain.{chain_lattice, chain_margin, highest, Valid}
use Rattle.lanes.specs.declared.Place.{Place}
use Rattle.lanes.specs.Lanes.{lanes, ring_row, x_row, Numbers, row_in}
use Rattle.iteration.specs.WorkRows.{LowOutside}

-- one of the first roads of a sheet leads from a to b
unfoldable pub joined_by : List ℕ → ℕ → ℕ → ℕ → Bool
joined_by sheet roads a b = is_road (weight_among sheet roads a b)

-- the words of the roads are there, and each road joins two of the n places
pub record RoadsIn (sheet : List ℕ) (roads n : ℕ) : Type 0 where
  pub there : (r : ℕ) → r < roads → road_at (is_wide sheet) r < length sheet
  pub order : (r : ℕ) → r < roads → first_of sheet r < second_of sheet r
  pub inside : (r : ℕ) → r < roads → second_of sheet r < n

-- the numbers of n places, none above the highest
pub record Bounded (row : Numbers) (n : ℕ) : Type 0 where
  pub bound : (place lane : ℕ) → place < n → lane < lanes → row lane place ≤ highest

-- the numbers of n places, all of them numbers that can arise
pub record ValidRow (row : Numbers) (n : ℕ) : Type 0 where
  pub valid : (place lane : ℕ) → place < n → lane < lanes → Valid (row lane place)

-- what an iteration starts from: roads, and rows of numbers that can arise
pub record Start (sheet : List ℕ) (roads : ℕ) (inside : List Bool) (rows : List Place) : Type 0 where
  pub few_places : length inside ≤ most_places
  pub roads_in : RoadsIn sheet roads (length inside)
  pub valid : ValidRow (row_in rows x_row) (length inside)
  pub ring_valid : ValidRow (row_in rows ring_row) (length inside)
  pub low : LowOutside inside rows

-- old is x, and both the greater of x and right
pub record Joined (x right old both : Numbers) (n : ℕ) : Type 0 where
  pub former : (place lane : ℕ) → place < n → lane < lanes → old lane place ≡ x lane place
  pub handed : (place lane : ℕ) → place < n → lane < lanes → both lane place ≡ chain_lattice.join (x lane place) (right lane place)

-- the place from which a way leads has taken over from the one to which it leads, if the road runs so
pub record Pulled (way : Way) (both before after : Numbers) : Type 0 where
  pub taken : (lane : ℕ) → lane < lanes → after lane way.from
      ≡ cond way.runs (chain_lattice.meet (before lane way.from) (both lane way.to)) (before lane way.from)
  pub other : (place lane : ℕ) → lane < lanes → (place ≡ way.from → ⊥) → after lane place ≡ before lane place

-- y is the least of x and of f where the test passes
pub record LeastOf (y x : ℕ) (test : ℕ → Bool) (f : ℕ → ℕ) : Type 0 where
  pub below : y ≤ x
  pub under : (p : ℕ) → T (test p) → y ≤ f p
  pub greatest : (z : ℕ) → z ≤ x → ((p : ℕ) → T (test p) → z ≤ f p) → z ≤ y

-- each place has taken over from those that it is joined to
pub record Stepped (joined : ℕ → ℕ → Bool) (both before after : Numbers) : Type 0 where
  pub least : (place lane : ℕ) → lane < lanes → LeastOf (after lane place) (before lane place) (joined place) (both lane)

-- one step of Definition 4.4 in every lane
pub record Round (sheet : List ℕ) (roads n : ℕ) (right before after : Numbers) : Type 0 where
  pub stepped : (place lane : ℕ) → place < n → lane < lanes → after lane place
      ≡ chain_lattice.meet (before lane place) (least_over chain_lattice (joined_by sheet roads place) (λ k. chain_lattice.join (before lane k) (right lane k)) n)

-- whether a reading h tells two rows apart in one of the lanes of n places
pub record RowsApart (r : Bool) (h : ℕ → ℕ) (a b : Numbers) (n : ℕ) : Type 0 where
  pub alike : r ≡ false → (place lane : ℕ) → place < n → lane < lanes → h (a lane place) ≡ h (b lane place)
  pub apart : r ≡ true → (place : ℕ) × (lane : ℕ) × (place < n) × (lane < lanes) × (h (a lane place) ≡ h (b lane place) → ⊥)

module _ (sheet : List ℕ) (roads n : ℕ) (right x : Numbers) where
  -- Definition 4.4's iteration in one lane: what it has at step i
  abbrev pub step_in : ℕ → ℕ → ℕ → ℕ
  step_in lane = iterate chain_lattice (joined_by sheet roads) n (x lane) (right lane)

  -- the rounds of one lane
  abbrev pub rounds_in : ℕ → ℕ
  rounds_in lane = rounds (joined_by sheet roads) n (λ l. chain_margin (x lane l)) (λ l. chain_margin (right lane l))

  -- every lane has come to rest, and r is the greatest rounds of a lane
  pub record Settled (r : ℕ) (after : Numbers) : Type 0 where
    pub steps : ℕ
    pub reached : (place lane : ℕ) → place < n → lane < lanes → after lane place ≡ step_in lane steps place
    pub rests : (place lane : ℕ) → place < n → lane < lanes → step_in lane (suc steps) place ≡ step_in lane steps place
    pub counted : r ≡ most_below rounds_in lanes
