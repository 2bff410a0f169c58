-- What the functions of the iteration leave, of the places and the bytes that a call is lent: their rows as they were, and as they have become. These are
-- for contracts inside the engine: no promise to a host speaks of them.
use Rattle.std.specs.Prelude.{Bool, List, ℕ, length}
use Rattle.words.specs.Bytes.{words_of}
use Rattle.roads.specs.declared.road.SheetRoads.{SheetRoads}
use Rattle.lanes.specs.declared.Place.{Place}
use Rattle.lanes.specs.Lanes.{ring_row, x_row, former_row, both_row, row_in}
use Rattle.iteration.specs.WorkRows.{LowOutside}
use Rattle.iteration.specs.Steps.{joined_by, RoadsIn, Bounded, Joined, Stepped, Round, Settled}

-- rows of the places that the flags are of
module _ (rows : List Place) (inside : List Bool) where
  -- what the places have is kept as their former numbers, and joined with the ring
  abbrev pub JoinedIn : List Place → Type 0
  JoinedIn after = Joined (row_in rows x_row) (row_in rows ring_row) (row_in after former_row) (row_in after both_row) (length inside)

  -- on the roads of a sheet: they have made one step, and have come to rest after r rounds
  module _ (network : SheetRoads) where
    -- a round can be made: the roads are there, and no number is above the highest
    abbrev pub RoundReadyIn : Type 0
    RoundReadyIn = RoadsIn (words_of network.sheet.now) network.roads (length inside) × Bounded (row_in rows x_row) (length inside) × LowOutside inside rows

    abbrev pub RoundIn : List Place → Type 0
    RoundIn after = Round (words_of network.sheet.now) network.roads (length inside) (row_in rows ring_row) (row_in rows x_row) (row_in after x_row)

    abbrev pub SettledIn : List Place → ℕ → Type 0
    SettledIn after r = Settled (words_of network.sheet.now) network.roads (length inside) (row_in rows ring_row) (row_in rows x_row) r (row_in after x_row)

-- along the roads of a sheet, each place has taken over what is handed to it
abbrev pub SteppedIn : List Place → SheetRoads → List Place → Type 0
SteppedIn rows network after = Stepped (joined_by (words_of network.sheet.now) network.roads) (row_in rows both_row) (row_in rows x_row) (row_in after x_row)
