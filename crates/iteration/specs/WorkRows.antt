-- What an iteration keeps: outside a ball the strips that it works in are lowest, and those of the operands stay as they are. These are for contracts inside
-- the engine: no promise to a host speaks of them.
use Rattle.std.specs.Prelude.{◌≡◌, Bool, false, List, [], ℕ, ◌<◌, length, get_or}
use Rattle.lanes.specs.declared.Place.{Place}
use Rattle.lanes.specs.Lanes.{lanes, Row, place_at}
use Rattle.lanes.specs.Rows.{Room, Kept, KeptPast, flagged}

-- what is kept of a place by a join, which writes what it had and what it hands over; by a round, which writes x too; and by all that works on it
abbrev pub joined_part : Place → Place
joined_part p = record { left = p.left; right = p.right; out = p.out; ring = p.ring; x = p.x; former = []; both = [] }

abbrev pub stepped_part : Place → Place
stepped_part p = record { left = p.left; right = p.right; out = p.out; ring = p.ring; x = []; former = []; both = [] }

abbrev pub operands : Place → Place
operands p = record { left = p.left; right = p.right; out = p.out; ring = []; x = []; former = []; both = [] }

-- all rows but one are kept
abbrev pub KeptBut : Row → List Place → List Place → Type 0
KeptBut row = Kept row.others

-- the strips of a place to work in are lowest
pub record LowPlace (p : Place) : Type 0 where
  pub ring_low : (lane : ℕ) → lane < lanes → get_or p.ring lane 0 ≡ 0
  pub x_low : (lane : ℕ) → lane < lanes → get_or p.x lane 0 ≡ 0
  pub former_low : (lane : ℕ) → lane < lanes → get_or p.former lane 0 ≡ 0
  pub both_low : (lane : ℕ) → lane < lanes → get_or p.both lane 0 ≡ 0

-- the places that the flags are of are there, and those without a flag are lowest
pub record LowOutside (inside : List Bool) (rows : List Place) : Type 0 where
  pub room : Room (length inside) rows
  pub low : (place : ℕ) → place < length inside → flagged inside place ≡ false → LowPlace (place_at rows place)

-- a part of every place is kept, and what stands past the places that the flags are of; outside they are lowest
pub record Worked (part : Place → Place) (inside : List Bool) (before after : List Place) : Type 0 where
  pub kept : Kept part before after
  pub past : KeptPast (length inside) before after
  pub low : LowOutside inside after

-- the strips to work in have become lowest at a place, and at the first k places
pub record PlaceCleared (before after : Place) : Type 0 where
  pub low : LowPlace after
  pub kept : operands after ≡ operands before

pub record Cleared (k : ℕ) (before after : List Place) : Type 0 where
  pub low : (place : ℕ) → place < k → LowPlace (place_at after place)
  pub kept : Kept operands before after
  pub past : KeptPast k before after
