-- Several samples lie side by side in the lanes of a strip, and each place has its strips by name. A row is what all places have in the strips of one name.
-- These are for contracts inside the engine: no promise to a host speaks of them.
use Rattle.std.specs.Prelude.{List, [], ℕ, get_or}
use Rattle.lanes.specs.declared.Place.{Place}
use Rattle.lanes.specs.declared.Row as Code
use Rattle.lanes.specs.declared.Row.TheVariants.{Left, Right, Out, Ring, X, Former, Both}

-- so many samples lie side by side
abbrev pub lanes : ℕ
lanes = 16

-- a place of a list, and what stands for one past its end
abbrev pub no_place : Place
no_place = record { left = []; right = []; out = []; ring = []; x = []; former = []; both = [] }

abbrev pub place_at : List Place → ℕ → Place
place_at places p = get_or places p no_place

-- a row, and what a place has in all others
pub record Row : Type 0 where
  pub strip : Place → List ℕ
  pub others : Place → Place

abbrev pub left_row : Row
left_row = record { strip = λ p. p.left; others = λ p. record { left = []; right = p.right; out = p.out; ring = p.ring; x = p.x; former = p.former; both = p.both } }

abbrev pub right_row : Row
right_row = record { strip = λ p. p.right; others = λ p. record { left = p.left; right = []; out = p.out; ring = p.ring; x = p.x; former = p.former; both = p.both } }

abbrev pub out_row : Row
out_row = record { strip = λ p. p.out; others = λ p. record { left = p.left; right = p.right; out = []; ring = p.ring; x = p.x; former = p.former; both = p.both } }

-- what an iteration works in: the ring about a centre, what its places have, what they had a round before, and what they hand to their neighbours
abbrev pub ring_row : Row
ring_row = record { strip = λ p. p.ring; others = λ p. record { left = p.left; right = p.right; out = p.out; ring = []; x = p.x; former = p.former; both = p.both } }

abbrev pub x_row : Row
x_row = record { strip = λ p. p.x; others = λ p. record { left = p.left; right = p.right; out = p.out; ring = p.ring; x = []; former = p.former; both = p.both } }

abbrev pub former_row : Row
former_row = record { strip = λ p. p.former; others = λ p. record { left = p.left; right = p.right; out = p.out; ring = p.ring; x = p.x; former = []; both = p.both } }

abbrev pub both_row : Row
both_row = record { strip = λ p. p.both; others = λ p. record { left = p.left; right = p.right; out = p.out; ring = p.ring; x = p.x; former = p.former; both = [] } }

-- the row that is named
abbrev pub row_of : Code.Row → Row
row_of Left = left_row
row_of Right = right_row
row_of Out = out_row
row_of Ring = ring_row
row_of X = x_row
row_of Former = former_row
row_of Both = both_row

-- numbers by lane and place, and those of a row
abbrev pub Numbers : Type 0
Numbers = ℕ → ℕ → ℕ

abbrev pub row_in : List Place → Row → Numbers
row_in places row lane place = get_or (row.strip (place_at places place)) lane 0
