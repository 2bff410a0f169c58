-- The limits of a sheet and of the distance table that is lent for it ("The sheet"; refusals 1, 3 and 10; for wide sheets request M-104). How many bytes a
-- program or a host may lend (refusal 16) stands elsewhere.
use Rattle.std.specs.Prelude.{ℕ}

-- the most places of any sheet, which only wide ones have, and those of a narrow one
abbrev pub most_places : ℕ
most_places = 1024

abbrev pub most_narrow : ℕ
most_narrow = 64

abbrev pub most_signals : ℕ
most_signals = 16

abbrev pub most_samples : ℕ
most_samples = 1024

abbrev pub most_lines : ℕ
most_lines = 64

-- the fewest distances that may be lent for a narrow sheet: those of its most places
abbrev pub least_distances : ℕ
least_distances = 4096
