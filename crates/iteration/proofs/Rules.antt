-- The laws that the code of a step and of settling is proved by.
use Rattle.words.proofs.Words.{words_count}
use Rattle.lanes.proofs.RowLaws.{kept_refl, kept_past_refl}
use Rattle.iteration.proofs.SheetRoads.{first_road_fits, forth_read, back_read, forth_inside, back_inside}
use Rattle.iteration.proofs.Outside.{stepped_low, pulled_low}
use Rattle.iteration.proofs.Least.{stepped_none}
use Rattle.iteration.proofs.Settling.{worked_on, worked_start, in_start, start_small, in_falls, in_fell, in_moved, rest_joined}

-- the roads of a sheet are read, and a way of each is taken
pub ruleset step_laws = (first_road_fits, words_count, kept_refl, kept_past_refl, stepped_low, pulled_low, forth_read, back_read, forth_inside, back_inside, stepped_none)

-- rounds are made until nothing changes
pub ruleset settle_laws = (worked_on, worked_start, in_start, start_small, in_falls, in_fell, in_moved, rest_joined)
