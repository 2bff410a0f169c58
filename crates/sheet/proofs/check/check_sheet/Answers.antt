-- The sizes of a head that passed are small; and where every part has passed, the end decides the whole.
use mathlib.Core.Path.{sym, ◌∙◌}
use native.Mathlib.Omega.{arith}
use lib.ListN.{length}
use Rattle.words.specs.Bytes.{words_of}
use Rattle.checks.specs.Heads.{is_wide}
use Rattle.checks.proofs.Checks.{mapped_accepted}
use Rattle.checks.proofs.Heads.{few_head_words}
use Rattle.roads.proofs.AcceptedRoads.{few_roads}
use Rattle.roads.specs.Roads.{road_at, roads_from}
use Rattle.sheet.proofs.Accepted.{head_accepted, sample_count_lem}
use Rattle.sheet.proofs.Whole.{end_next}
use Rattle.sheet.proofs.check.check_sheet.Goals as goal

pub overflow_mul-count : goal.overflow_mul-count
overflow_mul-count c = omega (arith, sample_count_lem (head_accepted _ _ (sym c.in_ok-sizes.ensures)))

pub overflow_mul-count-2 : goal.overflow_mul-count-2
overflow_mul-count-2 c = omega (arith, sample_count_lem (head_accepted _ _ (sym c.in_ok-sizes.ensures)))

pub check_samples-requires : goal.check_samples-requires
check_samples-requires c =
    let s = words_of c.args.s.now in
    let roads = mapped_accepted (road_at (is_wide s)) (roads_from s c.in_ok-sizes.sizes.places (length s) 0 0) (sym c.in_ok-recording.ensures) in
    omega (arith, roads.2, few_roads s _ _ _ roads.1, few_head_words (is_wide s), sample_count_lem (head_accepted _ _ (sym c.in_ok-sizes.ensures)))

pub returns : goal.returns
returns c =
    let s = words_of c.args.s.now in
    let roads = mapped_accepted (road_at (is_wide s)) (roads_from s c.in_ok-sizes.sizes.places (length s) 0 0) (sym c.in_ok-recording.ensures) in
    c.check_end.ensures
    ∙ sym (end_next s c.args.distances (sym c.in_ok-sizes.ensures) roads.1 roads.2 (sym c.in_ok-table.ensures) (sym c.in_ok-lines.ensures))
