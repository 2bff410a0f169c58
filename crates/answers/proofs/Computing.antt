-- What the checker has to open to compute an answer: `unfolding answer_of` opens everything between a sheet and its answer.
use Prim.Native.Nat.{ℕ}
use mathlib.Core.List.{List}
use Rattle.words.specs.Rows.{row, concat}
use Rattle.logic.specs.Lattice.{least_over, greatest_over}
use Rattle.network.specs.Distance.{direct, distance}
use Rattle.network.specs.Network.{joined, distance_in, within, reached, other}
use Rattle.logic.specs.Surround.{greatest_region, boundary, bounded, allowed, region_value, surround}
use Rattle.logic.specs.Iteration.{iterate, masked, except, first, at_rest, rounds}
use Rattle.logic.specs.Table.{least_so_far, until_so_far, until_at, somewhere_at, surround_at, value, values_after, value_at}
use Rattle.counting.specs.Totals.{most_below, sum_below}
use Rattle.logic.specs.Counts.{run_rounds, surround_rounds, rounds_at, greatest_rounds, yes_count}
use Rattle.checks.specs.Checked.{is_kind}
use Rattle.codes.specs.Codes.{codes}
use Rattle.lines.specs.Lines.{line_at, lines_from}
use Rattle.codes.specs.Operators.{constant_at, bounds_at, operator_at}
use Rattle.checks.specs.Heads.{is_wide, head_of, places_of, wide_counted, wide_followed, head_for}
use Rattle.sheet.specs.Layout.{sizes_of, narrow_checked, wide_checked, head_checked, samples_from, end_checked, checked}
use Rattle.roads.specs.Roads.{road_checked, roads_from}
use Rattle.roads.specs.Roads.{leads, weight_among}
use Rattle.distances.specs.Distances.{distance_table}
use Rattle.sheet.specs.Recording.{network, recording}
use Rattle.values.specs.Said.{said}
use Rattle.answers.specs.Answer.{line_index, words_needed, word_for, line_words, answer_words}
use Rattle.answers.specs.Judged.{Judged, answered, judged}
use Rattle.lookup.specs.Lookup.{line_start, said_at}

-- with 4,096 distances and 64 answer words lent
unfoldable pub answer_of : List ℕ → Judged
unfolding least_over greatest_over direct distance joined distance_in within reached other greatest_region boundary bounded allowed region_value
    surround iterate masked except first at_rest rounds least_so_far until_so_far until_at somewhere_at surround_at value values_after value_at most_below sum_below
    run_rounds surround_rounds rounds_at greatest_rounds yes_count is_kind codes constant_at bounds_at operator_at line_at lines_from is_wide head_of places_of wide_counted wide_followed sizes_of narrow_checked wide_checked head_checked road_checked
    roads_from samples_from end_checked checked leads weight_among network recording distance_table row concat line_index words_needed word_for
    line_words head_for answer_words answered judged said line_start said_at
answer_of s = judged s 4096 64
