-- Each turn decodes one lane more.
use Rattle.words.specs.Bytes.{words_of}
use Rattle.lanes.specs.Rows.{lane_signal}
use Rattle.lanes.proofs.RowLaws.{Filled}
use Rattle.lanes.proofs.rows.load_strip.Given as goal

abbrev pub invariant-loop-lane : goal.invariant-loop-lane
invariant-loop-lane l = Filled l.lane (λ lane. lane_signal (words_of l.words) l.start l.places l.block lane l.place) l.x-items
