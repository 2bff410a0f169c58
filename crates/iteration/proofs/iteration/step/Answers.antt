-- Both ways of the road that was read are taken, and nothing but x is written.
use mathlib.Core.Path.{◌≡◌, ap, ◌∙◌}
use Rattle.words.specs.Bytes.{words_of}
use Rattle.checks.specs.Heads.{is_wide}
use Rattle.roads.specs.Roads.{road_at}
use Rattle.lanes.proofs.RowLaws.{kept_trans, kept_past_trans}
use Rattle.iteration.proofs.Outside.{pulled_as}
use Rattle.iteration.proofs.Least.{ways_more}
use Rattle.iteration.proofs.SheetRoads.{forth_read, back_read}
use Rattle.std.proofs.Common.{rules}
use Rattle.iteration.proofs.iteration.step.Goals as goal

pub loop-r-preserved : goal.loop-r-preserved
loop-r-preserved c =
    let h = c.loop-r.invariant in
    let kept = kept_trans h.1 c.pull.ensures.kept in
    let here : c.road_at.result ≡ road_at (is_wide (words_of c.args.network.sheet.now)) c.loop-r.r = c.road_at.ensures ∙ ap (λ wide. road_at wide c.loop-r.r) c.is_wide-wide.ensures in (
      search rules,
      kept_trans kept c.pull-in-loop-r.ensures.kept,
      kept_past_trans (kept_past_trans h.2 c.pull.ensures.past) c.pull-in-loop-r.ensures.past,
      ways_more _ _ (forth_read _ _ c.is_wide-wide.ensures here c.word_at.ensures c.forth.ensures) (back_read _ _ c.is_wide-wide.ensures here c.word_at.ensures c.back.ensures)
          (pulled_as h.1 c.pull.ensures.pulled) (pulled_as kept c.pull-in-loop-r.ensures.pulled) h.3,
    )
