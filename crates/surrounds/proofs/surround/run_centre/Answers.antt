-- The rows of the centre are masked, the run's place is left out, the iteration settles, and the centre is raised to what it gives.
use mathlib.Core.Path.{◌∙◌}
use Rattle.surrounds.proofs.Centres.{run_start, run_settled, raised_worked, raised_run}
use Rattle.surrounds.proofs.surround.run_centre.Goals as goal

pub settle-rounds-requires : goal.settle-rounds-requires
settle-rounds-requires c =
    let out = c.leave_out.ensures in
    run_start c.requires.ready c.mask_centre.ensures out.out out.kept (c.mask_centre.auto.inside ∙ c.requires.flags)

pub returns : goal.returns
returns c =
    let p = c.requires in
    let out = c.leave_out.ensures in
    let settled = c.settle-rounds.ensures in
    let all = c.mask_centre.auto.inside ∙ p.flags in
    record {
      run = raised_run c.mask_centre.ensures out.kept settled.worked c.raise.ensures (run_settled p.ready c.mask_centre.ensures out.out out.kept p.here p.number all p.made settled.settled);
      worked = raised_worked c.mask_centre.ensures out.kept settled.worked c.raise.ensures out.past p.number p.here all;
    }
