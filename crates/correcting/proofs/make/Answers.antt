-- What has passed is aimed at samples of a valid sheet: `list_known`.
use Rattle.checks.proofs.Answered.{said_ok}
use Rattle.correcting.proofs.Applying.{list_known}
use Rattle.correcting.proofs.make.Goals as goal

pub invariant_of-passed : goal.invariant_of-passed
invariant_of-passed c =
    let known = list_known _ _ c.args.output.now _ (said_ok _ c.check_words.ensures c.in_ok-check_words.was) c.grid_of-grid.ensures c.correction_count.ensures
    (said_ok _ c.check_corrections.ensures c.in_ok-check_corrections.was) in
    record { aimed = known.0; fits = known.1 }
