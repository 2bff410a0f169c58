-- Runs are begun, each turn makes one more, and all are made in the end: the laws of `RunsTo`.
use Rattle.surrounds.proofs.RunCentres.{runs_begun, number_ready, runs_on, runs_ended}
use Rattle.surrounds.proofs.surround.surround_centres.Goals as goal

pub loop-number-init : goal.loop-number-init
loop-number-init c = runs_begun c.args.network c.args.surround.bounds c.args.surround.islands _ _ c.requires.0 c.requires.1 c.clear.ensures _

pub run_centres-rounds-requires : goal.run_centres-rounds-requires
run_centres-rounds-requires c = number_ready c.args.network c.args.surround.bounds c.args.surround.islands _ _ c.requires.0 c.requires.1 c.clear.ensures c.loop-number.invariant c.run_count-runs.ensures c.loop-number-test.true

pub loop-number-preserved : goal.loop-number-preserved
loop-number-preserved c =
    let run = c.run_centres-rounds.ensures in
    runs_on c.args.network c.args.surround.bounds c.args.surround.islands _ _ c.requires.0 c.requires.1 c.clear.ensures c.loop-number.invariant _ c.loop-number-test.true
    (record { done = run.done; kept = run.kept; past = run.past }) c.max-most.ensures

pub returns : goal.returns
returns c =
    let ended = runs_ended c.args.network c.args.surround.bounds c.args.surround.islands _ _ c.requires.0 c.requires.1 c.clear.ensures c.loop-number.invariant c.run_count-runs.ensures c.loop-number-test.false in
    record { done = ended.done; kept = ended.kept; past = ended.past }
