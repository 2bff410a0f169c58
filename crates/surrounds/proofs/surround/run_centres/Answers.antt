-- A run is begun, makes a centre or passes it, and ends: the laws of `RunTo`.
use mathlib.Core.Path.{sym, ◌∙◌}
use Rattle.surrounds.proofs.RunCentres.{flags_all, run_begun, centre_ready, run_passed, run_on, run_ended}
use Rattle.std.proofs.Common.{rules}
use Rattle.surrounds.proofs.surround.run_centres.Goals as goal

pub loop-centre-init : goal.loop-centre-init
loop-centre-init c = run_begun c.args.network c.args.run _ _ c.requires.0 c.requires.2 c.clear_all.ensures c.requires.1 _ (search rules)

pub slice_bounds-flags-end : goal.slice_bounds-flags-end
slice_bounds-flags-end c = sym (flags_all c.args.network c.args.run _ _ c.requires.0 c.requires.2 c.clear_all.ensures _ c.loop-centre.invariant.long)

pub run_centre-rounds-requires : goal.run_centre-rounds-requires
run_centre-rounds-requires c = centre_ready c.args.network c.args.run _ _ c.requires.0 c.requires.2 c.clear_all.ensures c.loop-centre.invariant c.loop-centre-test.true (sym c.is_made.ensures ∙ c.if-not-is_made.false)

pub loop-centre-preserved-then-not-is_made : goal.loop-centre-preserved-then-not-is_made
loop-centre-preserved-then-not-is_made c = run_passed c.args.network c.args.run _ _ c.requires.0 c.requires.2 c.clear_all.ensures c.loop-centre.invariant c.loop-centre-test.true (sym c.is_made.ensures ∙ c.if-not-is_made.true)

pub loop-centre-preserved : goal.loop-centre-preserved
loop-centre-preserved c =
    run_on c.args.network c.args.run _ _ c.requires.0 c.requires.2 c.clear_all.ensures c.loop-centre.invariant c.loop-centre-test.true _ _ c.run_centre-rounds.auto.inside c.run_centre-rounds.ensures.run c.run_centre-rounds.ensures.worked
    c.max-most.ensures

pub returns : goal.returns
returns c =
    let ended = run_ended c.args.network c.args.run _ _ c.requires.0 c.requires.2 c.clear_all.ensures c.loop-centre.invariant c.loop-centre-test.false in
    record { done = ended.done; kept = ended.kept; past = ended.past }
