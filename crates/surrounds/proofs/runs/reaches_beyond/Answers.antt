-- The search goes over all places.
use Rattle.std.proofs.Common.{rules, refl, true, false, arith}
use Rattle.std.proofs.lemmas.Iterator.{cases_from_any, YieldsList-from_range}
use Rattle.lanes.specs.Rows.{within_in}
use Rattle.surrounds.specs.Lent.{reached_in}
use Rattle.surrounds.proofs.RunLaws.{Told, beyond_told}
use Rattle.surrounds.proofs.runs.reaches_beyond.Goals as goal

pub returns : goal.returns
returns c =
    let d = c.args.distances in
    let inside = within_in d c.args.centre c.args.ball in
    let there = reached_in d c.args.centre in
    beyond_told inside there d.places c.any.result
    (cases_from_any _ _ _ (λ k. Told inside there k true) (λ k. Told inside there k false) c.any.ensures.ran (YieldsList-from_range 0 d.places d.places refl (omega arith))
    (λ k q e. search rules) (λ k q e. search rules))
