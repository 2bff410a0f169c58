-- The search goes over the places and their flags side by side.
use Prim.Native.Nat.{◌/◌}
use Rattle.std.proofs.Common.{rules, ℕ, true, false}
use Rattle.std.proofs.lemmas.Iterator.{cases_from_any, YieldsList-from_slice, YieldsList-from_zip}
use Rattle.iteration.proofs.Outside.{Told, changed_told}
use Rattle.iteration.proofs.iteration.changed.Goals as goal

pub returns : goal.returns
returns c =
    let h = λ (x : ℕ). x / c.args.unit in
    let rows = c.args.rows.now in
    let inside = c.args.inside.now in
    changed_told h rows inside c.requires.1 c.any.result
    (cases_from_any c.any.new.self _ _ (λ p. Told h p true) (λ p. Told h p false) c.any.ensures.ran (YieldsList-from_zip (YieldsList-from_slice rows cc) (YieldsList-from_slice inside cc))
    (λ p q e. search rules) (λ p q e. search rules))
