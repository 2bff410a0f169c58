-- The value at the sample before, turned, is the greatest of the window before.
use mathlib.Core.Path.{◌≡◌, ap, ◌∙◌}
use Prim.Native.Nat.{◌+◌, ◌-◌}
use native.Mathlib.Omega.{arith}
use Rattle.operators.specs.Rows.{turned_to}
use Rattle.windows.proofs.Bounds.{eventually_small, eventually_back}
use Rattle.windows.proofs.eventually.eventually_at.Goals as goal

pub turn-before-requires : goal.turn-before-requires
turn-before-requires c = let held = c.requires.1 (c.args.t - 1) (omega arith) in rw held (eventually_small c.args.dual _ _ _ _ _ _ _)

pub greatest_next-greatest-requires : goal.greatest_next-greatest-requires
greatest_next-greatest-requires c =
    let before = c.args.t - 1 in
    let same : before + 1 ≡ c.args.t = omega arith in
    (rw same c.requires.0, c.turn-before.ensures ∙ ap (turned_to c.args.dual) (c.requires.1 before (omega arith)) ∙ eventually_back c.args.dual _ _ _ _ _ _ _)
