-- The difference of two fields of 27 bits has a code, and is a yes where it is not negative.
use mathlib.Core.Path.{◌≡◌, ap, ap₂, ◌∙◌}
use lib.IntN.{pos, ◌-ℤ◌}
use lib.Signed.{le_z}
use mir.Syntax.{w32}
use mir.Val.{to_z, of_z}
use mir.Facts.{to_z-of_z}
use Rattle.logic.specs.Margin.{finite}
use Rattle.logic.proofs.Small.{difference_small}
use Rattle.values.specs.Chain.{chain_of, margin_at}
use Rattle.values.proofs.Codes.{at_code}
use Rattle.values.proofs.Machine.{small_fits}
use Rattle.values.proofs.difference.Goals as goal
use Rattle.values.proofs.difference.Goals.{Start}

-- the difference of the machine is that of the numbers
same : (c : Start) → to_z w32 (of_z w32 (to_z w32 (of_z w32 c.args.x) -ℤ to_z w32 (of_z w32 c.args.c))) ≡ c.args.x -ℤ c.args.c
same c = rw (to_z-of_z c.ranges.x, to_z-of_z c.ranges.c) (to_z-of_z (small_fits (c.args.x -ℤ c.args.c) (difference_small c.args.x c.args.c c.requires.0 c.requires.1)))

pub returns : goal.returns
returns c =
    let z = c.args.x -ℤ c.args.c in
    let e = same (goal.at.returns c).Start in
    c.chain.ensures
    ∙ ap₂ chain_of (ap (le_z (pos 0)) e) (ap margin_at (rw e at c.finite.ensures) ∙ at_code (finite z) (difference_small c.args.x c.args.c c.requires.0 c.requires.1))
