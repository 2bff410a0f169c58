-- The place lies in the ball, or has left it, or stays outside.
use mathlib.Core.Path.{sym, ◌∙◌}
use native.Mathlib.Omega.{arith}
use Rattle.iteration.proofs.Masks.{centre_inside, centre_left, centre_outside}
use Rattle.iteration.proofs.mask.mask_next.Goals as goal

pub returns-then-in_range : goal.returns-then-in_range
returns-then-in_range c =
    let g = c.args in
    λ before m. centre_inside g.distances.places g.distances.table.now g.bounds g.centre m (omega (arith, c.requires.1, c.requires.2))
    (sym c.if-in_range.true ∙ c.in_range.ensures) c.in_range-ring.ensures c.mask_place.ensures

pub returns-then-inside-place : goal.returns-then-inside-place
returns-then-inside-place c =
    let g = c.args in
    λ before m. centre_left g.distances.places g.distances.table.now g.bounds g.centre m (omega (arith, c.requires.1, c.requires.2))
    (sym c.in_range.ensures ∙ c.if-in_range.false) c.clear_place.ensures

pub returns-else-inside-place : goal.returns-else-inside-place
returns-else-inside-place c =
    let g = c.args in
    λ before m. centre_outside g.distances.places g.distances.table.now g.bounds g.centre m (omega (arith, c.requires.1, c.requires.2))
    (sym c.in_range.ensures ∙ c.if-in_range.false) c.if-inside-place.false
