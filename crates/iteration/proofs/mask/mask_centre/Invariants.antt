-- Each turn masks one place more.
use mathlib.Core.Path.{◌≡◌}
use lib.ListN.{length}
use Rattle.iteration.specs.Masks.{MaskedBelow}
use Rattle.iteration.proofs.mask.mask_centre.Given as goal

abbrev pub invariant-loop-place : goal.invariant-loop-place
invariant-loop-place l = (length l.inside ≡ length l.initial.inside) × MaskedBelow l.fn.distances l.bounds l.centre l.place l.initial.rows l.inside l.rows
