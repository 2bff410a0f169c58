-- Each turn puts one row more after those of the line, and adds its yes verdicts.
use mathlib.Core.Path.{◌≡◌}
use Prim.Native.Nat.{ℕ, suc, ◌-◌, ◌*◌, ◌≤◌}
use lib.ListN.{length}
use Rattle.checks.specs.Limits.{most_places}
use Rattle.operators.specs.Rows.{Filled}
use Rattle.verdicts.specs.Rows.{value_in}
use Rattle.samples.proofs.LineRows.{RowsDone}
use Rattle.verdicts.proofs.row.write_rows.Given as goal

abbrev pub invariant-loop-t : goal.invariant-loop-t
invariant-loop-t l =
    (l.t ≤ l.samples) × RowsDone (value_in l.fn.line) l.fn.line.layout.places l.initial.own 0 l.t l.own (l.t * l.fn.line.layout.places) l.yes
    × (length l.held ≡ most_places)
    × ((u : ℕ) → l.t ≡ suc u → Filled l.fn.line.layout.places (value_in l.fn.line u) l.held)

abbrev pub decreases-loop-t : goal.decreases-loop-t
decreases-loop-t l = l.samples - l.t
