-- Each turn writes the samples of one block more behind those before it.
use mathlib.Core.Path.{◌≡◌}
use Prim.Native.Nat.{◌*◌, min}
use lib.ListN.{length}
use Rattle.lanes.specs.Lanes.{lanes}
use Rattle.verdicts.specs.Around.{value_in, rounds_in}
use Rattle.verdicts.proofs.Blocks.{SoFar}
use Rattle.verdicts.proofs.around.write_blocks.Given as goal

abbrev pub invariant-loop-k : goal.invariant-loop-k
invariant-loop-k g l = (length l.rows ≡ g.row.N) × SoFar (value_in l.fn.line) (rounds_in l.fn.line) l.fn.line.layout.places l.initial.own (min (l.k * lanes) l.samples) l.own l.tally
