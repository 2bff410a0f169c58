-- Each turn writes the places of one group more; the last group ends where the row does.
use Prim.Native.Nat.{◌*◌, min}
use Rattle.words.specs.Bytes.{words_of}
use Rattle.windows.specs.Rows.{until_in}
use Rattle.windows.specs.Groups.{group_size}
use Rattle.operators.proofs.RowLaws.{Passed}
use Rattle.windows.proofs.until.until_row.Given as goal

abbrev pub invariant-loop-k : goal.invariant-loop-k
invariant-loop-k l = Passed l.places (until_in (words_of l.words) l.places l.fn.until l.t) l.initial.row l.row (min (l.k * group_size) l.places)
