-- For inner contracts only: what the walks over the lines of an accepted sheet leave, by the bytes that are lent.
use Rattle.std.specs.Prelude.{List, ℕ}
use Rattle.words.specs.Bytes.{words_of}
use Rattle.evaluation.specs.declared.accepted.Accepted.{Accepted}
use Rattle.evaluation.specs.declared.walk.Written.{Written}
use Rattle.evaluation.specs.Lent.{found_in}
use Rattle.evaluation.specs.Lines.{LinesWritten}

-- the lines in the bytes of the answer as they are left
abbrev pub LinesWrittenIn : Accepted → (answer after : List ℕ) → Written → Type 0
LinesWrittenIn a answer after w = LinesWritten (words_of a.sheet.now) (found_in a.sheet.now a.distances.now) (words_of answer) (words_of after) w.end w.tally
