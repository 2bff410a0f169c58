-- The first line that is not whole decides the test of all, wherever the later lines begin.
use mathlib.Core.Path.{sym}
use mathlib.Core.Bool.{true}
use native.Mathlib.Omega.{arith}
use Rattle.words.specs.Bytes.{words_of}
use Rattle.lookup.specs.Lookup.{whole_line}
use Rattle.lookup.proofs.Walk.{one_fails}
use Rattle.lookup.proofs.whole_lines.Goals as goal

pub returns-then-not-whole_line : goal.returns-then-not-whole_line
returns-then-not-whole_line c = sym (one_fails (λ _. true) (whole_line (words_of c.args.answer.now)) _ c.loop-i.i (omega arith) tt (grind arith))
