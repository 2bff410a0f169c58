-- Each turn finds one line more that is whole; at the first that is not, the test of all fails, wherever the later lines begin.
use mathlib.Core.Path.{◌≡◌}
use mathlib.Core.Bool.{true}
use Prim.Native.Nat.{ℕ, ◌<◌}
use Rattle.words.specs.Bytes.{words_of}
use Rattle.lookup.specs.Lookup.{line_start, whole_line}
use Rattle.lookup.proofs.whole_lines.Given as goal

abbrev pub invariant-loop-i : goal.invariant-loop-i
invariant-loop-i l = (l.at ≡ line_start (words_of l.answer) l.i) × ((k : ℕ) → k < l.i → whole_line (words_of l.answer) k ≡ true)
