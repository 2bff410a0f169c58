-- The sizes of the answer to an accepted sheet: what its head tells fits, and where its lines end.
use mathlib.Core.Path.{◌≡◌}
use mathlib.Core.Bool.{Bool}
use mathlib.Core.List.{List}
use Prim.Native.Nat.{ℕ, ◌+◌, ◌^◌, ◌<◌}
use native.Mathlib.Omega.{arith}
use lib.ListN.{length}
use Rattle.words.specs.Rows.{concat}
use Rattle.network.specs.Network.{Network}
use Rattle.formulas.specs.Formulas.{Line, Recording}
use Rattle.sheet.specs.declared.check.Layout as Code
use Rattle.checks.specs.Heads.{head_words, HeadFits, is_wide}
use Rattle.sheet.specs.Layout.{Layout}
use Rattle.sheet.proofs.Whole.{AcceptedSheet, accepted_sheet}
use Rattle.answers.specs.Answer.{line_index, line_words}
use Rattle.answers.proofs.AnswerWords.{lines_size}
use Rattle.answers.proofs.WholeAnswer as Whole
use Rattle.answers.proofs.Accepted.{fields, sizes}
use Rattle.evaluation.specs.Lines.{found, Accepting}

-- behind the head, the words of the first k lines end where line k begins
pub lines_end : (N : Network) (T : ℕ) (x : Recording) (lines : List Line) (wide : Bool) (k : ℕ) → head_words wide + length (concat (line_words N T x lines) k) ≡ line_index wide (N.places) lines k
unfolding line_index
lines_end N T x lines wide k = omega (arith, lines_size N T x lines k)

module _ {s : List ℕ} {layout : Code.Layout} {distances : List ℕ} (accepting : Accepting s layout distances) where
  abbrev L : Layout
  L = found s (length distances)

  accepted : AcceptedSheet s (length distances) L
  accepted = accepted_sheet s (length distances) L accepting.accepts

  pub head_fits : HeadFits 13 (is_wide s) layout.places layout.lines layout.samples
  head_fits = rw accepting.laid (fields s (length distances) L accepted).head

  pub end_bound : line_index (is_wide s) L.sizes.places L.lines (length L.lines) < 2 ^ 28
  end_bound = Whole.end_bound (is_wide s) L.sizes.places L.sizes.samples L.lines (sizes s (length distances) L accepted)
