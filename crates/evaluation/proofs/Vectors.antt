-- The turns over the lines, with what is kept of those before in vectors: each law is the one of `AcceptedTable` or `Turn`, over the arrays that the
-- vectors begin. `lent` are the vectors as a turn reads them.
use mathlib.Core.Path.{◌≡◌}
use mathlib.Core.List.{List, [], ◌∷◌, ◌++◌}
use Prim.Native.Nat.{ℕ, ◌+◌, ◌*◌, ◌<◌, ◌≤◌, ◌^◌}
use native.Mathlib.Omega.{arith}
use lib.ListN.{length, take, drop}
use Rattle.words.specs.Bytes.{words_of}
use Rattle.sheet.specs.declared.check.Layout as Code
use Rattle.checks.specs.Checked.{accepted}
use Rattle.checks.specs.Limits.{most_lines}
use Rattle.checks.specs.Heads.{is_wide}
use Rattle.lines.specs.declared.extent.Extent.{Extent}
use Rattle.lines.specs.declared.line.Line.{Line}
use Rattle.lines.specs.Decoding.{no_extent, line_said, line_and_next}
use Rattle.lines.proofs.Filled.{filled, filled_front, filled_more}
use Rattle.lines.proofs.Walk.{Walk}
use Rattle.samples.specs.declared.tally.Tally.{Tally}
use Rattle.samples.specs.Tally.{together}
use Rattle.answers.specs.Answer.{line_index}
use Rattle.locating.specs.Starts.{StartsLow}
use Rattle.evaluation.specs.Line.{LineReady, LineWritten}
use Rattle.evaluation.specs.Lines.{Accepting, LineThere, line_read}
use Rattle.evaluation.proofs.AcceptedTable.{Ends, all, few_lines, turn_there, turn_passed, turn_ends}
use Rattle.evaluation.proofs.LinesDone.{LinesDone}
use Rattle.evaluation.proofs.Turn as Turn

module _ {s : List ℕ} {layout : Code.Layout} {distances : List ℕ} (accepting : Accepting s layout distances) (k : ℕ) (turn : k < layout.lines) {at : ℕ} {extents : List Extent}
    (walk : Walk s layout.signals layout.samples (all accepting) k at (filled no_extent extents)) (count : length extents ≡ k) {lent : List Extent} (lends : lent ≡ extents) where
  short : k < most_lines
  short = omega (arith, few_lines accepting)

  known : take k (filled no_extent extents) ≡ lent
  known = filled_front no_extent count lends

  pub line_there : LineThere s layout lent at
  line_there = rw known at (turn_there accepting k turn walk)

  module _ (read : Line × ℕ) (reads : line_read s layout lent at ≡ accepted (line_and_next read)) where
    same : line_read s layout (take k (filled no_extent extents)) at ≡ accepted (line_and_next read)
    same = rw known reads

    pub line_passed : Walk s layout.signals layout.samples (all accepting) (k + 1) read.1 (filled no_extent (extents ++ (read.0.extent ∷ [])))
    line_passed = rw (filled_more no_extent extents read.0.extent count short) at (turn_passed accepting k turn walk read same)

    pub line_ends : Ends (is_wide s) layout.places (all accepting) k read.0.extent.length
    line_ends = turn_ends accepting k turn walk read same

  -- ---- writing

  module _ {answer : List ℕ} (enough : line_index (is_wide s) layout.places (all accepting) layout.lines ≤ length answer) (bytes : List ℕ)
      {starts : List ℕ} {to : ℕ} {tally : Tally} (done : LinesDone s layout (all accepting) answer k (words_of bytes) (filled 0 starts) to tally)
      (begun : length starts ≡ k) {lent_starts : List ℕ} (lends_starts : lent_starts ≡ starts) where
    known_starts : take k (filled 0 starts) ≡ lent_starts
    known_starts = filled_front 0 begun lends_starts

    pub starts_low : StartsLow lent_starts layout.places
    starts_low = rw known_starts at (Turn.turn_low accepting enough k turn walk bytes done)

    module _ (read : Line × ℕ) (reads : line_read s layout lent at ≡ accepted (line_and_next read)) where
      pub room : to * 4 ≤ length bytes
      room = Turn.turn_room accepting enough k turn walk bytes done read (same read reads)

      module _ {before own : List ℕ} (front : before ≡ take (to * 4) bytes) (back : own ≡ drop (to * 4) bytes) where
        pub line_ready : LineReady layout (words_of before) lent_starts lent (line_said read.0)
        line_ready = rw (known_starts, known) at (Turn.turn_ready accepting enough k turn walk bytes done read (same read reads) front back)

        pub line_fits : 1 + read.0.extent.length * layout.places ≤ length (words_of own)
        line_fits = Turn.turn_fits accepting enough k turn walk bytes done read (same read reads) front back

        module _ (after : List ℕ) (more : Tally) (here : LineWritten s layout (words_of before) lent_starts lent (line_said read.0) (words_of own) 0 (words_of after) more) where
          here_known : LineWritten s layout (words_of before) (take k (filled 0 starts)) (take k (filled no_extent extents)) (line_said read.0) (words_of own) 0 (words_of after) more
          here_known = rw (known_starts, known) here

          pub line_done : LinesDone s layout (all accepting) answer (k + 1) (words_of (before ++ after)) (filled 0 (starts ++ ((to + 1) ∷ [])))
              (to + (1 + read.0.extent.length * layout.places)) (together tally more)
          line_done = rw (filled_more 0 starts (to + 1) begun short) at (Turn.turn_done accepting enough k turn walk bytes done read (same read reads) front back after more here_known)

          pub line_yes : tally.yes + more.yes < 2 ^ 64
          line_yes = Turn.turn_yes accepting enough k turn walk bytes done read (same read reads) front back after more here_known
