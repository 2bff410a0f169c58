-- One turn of writing: the words up to the next line are lent apart from those behind, the line is ready there, and with it one line more is done.
use mathlib.Core.Path.{◌≡◌, ap, ◌∙◌}
use mathlib.Core.List.{List, ◌++◌}
use Prim.Native.Nat.{ℕ, ◌+◌, ◌*◌, ◌<◌, ◌≤◌, ◌^◌}
use native.Mathlib.Omega.{arith}
use lib.ListN.{length, set, take, drop, length-drop}
use Rattle.words.specs.Bytes.{words_of}
use Rattle.words.proofs.Words.{words_count, words_take, words_drop}
use Rattle.sheet.specs.declared.check.Layout as Code
use Rattle.checks.specs.Checked.{accepted}
use Rattle.checks.specs.Heads.{is_wide}
use Rattle.lines.specs.declared.extent.Extent.{Extent}
use Rattle.lines.specs.declared.line.Line.{Line}
use Rattle.lines.specs.Decoding.{line_said, line_and_next}
use Rattle.lines.proofs.Walk.{Walk}
use Rattle.samples.specs.declared.tally.Tally.{Tally}
use Rattle.samples.specs.Tally.{together}
use Rattle.answers.specs.Answer.{line_index}
use Rattle.locating.specs.Starts.{StartsLow}
use Rattle.verdicts.proofs.Lent.{whole_words}
use Rattle.evaluation.specs.Line.{LineReady, LineWritten}
use Rattle.evaluation.specs.Lines.{Accepting, line_read}
use Rattle.evaluation.proofs.AcceptedTable.{table_known, all, more_lines, turn_said}
use Rattle.evaluation.proofs.LinesDone.{LinesDone, yes_few, starts_low, line_fits, line_ready, line_done}

module _ {s : List ℕ} {layout : Code.Layout} {distances : List ℕ} (accepting : Accepting s layout distances) {answer : List ℕ}
    (enough : line_index (is_wide s) layout.places (all accepting) layout.lines ≤ length answer) (k : ℕ) (turn : k < layout.lines)
    {at : ℕ} {extents : List Extent} (walk : Walk s layout.signals layout.samples (all accepting) k at extents)
    (bytes : List ℕ) {starts : List ℕ} {to : ℕ} {tally : Tally} (done : LinesDone s layout (all accepting) answer k (words_of bytes) starts to tally) where
  pub turn_low : StartsLow (take k starts) layout.places
  turn_low = starts_low _ _ _ _ (table_known accepting) _ enough _ (more_lines accepting _ turn) _ _ _ _ done extents walk.known walk.room

  module _ (read : Line × ℕ) (reads : line_read s layout (take k extents) at ≡ accepted (line_and_next read)) where
    fits : to + (1 + read.0.extent.length * layout.places) ≤ length (words_of bytes)
    fits = line_fits _ _ _ _ (table_known accepting) _ enough _ (more_lines accepting _ turn) _ _ _ _ done extents walk.known walk.room _ (turn_said accepting k turn walk read reads)

    pub turn_room : to * 4 ≤ length bytes
    turn_room = omega (arith, fits, words_count bytes)

    module _ {before own : List ℕ} (front : before ≡ take (to * 4) bytes) (back : own ≡ drop (to * 4) bytes) where
      words_before : words_of before ≡ take to (words_of bytes)
      words_before = ap words_of front ∙ words_take bytes to

      pub turn_ready : LineReady layout (words_of before) (take k starts) (take k extents) (line_said read.0)
      turn_ready = rw words_before
          (line_ready _ _ _ _ (table_known accepting) _ enough _ (more_lines accepting _ turn) _ _ _ _ done _ walk.known walk.room _ (turn_said accepting k turn walk read reads))

      pub turn_fits : 1 + read.0.extent.length * layout.places ≤ length (words_of own)
      turn_fits = rw (back, words_drop bytes to) (omega (arith, fits, length-drop to (words_of bytes)))

      module _ (after : List ℕ) (more : Tally)
          (here : LineWritten s layout (words_of before) (take k starts) (take k extents) (line_said read.0) (words_of own) 0 (words_of after) more) where
        pub turn_done : LinesDone s layout (all accepting) answer (k + 1) (words_of (before ++ after)) (set starts k (to + 1)) (to + (1 + read.0.extent.length * layout.places))
            (together tally more)
        turn_done =
            let written : LineWritten s layout (words_of before) (take k starts) (take k extents) (line_said read.0) (words_of bytes) to (words_of (before ++ after)) more = record {
              written = whole_words bytes to front back turn_room after _ here.written;
              counted = here.counted;
              greatest = here.greatest;
            } in
            line_done _ _ _ _ (table_known accepting) _ enough _ (more_lines accepting _ turn) _ _ _ _ done _ walk.known walk.room _ (turn_said accepting k turn walk read reads) _ _
            (rw words_before at written)

        pub turn_yes : tally.yes + more.yes < 2 ^ 64
        turn_yes = omega (arith, turn_done.counted, yes_few _ _ _ _ (table_known accepting) k (omega (arith, (table_known accepting).counted, (table_known accepting).sizes.count)))
