-- For inner contracts only: one line of the answer, what must stand before it, and what writing it leaves.
use Rattle.std.specs.Prelude.{◌≡◌, List, ◌∷◌, ℕ, ◌+◌, ◌*◌, ◌<◌, ◌≤◌, length, get_or}
use Rattle.words.specs.Bytes.{words_of}
use Rattle.words.specs.Rows.{rows, put}
use Rattle.counting.specs.Totals.{count, sum_below, most_below}
use Rattle.formulas.specs.Formulas.{Line}
use Rattle.checks.specs.Checked.{accepted}
use Rattle.lines.specs.declared.extent.Extent.{Extent}
use Rattle.lines.specs.declared.line.Line as Read
use Rattle.lines.specs.Decoding.{extent_in, line_said, line_and_next}
use Rattle.sheet.specs.declared.check.Layout.{Layout}
use Rattle.lines.specs.GoodLines.{GoodLine}
use Rattle.values.specs.Chain.{chain_word, chain_verdict, Valid}
use Rattle.values.specs.Signals.{signal_in}
use Rattle.samples.specs.declared.tally.Tally.{Tally}
use Rattle.answers.specs.Answer.{first_word}
use Rattle.locating.specs.declared.earlier.Earlier.{Earlier}
use Rattle.evaluation.specs.declared.accepted.Accepted.{Accepted}
use Rattle.evaluation.specs.Writing.{line_value, line_rounds}
use Rattle.evaluation.specs.Lines.{line_read, LineThere}

-- the line is good after earlier lines of these extents, and their signals stand in the words, as chain numbers that can arise
pub record LineReady (L : Layout) (words starts : List ℕ) (extents : List Extent) (line : Line) : Type 0 where
  pub good : GoodLine L.signals L.samples (extent_in extents) (length extents) line
  pub written : (i : ℕ) → i < length extents → get_or starts i 0 + (extent_in extents i).length * L.places ≤ length words
  pub valid : (i t l : ℕ) → i < length extents → t < (extent_in extents i).length → l < L.places → Valid (signal_in words (get_or starts i 0) L.places t l)

module _ (s : List ℕ) (L : Layout) (words starts : List ℕ) (extents : List Extent) (line : Line) where
  -- row t has the line's sample first + t
  unfoldable pub value_here : ℕ → ℕ → ℕ
  value_here t l = line_value s L words starts extents line.operator (line.extent.first + t) l

  unfoldable pub rounds_here : ℕ → ℕ → ℕ
  rounds_here t l = line_rounds s L words starts extents line.operator (line.extent.first + t) l

  -- put into the answer from index `to` on
  pub record LineWritten (answer : List ℕ) (to : ℕ) (after : List ℕ) (tally : Tally) : Type 0 where
    pub written : after ≡ put answer to (first_word line.extent ∷ rows (λ t l. chain_word (value_here t l)) line.extent.length L.places)
    pub counted : tally.yes ≡ sum_below (λ t. sum_below (λ l. count (chain_verdict (value_here t l))) L.places) line.extent.length
    pub greatest : tally.rounds ≡ most_below (λ t. most_below (λ l. rounds_here t l) L.places) line.extent.length

-- ---- by what is lent: a line as the check has read it

abbrev pub LineThereIn : Accepted → List Extent → ℕ → Type 0
LineThereIn a = LineThere (words_of a.sheet.now) a.layout

abbrev pub LineReadIn : Accepted → List Extent → ℕ → Read.Line × ℕ → Type 0
LineReadIn a earlier at read = line_read (words_of a.sheet.now) a.layout earlier at ≡ accepted (line_and_next read)

-- ---- by what is lent to a line: the words before its own, and these

module _ (a : Accepted) (e : Earlier) (line : Read.Line) (before : List ℕ) where
  abbrev pub LineReadyIn : Type 0
  LineReadyIn = LineReady a.layout (words_of before) e.starts.now e.extents.now (line_said line)

  abbrev pub LineWrittenIn : List ℕ → List ℕ → Tally → Type 0
  LineWrittenIn own after = LineWritten (words_of a.sheet.now) a.layout (words_of before) e.starts.now e.extents.now (line_said line) (words_of own) 0 (words_of after)

-- there is room for the line's own words
abbrev pub LineFitsIn : Accepted → Read.Line → List ℕ → Type 0
LineFitsIn a line own = 1 + line.extent.length * a.layout.places ≤ length (words_of own)
