-- For inner contracts only: the promises to the outside cite none of it.
-- A line that goes sample by sample: its values, from the sheet and from the words that stand before it, what must be there for them, and what
-- writing them leaves.
use Rattle.std.specs.Prelude.{◌≡◌, List, ℕ, suc, ◌+◌, ◌*◌, ◌≤◌, ◌<◌, length}
use Rattle.words.specs.Bytes.{words_of}
use Rattle.words.specs.Rows.{row}
use Rattle.counting.specs.Totals.{count, sum_below}
use Rattle.formulas.specs.Formulas.{Recording, InBits}
use Rattle.logic.specs.Table.{Signal, opposite, ever_true}
use Rattle.sheet.specs.declared.check.Layout.{Layout}
use Rattle.checks.specs.Limits.{most_places, most_signals, most_samples}
use Rattle.sheet.specs.Recording.{recording_of}
use Rattle.values.specs.Chain.{chains, chain_word, chain_verdict}
use Rattle.values.specs.Signals.{signal_in}
use Rattle.operators.specs.Rows.{Filled, atom_value, and_in}
use Rattle.windows.specs.Reach.{Window}
use Rattle.windows.specs.Rows.{until_in, eventually_in}
use Rattle.locating.specs.declared.RowOperator.{RowOperator}
use Rattle.locating.specs.declared.RowOperator.TheVariants.{True, Atom, Not, Both, Until, Eventually}
use Rattle.samples.specs.declared.tally.Tally.{Tally}
use Rattle.samples.specs.Written.{SamplesWritten}
use Rattle.verdicts.specs.declared.row.RowLine.{RowLine}

-- ---- values

module _ (s : List ℕ) (L : Layout) where
  unfoldable pub sheet_recording : Recording
  sheet_recording = recording_of s L.recording L.places L.signals

  module _ (words : List ℕ) where
    unfoldable pub row_value : RowOperator → Signal chains
    row_value True = ever_true chains
    row_value (Atom signal c atleast) = λ t l. atom_value atleast (sheet_recording signal t l) c
    row_value (Not left) = opposite chains (signal_in words left L.places)
    row_value (Both left right dual) = and_in words L.places dual left right
    row_value (Until u) = until_in words L.places u
    row_value (Eventually left b dual) = eventually_in words L.places dual left b.lower b.upper

-- ---- what they are made from

-- the sheet's samples are there
pub record Recorded (s : List ℕ) (L : Layout) : Type 0 where
  pub places : (1 ≤ L.places) × (L.places ≤ most_places)
  pub signals : L.signals ≤ most_signals
  pub samples : L.samples ≤ most_samples
  pub recorded : L.recording + L.signals * L.places * L.samples ≤ length s

-- the part of a signal up to sample t
abbrev There : Layout → List ℕ → ℕ → ℕ → Type 0
There L words start t = start + (t + 1) * L.places ≤ length words

-- what an operator reads at sample t is there
abbrev pub RowReads : Layout → List ℕ → RowOperator → ℕ → Type 0
RowReads L words True t = Unit {0}
RowReads L words (Atom signal c atleast) t = (signal < L.signals) × (t < L.samples) × InBits 27 c
RowReads L words (Not left) t = There L words left t
RowReads L words (Both left right dual) t = There L words left t × There L words right t
RowReads L words (Until u) t = Window words u.left L.places u.bounds.lower u.bounds.upper t × Window words u.right L.places u.bounds.lower u.bounds.upper t
RowReads L words (Eventually left b dual) t = Window words left L.places b.lower b.upper t

-- a row of values at sample t can be made of one that holds those at the sample before, if there is one
pub record RowReady (s : List ℕ) (L : Layout) (words : List ℕ) (o : RowOperator) (t : ℕ) (held : List ℕ) : Type 0 where
  pub sheet : Recorded s L
  pub reads : RowReads L words o t
  pub room : L.places ≤ length held
  pub former : (u : ℕ) → t ≡ suc u → Filled L.places (row_value s L words o u) held

-- a line of so many samples can be written behind these words
pub record RowsReady (s : List ℕ) (L : Layout) (words : List ℕ) (o : RowOperator) (samples : ℕ) : Type 0 where
  pub sheet : Recorded s L
  pub few : samples ≤ most_samples
  pub reads : (t : ℕ) → t < samples → RowReads L words o t

-- ---- by what is lent to a line: the bytes that it is made from, and its own

module _ (l : RowLine) where
  abbrev pub RowReadyIn : ℕ → List ℕ → Type 0
  RowReadyIn = RowReady (words_of l.sheet.now) l.layout (words_of l.before.now) l.operator

  abbrev pub RowsReadyIn : ℕ → Type 0
  RowsReadyIn = RowsReady (words_of l.sheet.now) l.layout (words_of l.before.now) l.operator

  abbrev pub value_in : Signal chains
  value_in = row_value (words_of l.sheet.now) l.layout (words_of l.before.now) l.operator

  -- the words and the yes verdicts of one sample
  abbrev pub row_words_in : ℕ → List ℕ
  row_words_in t = row (λ p. chain_word (value_in t p)) l.layout.places

  abbrev pub row_yes_in : ℕ → ℕ
  row_yes_in t = sum_below (λ p. count (chain_verdict (value_in t p))) l.layout.places

  -- all samples of the line, which has no rounds
  abbrev pub RowsWrittenIn : List ℕ → ℕ → List ℕ → Tally → Type 0
  RowsWrittenIn own samples after = SamplesWritten value_in (λ _ _. 0) l.layout.places (words_of own) 0 samples (words_of after)
