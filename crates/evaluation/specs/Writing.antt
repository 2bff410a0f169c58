-- For inner contracts only: the promises to the outside cite none of it.
-- What the engine makes of a line, from the sheet and from the words that it has written before: the chain reading of the line's operator on
-- the signals of the earlier lines, where `starts` tells at which index each begins and `extents` with which sample.
use Rattle.std.specs.Prelude.{List, ℕ, ◌-◌, ◌*◌, ◌≤◌, length, get_or}
use Rattle.formulas.specs.Formulas.{Operator}
use Rattle.lines.specs.declared.extent.Extent.{Extent}
use Rattle.lines.specs.Decoding.{extent_in}
use Rattle.logic.specs.Table.{Signal, value}
use Rattle.logic.specs.Counts.{rounds_at}
use Rattle.sheet.specs.declared.check.Layout.{Layout}
use Rattle.distances.specs.Distances.{Measured}
use Rattle.values.specs.Chain.{chains, chain_margin}
use Rattle.values.specs.Signals.{signal_in}
use Rattle.verdicts.specs.Rows.{sheet_recording, Recorded}
use Rattle.verdicts.specs.Around.{sheet_network}

-- the signal of an earlier line, by the recording's own samples
abbrev pub earlier : Layout → List ℕ → List ℕ → List Extent → ℕ → Signal chains
earlier L words starts extents j t = signal_in words (get_or starts j 0) L.places (t - (extent_in extents j).first)

module _ (s : List ℕ) (L : Layout) (words starts : List ℕ) (extents : List Extent) where
  unfoldable pub line_value : Operator → Signal chains
  line_value o = value chains (sheet_network s L) (sheet_recording s L) (earlier L words starts extents) o

  unfoldable pub line_rounds : Operator → ℕ → ℕ → ℕ
  line_rounds o t l = rounds_at (sheet_network s L) (λ j u k. chain_margin (earlier L words starts extents j u k)) o t l

-- the sheet's samples are there, and the distances are those of its network
pub record Surveyed (s : List ℕ) (L : Layout) (distances : List ℕ) : Type 0 where
  pub sheet : Recorded s L
  pub room : L.places * L.places ≤ length distances
  pub measured : Measured (sheet_network s L) distances
