-- What is said of an accepted table depends on the network and the recorded samples alone: two accepted sheets of either head that have the same layout,
-- network and samples are answered with the same verdicts and margins, the same rounds and the same yes count (request M-105).
use mathlib.Core.Path.{◌≡◌, refl, sym, ap, ap₂, ◌∙◌}
use mathlib.Core.Bool.{Bool, true, false, cond}
use mathlib.Core.List.{List}
use Prim.Native.Nat.{ℕ, ◌+◌, ◌<◌}
use native.Mathlib.Omega.{arith}
use lib.Dec.{T, ltb, ltb→lt}
use lib.ListN.{length}
use Rattle.counting.specs.Totals.{count}
use Rattle.counting.proofs.Tests.{and_l, and_r}
use Rattle.counting.proofs.Totals.{sum_same, most_same}
use Rattle.network.specs.Network.{Network}
use Rattle.formulas.specs.Formulas.{has, Line, Recording}
use Rattle.formulas.proofs.Extents.{Has, has_e, has_row}
use Rattle.logic.specs.Table.{verdicts, margins, value_at}
use Rattle.logic.specs.Counts.{greatest_rounds, yes_count}
use Rattle.lines.specs.GoodLines.{extents_of, GoodTable}
use Rattle.sheet.specs.Layout.{Layout}
use Rattle.sheet.specs.Recording.{network, recording}
use Rattle.sheet.proofs.Whole.{AcceptedSheet}
use Rattle.values.specs.Said.{Said, says, nothing}
use Rattle.lookup.specs.Lookup.{said_at}
use Rattle.answers.specs.Meant.{present, meant_at}
use Rattle.answers.specs.Judged.{answered}
use Rattle.answers.proofs.Accepted.{table, answered_says}
use Rattle.answers.proofs.LineValues.{SamplesAgree, operand_rounds_same, values_same}

where_present : (p : Bool) (a b : Said) → (T p → a ≡ b) → cond p a nothing ≡ cond p b nothing
where_present true a b h = h tt
where_present false a b h = refl

-- ---- a table, in two recordings
module _ (N : Network) (v T : ℕ) (lines : List Line) (good : GoodTable v T lines) (x y : Recording) (samples : SamplesAgree v T N.places x y) where
  meant_same : (i t l : ℕ) → meant_at N x lines i t l ≡ meant_at N y lines i t l
  meant_same i t l = where_present (present N lines i t l) _ _ (λ h.
      let inside : i < length lines = ltb→lt i (length lines) (and_l (ltb i (length lines)) _ h) in
      let rest = and_r (ltb i (length lines)) _ h in
      let sample : Has (extents_of lines i) t = has_e (extents_of lines i) t (and_l (has (extents_of lines i) t) _ rest) in
      let place : l < N.places = ltb→lt l (N.places) (and_r (has (extents_of lines i) t) _ rest) in
      ap₂ says
      (values_same N v T lines good verdicts x y samples i t l inside sample place)
      (values_same N v T lines good margins x y samples i t l inside sample place))

  greatest_same : greatest_rounds N x lines ≡ greatest_rounds N y lines
  unfolding greatest_rounds
  greatest_same = most_same _ _ (length lines) (λ i inside. most_same _ _ (extents_of lines i).length (λ u h. most_same _ _ (N.places)
      (λ l b. operand_rounds_same N v T lines good i inside (value_at margins N x lines) (value_at margins N y lines)
      (λ j t m c d e. values_same N v T lines good margins x y samples j t m (omega arith) d e) ((extents_of lines i).first + u) l (has_row (extents_of lines i) u h))))

  count_same : yes_count N x lines ≡ yes_count N y lines
  unfolding yes_count
  count_same = sum_same _ _ (length lines) (λ i inside. sum_same _ _ (extents_of lines i).length (λ u h. sum_same _ _ (N.places)
      (λ l b. ap count (values_same N v T lines good verdicts x y samples i ((extents_of lines i).first + u) l inside (has_row (extents_of lines i) u h) b))))

-- ---- two sheets
module _ (X Y : List ℕ) (dx dy : ℕ) (L : Layout) (in_X : AcceptedSheet X dx L) (in_Y : AcceptedSheet Y dy L) (roads : network X L ≡ network Y L)
    (samples : SamplesAgree (L.sizes.signals) (L.sizes.samples) (L.sizes.places) (recording X L) (recording Y L)) where
  good : GoodTable (L.sizes.signals) (L.sizes.samples) (L.lines)
  good = (table X dx L in_X).good

  pub said_same : (ax ay i t l : ℕ) → said_at (answered X dx ax L).answer i t l ≡ said_at (answered Y dy ay L).answer i t l
  unfolding network
  said_same ax ay i t l =
      answered_says X dx L in_X ax i t l
      ∙ meant_same (network X L) (L.sizes.signals) (L.sizes.samples) (L.lines) good (recording X L) (recording Y L) samples i t l
      ∙ ap (λ (N : Network). meant_at N (recording Y L) (L.lines) i t l) roads
      ∙ sym (answered_says Y dy L in_Y ay i t l)

  pub rounds_same : (ax ay : ℕ) → (answered X dx ax L).result.rounds ≡ (answered Y dy ay L).result.rounds
  unfolding answered network
  rounds_same ax ay =
      greatest_same (network X L) (L.sizes.signals) (L.sizes.samples) (L.lines) good (recording X L) (recording Y L) samples
      ∙ ap (λ (N : Network). greatest_rounds N (recording Y L) (L.lines)) roads

  pub yes_same : (ax ay : ℕ) → (answered X dx ax L).result.yes ≡ (answered Y dy ay L).result.yes
  unfolding answered network
  yes_same ax ay =
      count_same (network X L) (L.sizes.signals) (L.sizes.samples) (L.lines) good (recording X L) (recording Y L) samples
      ∙ ap (λ (N : Network). yes_count N (recording Y L) (L.lines)) roads
