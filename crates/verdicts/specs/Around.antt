-- For inner contracts only: what the writers of a line over space are given and what they leave.
use Rattle.std.specs.Prelude.{◌≡◌, List, ℕ, ◌+◌, ◌*◌, ◌<◌, ◌≤◌, ◌^◌, length}
use Rattle.words.specs.Bytes.{words_of, numbers_of}
use Rattle.words.specs.Rows.{rows, put}
use Rattle.counting.specs.Totals.{count, sum_below, most_below}
use Rattle.network.specs.Network.{Network}
use Rattle.roads.specs.Roads.{network_of}
use Rattle.distances.specs.Distances.{Measured}
use Rattle.sheet.specs.declared.check.Layout as Code
use Rattle.checks.specs.Limits.{most_places, most_samples}
use Rattle.values.specs.Chain.{highest, chain_word, chain_verdict, Valid}
use Rattle.values.specs.Signals.{signal_in}
use Rattle.lanes.specs.declared.Place.{Place}
use Rattle.lanes.specs.Lanes.{lanes, out_row, row_in}
use Rattle.lanes.specs.Rows.{Room}
use Rattle.lanes.specs.declared.rows.Block.{Block}
use Rattle.surrounds.specs.declared.surround.Surround as Asked
use Rattle.surrounds.specs.Surround.{surround_in, surround_rounds_in}
use Rattle.iteration.specs.Steps.{RoadsIn}
use Rattle.ranges.specs.Ranges.{somewhere_in}
use Rattle.locating.specs.declared.Around.{Around}
use Rattle.locating.specs.declared.Around.TheVariants.{Surround, Range}
use Rattle.samples.specs.declared.tally.Tally.{Tally}
use Rattle.samples.specs.Written.{SamplesWritten}
use Rattle.verdicts.specs.declared.around.SpaceLine.{SpaceLine}

-- n places are room for those of a sheet, and no more than the most
abbrev pub PlacesFit : ℕ → ℕ → Type 0
PlacesFit places n = (places ≤ n) × (n ≤ most_places)

-- the places are there, and the first lanes of their row `out_row` hold chain numbers
pub record LanesBounded (buffer : List Place) (places samples : ℕ) : Type 0 where
  pub few_places : places ≤ most_places
  pub few : samples ≤ lanes
  pub room : Room places buffer
  pub bound : (place lane : ℕ) → place < places → lane < samples → row_in buffer out_row lane place ≤ highest

-- the first lanes of the row are put into the answer from index `to` on, one after the other, and the yes verdicts are told
pub record LanesWritten (buffer : List Place) (places samples : ℕ) (answer : List ℕ) (to : ℕ) (after : List ℕ) (yes : ℕ) : Type 0 where
  pub written : after ≡ put answer to (rows (λ lane l. chain_word (row_in buffer out_row lane l)) samples places)
  pub counted : yes ≡ sum_below (λ lane. sum_below (λ l. count (chain_verdict (row_in buffer out_row lane l))) places) samples

-- the network of the sheet's roads
abbrev pub sheet_network : List ℕ → Code.Layout → Network
sheet_network sheet L = network_of sheet L.places L.roads

-- the operands' signals are written, as chain numbers that can arise, the roads are there, and the distances are theirs
pub record SurroundReads (words : List ℕ) (a : Asked.Surround) (L : Code.Layout) (sheet distances : List ℕ) (samples : ℕ) : Type 0 where
  pub left_there : a.left + samples * L.places ≤ length words
  pub right_there : a.right + samples * L.places ≤ length words
  pub roads_in : RoadsIn sheet L.roads L.places
  pub measured : Measured (sheet_network sheet L) distances
  pub small : a.bounds.upper < 2 ^ 28
  pub left_valid : (t l : ℕ) → t < samples → l < L.places → Valid (signal_in words a.left L.places t l)
  pub right_valid : (t l : ℕ) → t < samples → l < L.places → Valid (signal_in words a.right L.places t l)

abbrev pub AroundReads : List ℕ → Code.Layout → (sheet distances : List ℕ) → Around → ℕ → Type 0
AroundReads words L sheet distances (Surround a) samples = SurroundReads words a L sheet distances samples
AroundReads words L sheet distances (Range a) samples = a.left + samples * L.places ≤ length words

pub record AroundReady (words : List ℕ) (L : Code.Layout) (sheet distances : List ℕ) (around : Around) (samples : ℕ) : Type 0 where
  pub few_places : (1 ≤ L.places) × (L.places ≤ most_places)
  pub few : samples ≤ most_samples
  pub distances_there : L.places * L.places ≤ length distances
  pub reads : AroundReads words L sheet distances around samples

-- the samples of a block can be evaluated side by side
pub record BlockFits (words : List ℕ) (L : Code.Layout) (sheet distances : List ℕ) (around : Around) (b : Block) : Type 0 where
  pub ready : AroundReady words L sheet distances around (b.first + b.count)
  pub some : 1 ≤ b.count
  pub few : b.count ≤ lanes

module _ (words : List ℕ) (L : Code.Layout) (sheet distances : List ℕ) where
  -- the chain number at a sample and a centre, and the rounds there
  abbrev pub around_value : Around → ℕ → ℕ → ℕ
  around_value (Surround a) = surround_in words a (sheet_network sheet L)
  around_value (Range a) = somewhere_in a.dual distances L.places (signal_in words a.left L.places) a.bounds.lower a.bounds.upper

  abbrev pub around_rounds : Around → ℕ → ℕ → ℕ
  around_rounds (Surround a) = surround_rounds_in words a (sheet_network sheet L)
  around_rounds (Range a) = λ _ _. 0

  -- the samples of a block side by side
  pub record BlockFilled (around : Around) (b : Block) (buffer : List Place) (r : ℕ) : Type 0 where
    pub values : (centre lane : ℕ) → centre < L.places → lane < b.count → row_in buffer out_row lane centre ≡ around_value around (b.first + lane) centre
    pub rounds : r ≡ most_below (λ t. most_below (around_rounds around (b.first + t)) L.places) b.count

-- ---- by what is lent to a line: the bytes that it is made from, and its own

module _ (l : SpaceLine) where
  abbrev pub AroundReadyIn : ℕ → Type 0
  AroundReadyIn = AroundReady (words_of l.before.now) l.layout (words_of l.sheet.now) (numbers_of (words_of l.distances.now)) l.around

  abbrev pub BlockFitsIn : Block → Type 0
  BlockFitsIn = BlockFits (words_of l.before.now) l.layout (words_of l.sheet.now) (numbers_of (words_of l.distances.now)) l.around

  abbrev pub BlockFilledIn : Block → List Place → ℕ → Type 0
  BlockFilledIn = BlockFilled (words_of l.before.now) l.layout (words_of l.sheet.now) (numbers_of (words_of l.distances.now)) l.around

  abbrev pub value_in : ℕ → ℕ → ℕ
  value_in = around_value (words_of l.before.now) l.layout (words_of l.sheet.now) (numbers_of (words_of l.distances.now)) l.around

  abbrev pub rounds_in : ℕ → ℕ → ℕ
  rounds_in = around_rounds (words_of l.before.now) l.layout (words_of l.sheet.now) (numbers_of (words_of l.distances.now)) l.around

  module _ (own : List ℕ) where
    -- there are words for so many samples
    abbrev pub OwnRoom : ℕ → Type 0
    OwnRoom samples = samples * l.layout.places ≤ length (words_of own)

    -- so many samples of the line are written, and those of a block
    abbrev pub AroundWrittenIn : ℕ → List ℕ → Tally → Type 0
    AroundWrittenIn samples after = SamplesWritten value_in rounds_in l.layout.places (words_of own) 0 samples (words_of after)

    abbrev pub BlockWrittenIn : Block → List ℕ → Tally → Type 0
    BlockWrittenIn b after =
        SamplesWritten (λ t. value_in (b.first + t)) (λ t. rounds_in (b.first + t)) l.layout.places (words_of own) (b.first * l.layout.places) b.count (words_of after)
