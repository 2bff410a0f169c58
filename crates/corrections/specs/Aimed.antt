-- For contracts alone: the check of all corrections of a list, what is known of a correction that has passed 19, and of a grid that a valid sheet has.
use Rattle.std.specs.Prelude.{◌≡◌, List, ℕ, ◌+◌, ◌*◌, ◌<◌, ◌≤◌, ◌^◌, length}
use Rattle.words.specs.Word.{kind_of, bits}
use Rattle.checks.specs.Limits.{most_places, most_signals}
use Rattle.checks.specs.Checked.{Checked, word_at}
use Rattle.corrections.specs.declared.correction.Grid.{Grid}
use Rattle.corrections.specs.Corrections.{in_turn, count, revision, signal, time, place, value, well_formed}

-- each correction of a list in turn, by 19
abbrev pub all_well_formed : List ℕ → Grid → Checked (Unit {0})
all_well_formed c g = in_turn (well_formed c g) (count c)

-- the limits in which the index of a sample can be found
pub record GridFits (g : Grid) : Type 0 where
  pub begins : g.start < 2 ^ 26
  pub few_places : g.places ≤ most_places
  pub few_signals : g.signals ≤ most_signals

pub record Aimed (c : List ℕ) (g : Grid) (k : ℕ) : Type 0 where
  pub there : k * 3 + 2 < length c
  pub first_kind : kind_of (word_at c (k * 3)) ≡ 11
  pub revised : 1 ≤ revision c k
  pub signal_inside : signal c k < g.signals
  pub time_inside : time c k < g.samples
  pub second_kind : kind_of (word_at c (k * 3 + 1)) ≡ 12
  pub spare : bits 16 12 (word_at c (k * 3 + 1)) ≡ 0
  pub place_inside : place c k < g.places
  pub value_kind : kind_of (value c k) ≡ 4
  pub value_spare : bits 27 1 (value c k) ≡ 0

abbrev pub AllAimed : List ℕ → Grid → ℕ → Type 0
AllAimed c g n = (k : ℕ) → k < n → Aimed c g k
