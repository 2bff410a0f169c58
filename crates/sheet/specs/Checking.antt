-- For contracts alone, with nothing of document 01: what the code's answers of the check say, in the terms of `Layout`.
use Rattle.std.specs.Prelude.{ℕ, ◌+◌, List, length}
use Rattle.sheet.specs.declared.stages.Sizes as S
use Rattle.sheet.specs.declared.check.Layout as F
use Rattle.checks.specs.Checked.{Checked, mapped}
use Rattle.checks.specs.Heads.{is_wide}
use Rattle.sheet.specs.Layout.{Sizes, Layout, sample_count, checked, validated}
use Rattle.roads.specs.Roads.{road_at}

-- ---- the parts of a sheet

abbrev pub sizes_said : S.Sizes → Sizes
sizes_said z = record { places = z.places; signals = z.signals; samples = z.samples }

-- ---- the whole sheet, by its words and what its check finds

abbrev pub layout_of : List ℕ → Layout → F.Layout
layout_of s L = record {
  places = L.sizes.places;
  signals = L.sizes.signals;
  samples = L.sizes.samples;
  roads = L.roads;
  lines = length (L.lines);
  recording = road_at (is_wide s) (L.roads);
  table = road_at (is_wide s) (L.roads) + sample_count (L.sizes);
}

abbrev pub layout_checked : List ℕ → ℕ → Checked F.Layout
layout_checked s distances = mapped (layout_of s) (checked s distances)

abbrev pub layout_validated : List ℕ → Checked F.Layout
layout_validated s = mapped (layout_of s) (validated s)
