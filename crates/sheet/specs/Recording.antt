-- The network and the recording of a sheet ("The sheet").
use Rattle.std.specs.Prelude.{ℕ, ◌+◌, ◌*◌, List}
use Rattle.words.specs.Word.{sample_of}
use Rattle.network.specs.Network.{Network}
use Rattle.formulas.specs.Formulas.{Recording}
use Rattle.checks.specs.Checked.{word_at}
use Rattle.checks.specs.Heads.{is_wide}
use Rattle.roads.specs.Roads.{road_at, network_of}
use Rattle.sheet.specs.Layout.{Layout}

module _ (s : List ℕ) where
  -- the recording whose samples begin at this index: time outermost, then place, then signal
  abbrev pub recording_of : (start places signals : ℕ) → Recording
  recording_of start places signals signal t l = sample_of (word_at s (start + ((t * places + l) * signals + signal)))

  module _ (L : Layout) where
    unfoldable pub network : Network
    network = network_of s (L.sizes.places) (L.roads)

    -- samples stand after the roads
    unfoldable pub recording : Recording
    recording = recording_of (road_at (is_wide s) (L.roads)) (L.sizes.places) (L.sizes.signals)
