-- Two accepted sheets alike in every word but their samples have the same network, and recordings that are related as the samples are: at most d apart
-- (demand 3), or no lower (M-103).
use mathlib.Core.Path.{◌≡◌}
use mathlib.Core.Logic.{⊎_elim}
use mathlib.Core.List.{List}
use Prim.Native.Nat.{ℕ, ◌+◌, ◌*◌, ◌<◌, ◌≤◌, zero-le}
use native.Mathlib.Omega.{arith}
use lib.Dec.{T, le→leb}
use lib.ListN.{length}
use lib.IntN.{ℤ, pos, negsuc, nat_abs, ◌-ℤ◌, +ℤ_invr}
use lib.Signed.{le_z}
use Rattle.words.specs.Word.{payload_of, sample_of}
use Rattle.checks.specs.Checked.{word_at}
use Rattle.checks.specs.Heads.{is_wide}
use Rattle.sheet.specs.Layout.{Layout}
use Rattle.roads.specs.Roads.{road_at, weight_at, way_forth, way_back, GoodRoad}
use Rattle.sheet.specs.Recording.{network, recording}
use Rattle.sheet.specs.Alike.{AlikeButSamples, SamplesApart, SamplesRaised}
use Rattle.sheet.proofs.Whole.{AcceptedSheet}
use Rattle.roads.proofs.AcceptedRoads.{road_good}
use Rattle.roads.proofs.SameRoads.{SameRoad, networks_same}
use Rattle.sheet.proofs.SameLayout.{word_same, words_alike, layout_same}

module _ (Related : ℤ → ℤ → Type 0) (X Y : List ℕ) (alike : AlikeButSamples Related X Y) (dy : ℕ) (L : Layout) (y : AcceptedSheet Y dy L) where
  road_same : (r : ℕ) → r < L.roads → SameRoad X Y r
  road_same r h =
      let good : GoodRoad Y (L.sizes.places) r = road_good Y (L.sizes.places) (length Y) 0 0 (L.roads) y.roads r zero-le h in
      let wide = layout_same Related X Y alike in
      let road : word_at X (road_at (is_wide X) r) ≡ word_at Y (road_at (is_wide Y) r) = rw wide (word_same Related X Y alike 2 (road_at (is_wide Y) r) tt good.road) in
      let weight : word_at X (weight_at (is_wide X) r) ≡ word_at Y (weight_at (is_wide Y) r) = rw wide (word_same Related X Y alike 3 (weight_at (is_wide Y) r) tt good.weight) in
      record { forth = λ i. way_forth (wide i) (road i); back = λ i. way_back (wide i) (road i); weight = λ i. payload_of (weight i) }

  pub network_same : network X L ≡ network Y L
  unfolding network
  network_same = networks_same X Y (L.roads) road_same (L.sizes.places)

-- the samples are related, or the same
module _ (Related : ℤ → ℤ → Type 0) (itself : (z : ℤ) → Related z z) (X Y : List ℕ) (alike : AlikeButSamples Related X Y) (L : Layout) where
  recordings_related : (signal t l : ℕ) → Related (recording X L signal t l) (recording Y L signal t l)
  unfolding recording
  recordings_related signal t l =
      let at : ℕ = road_at (is_wide Y) (L.roads) + ((t * L.sizes.places + l) * L.sizes.signals + signal) in
      rw (layout_same Related X Y alike) (⊎_elim (λ e. rw e (itself (sample_of (word_at Y at)))) (λ both. both.related) (words_alike Related X Y alike at))

pub recordings_near : (d : ℕ) (X Y : List ℕ) → SamplesApart d X Y → (L : Layout) (signal t l : ℕ) → nat_abs (recording X L signal t l -ℤ recording Y L signal t l) ≤ d
recordings_near d = recordings_related (λ x y. nat_abs (x -ℤ y) ≤ d) (λ z. rw (+ℤ_invr z) zero-le)

le_z_self : (z : ℤ) → T (le_z z z)
le_z_self (pos a) = le→leb a a (omega arith)
le_z_self (negsuc a) = le→leb a a (omega arith)

pub recordings_raised : (X Y : List ℕ) → SamplesRaised X Y → (L : Layout) (signal t l : ℕ) → T (le_z (recording X L signal t l) (recording Y L signal t l))
recordings_raised = recordings_related (λ x y. T (le_z x y)) le_z_self
