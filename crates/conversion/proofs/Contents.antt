-- A sheet laid out anew has the same network and the same recording.
use mathlib.Core.Path.{◌≡◌, sym, ap}
use mathlib.Core.Bool.{Bool}
use mathlib.Core.List.{List}
use Prim.Native.Nat.{ℕ, ◌+◌, ◌*◌, ◌<◌, ◌≤◌}
use native.Mathlib.Omega.{arith}
use Rattle.words.specs.Word.{payload_of, sample_of}
use Rattle.words.proofs.Rows.{in_table}
use Rattle.checks.specs.Heads.{most_of, is_wide}
use Rattle.roads.proofs.SameRoads.{SameRoad, networks_same}
use Rattle.sheet.specs.Layout.{Layout}
use Rattle.sheet.specs.Recording.{network, recording}
use Rattle.sheet.proofs.Whole.{AcceptedSheet}
use Rattle.answers.proofs.LineValues.{SamplesAgree}
use Rattle.conversion.specs.Relaid.{relaid}
use Rattle.conversion.proofs.Words.{weight_word, unmoved_word}
use Rattle.conversion.proofs.Accepted.{inside, layout_made}
use Rattle.conversion.proofs.Back.{road_says}

module _ (to : Bool) (s : List ℕ) (d : ℕ) (L : Layout) (sheet : AcceptedSheet s d L) (few : L.sizes.places ≤ most_of to) where
  wide : is_wide (relaid to s L) ≡ to
  wide = layout_made to s d L sheet few

  road_same : (r : ℕ) → r < L.roads → SameRoad s (relaid to s L) r
  road_same r h =
      let says = road_says s d L sheet to few r h in
      record {
        forth = rw wide (λ i. record { from = sym says.first i; to = sym says.second i; runs = sym says.forth i });
        back = rw wide (λ i. record { from = sym says.second i; to = sym says.first i; runs = sym says.back i });
        weight = rw wide (ap payload_of (sym (weight_word to s L (inside to s d L sheet few) r h)));
      }

  pub network_relaid : network s L ≡ network (relaid to s L) L
  unfolding network
  network_relaid = networks_same s (relaid to s L) (L.roads) road_same (L.sizes.places)

  pub recording_relaid : SamplesAgree (L.sizes.signals) (L.sizes.samples) (L.sizes.places) (recording s L) (recording (relaid to s L) L)
  unfolding recording
  recording_relaid signal t l h k b =
      let row = in_table k b in
      let index = in_table row h in
      rw wide (ap sample_of (sym (unmoved_word to s L (inside to s d L sheet few) ((t * L.sizes.places + l) * L.sizes.signals + signal) (omega (arith, index, sheet.table_there)))))
