-- What a correction that has passed 19 is aimed at: a word of the sheet, and a sample.
use mathlib.Core.Path.{◌≡◌, ap, ◌∙◌}
use mathlib.Core.List.{List}
use Prim.Native.Nat.{ℕ, ◌+◌, ◌*◌, ◌<◌}
use native.Mathlib.Nat.{mul_comm, mul_assoc}
use native.Mathlib.Omega.{arith}
use lib.ListN.{length}
use Rattle.words.proofs.Rows.{in_table}
use Rattle.checks.specs.Checked.{word_at}
use Rattle.checks.specs.Heads.{is_wide}
use Rattle.roads.specs.Roads.{road_at}
use Rattle.sheet.specs.Layout.{Sizes, Layout, sample_count}
use Rattle.sheet.specs.Alike.{IsSample}
use Rattle.sheet.proofs.Samples.{samples_told}
use Rattle.sheet.proofs.Whole.{AcceptedSheet}
use Rattle.corrections.specs.Corrections.{signal, time, place, target}
use Rattle.corrections.specs.Aimed.{Aimed}
use Rattle.correcting.specs.Corrected.{grid_of}

samples_by_time : (z : Sizes) → z.samples * z.places * z.signals ≡ sample_count z
samples_by_time z = mul_assoc z.samples z.places z.signals ∙ mul_comm z.samples (z.places * z.signals) ∙ ap (λ (n : ℕ). n * z.samples) (mul_comm z.places z.signals)

module _ (s : List ℕ) (d : ℕ) (L : Layout) (sheet : AcceptedSheet s d L) (c : List ℕ) (k : ℕ) (aimed : Aimed c (grid_of s L) k) where
  abbrev offset : ℕ
  offset = (time c k * L.sizes.places + place c k) * L.sizes.signals + signal c k

  offset_inside : offset < sample_count (L.sizes)
  offset_inside = omega (arith, samples_by_time (L.sizes), in_table (in_table aimed.time_inside aimed.place_inside) aimed.signal_inside)

  pub target_inside : target c (grid_of s L) k < length s
  target_inside = omega (arith, offset_inside, sheet.table_there)

  pub target_sample : IsSample (word_at s (target c (grid_of s L) k))
  target_sample = samples_told s (sample_count (L.sizes)) (road_at (is_wide s) (L.roads)) sheet.recorded offset offset_inside
