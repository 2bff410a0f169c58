-- A valid sheet laid out anew is valid, has the layout that was asked for, and the check finds in it what it found before: the same sizes, roads and lines.
use mathlib.Core.Path.{◌≡◌, sym, ap, ◌∙◌}
use mathlib.Core.Bool.{Bool, true, false, ◌&&◌}
use mathlib.Core.List.{List, []}
use Prim.Native.Nat.{ℕ, ◌+◌, ◌-◌, ◌*◌, ◌<◌, ◌≤◌}
use native.Mathlib.Nat.{mul-le-mul}
use native.Mathlib.Omega.{arith}
use lib.Dec.{eqb}
use lib.ListN.{length}
use borrow.Author.Tests.{eq-eqb}
use Rattle.words.specs.Word.{kind_of, payload_of, word_of}
use Rattle.counting.proofs.Tests.{holds, and_i}
use Rattle.checks.specs.Limits.{most_lines, least_distances}
use Rattle.checks.specs.Checked.{accepted, word_at, is_kind}
use Rattle.checks.specs.Heads.{most_of, is_wide}
use Rattle.checks.proofs.Checks.{require_accepted}
use Rattle.checks.proofs.Tests.{kind_told, kind_there, kind_other, equal}
use Rattle.checks.proofs.Heads.{few_head_words}
use Rattle.roads.specs.Roads.{road_at, roads_from}
use Rattle.lines.specs.Lines.{lines_from}
use Rattle.sheet.specs.Layout.{Layout, sample_count, head_checked, samples_from, end_checked, checked}
use Rattle.sheet.proofs.Whole.{AcceptedSheet, few_words}
use Rattle.sheet.proofs.Samples.{sample_more}
use Rattle.sheet.proofs.HeadWords.{head_layout, head_passes}
use Rattle.sheet.proofs.Further.{samples_further, lines_further}
use Rattle.conversion.specs.Relaid.{relaid}
use Rattle.conversion.proofs.Words.{many, relaid_length, front, road_word, weight_word, unmoved_word, end_word}
use Rattle.conversion.proofs.Roads.{RoadsLaid, roads_laid}

module _ (to : Bool) (s : List ℕ) (d : ℕ) (L : Layout) (sheet : AcceptedSheet s d L) (few : L.sizes.places ≤ most_of to) where
  abbrev made : List ℕ
  made = relaid to s L

  pub inside : road_at (is_wide s) (L.roads) < length s
  inside = omega (arith, sheet.table_there)

  abbrev rest : ℕ
  rest = many to s L inside

  -- where the end stands in both
  end_index : road_at (is_wide s) (L.roads) + rest ≡ length s - 1
  end_index = omega (arith, inside)

  pub layout_made : is_wide made ≡ to
  layout_made = ap is_wide (front to s L inside) ∙ head_layout (L.sizes) _ sheet.sizes to few

  head_made : (e : ℕ) → least_distances ≤ e → L.sizes.places * L.sizes.places ≤ e → head_checked made e ≡ accepted (L.sizes)
  head_made e least enough = ap (λ w. head_checked w e) (front to s L inside) ∙ head_passes (L.sizes) _ sheet.sizes to e few least enough

  -- at least one sample, which is not moved, follows the roads
  sample_there : (0 < sample_count (L.sizes)) × (sample_count (L.sizes) ≤ rest)
  sample_there =
      let pairs = mul-le-mul sheet.sizes.signals_some sheet.sizes.places_some in
      (mul-le-mul pairs sheet.sizes.samples_some, omega (arith, sheet.table_there))

  first_sample : is_kind 4 s (road_at (is_wide s) (L.roads)) ≡ true
  first_sample = (require_accepted (is_kind 4 s (road_at (is_wide s) (L.roads))) 8 _ _ (sym (sample_more s (sample_count (L.sizes)) (road_at (is_wide s) (L.roads)) sample_there.0) ∙ sheet.recorded)).0

  roads_end_made : is_kind 2 made (road_at to (L.roads)) ≡ false
  roads_end_made =
      let index : road_at to (L.roads) ≡ road_at to (L.roads) + 0 = omega arith in
      let back : road_at (is_wide s) (L.roads) + 0 ≡ road_at (is_wide s) (L.roads) = omega arith in
      let same : word_at made (road_at to (L.roads)) ≡ word_at s (road_at (is_wide s) (L.roads)) =
      ap (word_at made) index ∙ unmoved_word to s L inside 0 (omega (arith, sample_there)) ∙ ap (word_at s) back in
      kind_other made 2 (road_at to (L.roads)) (λ two. omega (arith, two, ap kind_of same, (kind_told 4 s (road_at (is_wide s) (L.roads)) first_sample).1))

  laid : RoadsLaid s made (L.sizes.places) (L.roads)
  laid = record {
    few = sheet.few;
    few_laid = rw layout_made few;
    some = sheet.sizes.places_some;
    road = λ r h. rw layout_made (road_word to s L inside r h);
    weight = λ r h. rw layout_made (weight_word to s L inside r h);
    ends = rw layout_made roads_end_made;
    there = rw layout_made (omega (arith, relaid_length to s L inside));
  }

  roads_made : roads_from made (L.sizes.places) (length made) 0 0 ≡ accepted (L.roads)
  roads_made = roads_laid s made (L.sizes.places) (L.roads) laid (length s) (length made) sheet.roads (omega (arith, relaid_length to s L inside))

  -- ---- what is not moved
  last_word : word_at s (road_at (is_wide s) (L.roads) + rest) ≡ word_of 15 (road_at (is_wide s) (L.roads) + rest)
  last_word = rw end_index sheet.last

  end_kind : kind_of (word_at s (road_at (is_wide s) (L.roads) + rest)) ≡ 15
  end_kind = ap kind_of last_word ∙ omega (arith, end_index, few_words s d L sheet)

  end_kind_made : kind_of (word_at made (road_at to (L.roads) + rest)) ≡ 15
  end_kind_made = ap kind_of (end_word to s L inside) ∙ omega (arith, end_index, few_words s d L sheet, few_head_words to)

  samples_made : samples_from made (sample_count (L.sizes)) (road_at to (L.roads)) ≡ accepted (road_at to (L.roads) + sample_count (L.sizes))
  samples_made = samples_further s made (road_at (is_wide s) (L.roads)) (road_at to (L.roads)) rest (unmoved_word to s L inside) (omega (arith, end_index)) (relaid_length to s L inside) end_kind end_kind_made
      (sample_count (L.sizes)) sheet.recorded

  lines_made : lines_from made (L.sizes.signals) (L.sizes.samples) most_lines [] (road_at to (L.roads) + sample_count (L.sizes)) ≡ accepted (L.lines, road_at to (L.roads) + rest)
  lines_made = lines_further s made (road_at (is_wide s) (L.roads)) (road_at to (L.roads)) rest (unmoved_word to s L inside) (omega (arith, end_index)) (relaid_length to s L inside) end_kind end_kind_made
      (L.sizes.signals) (L.sizes.samples) most_lines (sample_count (L.sizes)) (L.lines) (sheet.table ∙ ap (λ k. accepted (L.lines, k)) (sym end_index))

  end_made : end_checked made (road_at to (L.roads) + rest) L ≡ accepted L
  unfolding end_checked
  end_made =
      let at : ℕ = road_at to (L.roads) + rest in
      let long : length made ≡ at + 1 = relaid_length to s L inside in
      let small : payload_of (word_at made at) ≡ at = ap payload_of (end_word to s L inside) ∙ omega (arith, end_index, few_words s d L sheet, few_head_words to) in
      let counts = and_i (is_kind 15 made at) (eqb (payload_of (word_at made at)) at) (kind_there made 15 at at (omega (arith, long)) (end_word to s L inside) (omega (arith, end_index, few_words s d L sheet, few_head_words to))) (equal (payload_of (word_at made at)) at small) in
      simp (holds (is_kind 15 made at && eqb (payload_of (word_at made at)) at) counts, eq-eqb (length made) (at + 1) long)

  -- whatever is lent, if it is enough
  pub accepted_made : (e : ℕ) → least_distances ≤ e → L.sizes.places * L.sizes.places ≤ e → checked made e ≡ accepted L
  unfolding checked
  accepted_made e least enough = simp (head_made e least enough, roads_made, layout_made, samples_made, lines_made) end_made
