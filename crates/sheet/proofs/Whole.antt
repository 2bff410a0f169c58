-- The whole check from its parts: how the last parts decide it, and what its acceptance tells of each part.
use Prim.Native.Nat.{ℕ, ◌+◌, ◌-◌, ◌*◌, ◌/◌, ◌<◌, ◌≤◌, ◌^◌}
use mathlib.Core.List.{List, []}
use mathlib.Core.Path.{◌≡◌, sym, ◌∙◌, ap, ap₂, subst}
use native.Mathlib.Omega.{arith}
use lib.ListN.{length}
use Rattle.words.specs.Word.{word_of}
use Rattle.formulas.specs.Formulas.{Line}
use Rattle.sheet.specs.declared.check.Layout as Code
use Rattle.checks.specs.Limits.{most_lines}
use Rattle.checks.specs.Checked.{Checked, accepted, refused, ◌>>=◌, word_at}
use Rattle.checks.specs.Heads.{most_of, is_wide}
use Rattle.lines.specs.Lines.{lines_from}
use Rattle.sheet.specs.Layout.{Sizes, Layout, sample_count, head_checked, samples_from, end_checked, checked}
use Rattle.roads.specs.Roads.{road_at, roads_from}
use Rattle.checks.specs.Checked.{mapped}
use Rattle.lines.specs.Decoding.{line_count}
use Rattle.sheet.specs.Checking.{layout_of}
use Rattle.checks.proofs.Checks.{bind_accepted, mapped_accepted, mapped_refused}
use Rattle.checks.proofs.Heads.{few_head_words}
use Rattle.sheet.proofs.Accepted.{SizesWithin, head_passed, head_accepted, sample_count_lem, samples_end, end_accepted, end_mapped}
use Rattle.lines.proofs.Walk.{first_inside}
use Rattle.lines.proofs.FewWords.{table_ends}
use Rattle.roads.proofs.AcceptedRoads.{few_roads}

-- ---- the lines and the end, where what stands before them has passed

module _ (s : List ℕ) (d : ℕ) {z : Sizes} {roads recording table : ℕ}
    (head : head_checked s d ≡ accepted z) (roads_found : roads_from s z.places (length s) 0 0 ≡ accepted roads) (begins : road_at (is_wide s) roads ≡ recording)
    (samples : samples_from s (sample_count z) recording ≡ accepted table) where
  lines_next : checked s d
      ≡ (lines_from s z.signals z.samples most_lines [] table >>= λ found. end_checked s found.1 (record { sizes = z; roads = roads; lines = found.0 }))
  unfolding checked
  lines_next = simp (head, roads_found, begins, samples)

  pub lines_refused : {number place : ℕ} → mapped line_count (lines_from s z.signals z.samples most_lines [] table) ≡ refused number place
      → checked s d ≡ refused number place
  lines_refused e = lines_next ∙ simp (mapped_refused line_count (lines_from s z.signals z.samples most_lines [] table) e)

  end_read : (read : List Line × ℕ) → lines_from s z.signals z.samples most_lines [] table ≡ accepted read
      → checked s d ≡ end_checked s read.1 (record { sizes = z; roads = roads; lines = read.0 })
  end_read read e = lines_next ∙ simp e

  -- the layout as the code has it
  abbrev layout : ℕ → ℕ → ℕ → ℕ → Code.Layout
  layout roads lines recording table = record {
    places = z.places;
    signals = z.signals;
    samples = z.samples;
    roads = roads;
    lines = lines;
    recording = recording;
    table = table;
  }

  pub end_next : {lines next : ℕ} → mapped line_count (lines_from s z.signals z.samples most_lines [] table) ≡ accepted (lines, next)
      → mapped (layout_of s) (checked s d) ≡ end_checked s next (layout ((recording - 1) / 2) lines recording table)
  end_next {lines} {next} e =
      let found = mapped_accepted line_count (lines_from s z.signals z.samples most_lines [] table) e in
      let read : List Line × ℕ = found.0 in
      let spec : Layout = record { sizes = z; roads = roads; lines = read.0 } in
      let ends : read.1 ≡ next = ap (λ (p : ℕ × ℕ). p.1) found.2 in
      let count : length read.0 ≡ lines = ap (λ (p : ℕ × ℕ). p.0) found.2 in
      let road_count : roads ≡ (recording - 1) / 2 = omega (arith, few_head_words (is_wide s)) in
      let after : road_at (is_wide s) roads + sample_count z ≡ table = ap (λ (n : ℕ). n + sample_count z) begins ∙ sym (samples_end s (sample_count z) recording samples) in
      let same : layout_of s spec ≡ layout ((recording - 1) / 2) lines recording table =
      ap (λ (n : ℕ). layout n (length read.0) (road_at (is_wide s) roads) (road_at (is_wide s) roads + sample_count z)) road_count
      ∙ ap (λ (n : ℕ). layout ((recording - 1) / 2) n (road_at (is_wide s) roads) (road_at (is_wide s) roads + sample_count z)) count
      ∙ ap₂ (layout ((recording - 1) / 2) lines) begins after in
      ap (mapped (layout_of s)) (end_read read found.1) ∙ end_mapped (layout_of s) s read.1 spec ∙ ap₂ (end_checked s) ends same

-- ---- what acceptance tells

pub record AcceptedSheet (s : List ℕ) (d : ℕ) (L : Layout) : Type 0 where
  pub distances : L.sizes.places * L.sizes.places ≤ d
  pub head : head_checked s d ≡ accepted (L.sizes)
  pub sizes : SizesWithin (L.sizes)
  pub few : L.sizes.places ≤ most_of (is_wide s)
  pub roads : roads_from s (L.sizes.places) (length s) 0 0 ≡ accepted (L.roads)
  pub recorded : samples_from s (sample_count (L.sizes)) (road_at (is_wide s) (L.roads)) ≡ accepted (layout_of s L).table
  -- the lines stand from `table` on, and the end word is the last
  pub table : lines_from s (L.sizes.signals) (L.sizes.samples) most_lines [] (layout_of s L).table ≡ accepted (L.lines, length s - 1)
  pub table_there : (layout_of s L).table < length s
  pub last : word_at s (length s - 1) ≡ word_of 15 (length s - 1)

pub accepted_sheet : (s : List ℕ) (d : ℕ) (L : Layout) → checked s d ≡ accepted L → AcceptedSheet s d L
unfolding checked
accepted_sheet s d L e =
    let head = bind_accepted (head_checked s d) _ e in
    let passed = head_passed s d head.1 in
    let z = head.0 in
    let roads = bind_accepted (roads_from s z.places (length s) 0 0) _ head.2 in
    let samples = bind_accepted (samples_from s (sample_count z) (road_at (is_wide s) roads.0)) _ roads.2 in
    let lines = bind_accepted (lines_from s z.signals z.samples most_lines [] samples.0) _ samples.2 in
    let ends = end_accepted s lines.0.1 _ lines.2 in
    let begins : samples.0 ≡ road_at (is_wide s) roads.0 + sample_count z = samples_end s (sample_count z) (road_at (is_wide s) roads.0) samples.1 in
    let last : lines.0.1 ≡ length s - 1 = omega (arith, ends.0) in
    let ended : ℕ → Checked (List Line × ℕ) = λ n. accepted (lines.0.0, n) in
    let found : Layout = record { sizes = z; roads = roads.0; lines = lines.0.0 } in
    let sheet : AcceptedSheet s d found = record {
      distances = subst (λ (k : Sizes). k.places * k.places ≤ d) passed.0 passed.2;
      head = head.1;
      sizes = head_accepted s d head.1;
      few = subst (λ (k : Sizes). k.places ≤ most_of (is_wide s)) passed.0 passed.3;
      roads = roads.1;
      recorded = samples.1 ∙ ap accepted begins;
      table = ap (lines_from s z.signals z.samples most_lines []) (sym begins) ∙ lines.1 ∙ ap ended last;
      table_there = subst (λ (n : ℕ). n < length s) begins (first_inside s z.signals z.samples samples.0 lines.1);
      last = subst (λ (n : ℕ). word_at s n ≡ word_of 15 n) last ends.2;
    } in
    subst (AcceptedSheet s d) ends.1 sheet

-- ---- how long it can be: roads rise, and the other sizes have limits
pub few_words : (s : List ℕ) (d : ℕ) (L : Layout) → AcceptedSheet s d L → length s < 2 ^ 26
few_words s d L sheet = omega (
  arith,
  few_head_words (is_wide s),
  few_roads s (L.sizes.places) (length s) (L.roads) sheet.roads,
  (sample_count_lem sheet.sizes).1,
  table_ends s (L.sizes.signals) (L.sizes.samples) most_lines [] (layout_of s L).table sheet.table,
)
