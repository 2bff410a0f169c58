-- What an accepted sheet is to the engine, in the terms of the code's layout: surveyed, with good lines; the walk over them by decoding, in
-- which no line is refused; and where each line of the answer ends.
use mathlib.Core.Path.{◌≡◌, refl, sym, ◌∙◌, ap, subst}
use mathlib.Core.Bool.{Bool}
use mathlib.Core.List.{List}
use Prim.Native.Nat.{ℕ, ◌+◌, ◌*◌, ◌<◌, ◌≤◌, ◌^◌}
use native.Mathlib.Nat.{le_of_lt}
use native.Mathlib.Omega.{arith}
use lib.ListN.{length, get_or, set, take, replicate, get_or-append}
use Rattle.std.specs.Prelude.{Result, Err}
use Rattle.words.specs.Rows.{rows, padded}
use Rattle.words.proofs.Rows.{in_table, length-rows, get_or-rows}
use Rattle.network.specs.Network.{Network, distance_in}
use Rattle.formulas.specs.Formulas.{Line, line_in}
use Rattle.counting.proofs.Totals.{sum_more}
use Rattle.sheet.specs.declared.check.Layout as Code
use Rattle.lines.specs.declared.line.Line as Read
use Rattle.lines.specs.declared.extent.Extent.{Extent}
use Rattle.checks.specs.Limits.{most_lines}
use Rattle.checks.specs.Heads.{is_wide}
use Rattle.sheet.specs.Layout.{Layout}
use Rattle.lines.specs.GoodLines.{GoodTable}
use Rattle.distances.specs.Distances.{distance_number, distance_table}
use Rattle.sheet.specs.Recording.{network}
use Rattle.lines.specs.Decoding.{line_said, line_and_next, line_after, no_extent}
use Rattle.sheet.specs.Checking.{layout_of}
use Rattle.sheet.proofs.Surveys.{accepted_roads}
use Rattle.checks.specs.Checked.{accepted}
use Rattle.checks.specs.Said.{said}
use Rattle.checks.specs.declared.fault.Refusal.{Refusal}
use Rattle.checks.proofs.Checks.{never, same_accepted}
use Rattle.lines.proofs.Walk.{Walk, walk_start, walk_step, walk_within}
use Rattle.sheet.proofs.Whole.{accepted_sheet}
use Rattle.iteration.specs.Steps.{RoadsIn}
use Rattle.iteration.proofs.SheetRoads.{good_roads}
use Rattle.answers.specs.Answer.{line_index}
use Rattle.answers.proofs.WholeAnswer.{InAnswer, index_bound}
use Rattle.answers.proofs.Accepted.{table, sizes}
use Rattle.evaluation.specs.Writing.{Surveyed}
use Rattle.evaluation.specs.Lines.{found, Accepting, line_read, LineThere}
use Rattle.evaluation.specs.Lent.{found_in}

-- ---- the sheet

-- the lines that the check has found in the bytes of a sheet
abbrev pub lines_of : List ℕ → List ℕ → List Line
lines_of sheet distances = (found_in sheet distances).lines

pub record Table (s : List ℕ) (layout : Code.Layout) (distances : List ℕ) (lines : List Line) : Type 0 where
  pub counted : layout.lines ≡ length lines
  pub sizes : InAnswer (is_wide s) layout.places layout.samples lines
  pub good : GoodTable layout.signals layout.samples lines
  pub starts : Walk s layout.signals layout.samples lines 0 layout.table (replicate most_lines no_extent)
  pub surveyed : Surveyed s layout distances
  pub roads : RoadsIn s layout.roads layout.places

-- a distance of the lent table
distance_at : (N : Network) (distances : List ℕ) → distances ≡ padded (distance_table N) (length distances) → (a b : ℕ) → a < N.places → b < N.places
    → get_or distances (a * N.places + b) 0 ≡ distance_number (distance_in N a b)
unfolding distance_table
distance_at N distances measured a b h k =
    let table : ℕ → ℕ → ℕ = λ a b. distance_number (distance_in N a b) in
    ap (λ (d : List ℕ). get_or d (a * N.places + b) 0) measured
    ∙ get_or-append (rows table (N.places) (N.places)) _ 0 (a * N.places + b) (rw (length-rows table (N.places) (N.places)) (in_table h k))
    ∙ get_or-rows table (N.places) (N.places) a b 0 h k

pub accepted_table : (s : List ℕ) (layout : Code.Layout) (distances : List ℕ) → Accepting s layout distances → Table s layout distances (found s (length distances)).lines
unfolding network
accepted_table s layout distances accepting =
    let d : ℕ = length distances in
    let L : Layout = found s d in
    let sheet = accepted_sheet s d L accepting.accepts in
    let (good_road, room) = accepted_roads s d L accepting.accepts in
    let within = sheet.sizes in
    subst (λ (y : Code.Layout). Table s y distances L.lines) (sym accepting.laid) (record {
      counted = refl;
      sizes = sizes s d L sheet;
      good = (table s d L sheet).good;
      starts = walk_start s L.sizes.signals L.sizes.samples (layout_of s L).table sheet.table no_extent;
      surveyed = record {
        sheet = record {
          places = (within.places_some, within.places_most);
          signals = within.signals_most;
          samples = within.samples_most;
          recorded = le_of_lt sheet.table_there;
        };
        room = room;
        measured = record { number = distance_at (network s L) distances accepting.measured };
      };
      roads = good_roads s L.roads L.sizes.places good_road;
    })

-- ---- a line that is decoded where the walk has come to is as the check has read it

module _ (s : List ℕ) (v T : ℕ) (lines : List Line) (k at : ℕ) (extents : List Extent) (walk : Walk s v T lines k at extents) (more : k < length lines)
    (decoded : Result (Read.Line × ℕ) Refusal) (reads : said line_and_next decoded ≡ line_after s v T (take k extents) at) where
  pub never_refused : (refusal : Refusal) → decoded ≡ Err refusal → ⊥
  never_refused refusal e = never (sym (ap (said line_and_next) e) ∙ reads ∙ (walk_step s v T lines k at extents walk more).reads)

-- ---- where a line of the answer ends

pub record Ends (wide : Bool) (n : ℕ) (lines : List Line) (k size : ℕ) : Type 0 where
  pub index : line_index wide n lines k + (1 + size * n) ≡ line_index wide n lines (k + 1)
  pub small : line_index wide n lines (k + 1) < 2 ^ 28

pub line_ends : (wide : Bool) (n T : ℕ) (lines : List Line) (k : ℕ) → k < length lines → {line : Line} → InAnswer wide n T lines → line ≡ line_in lines k → Ends wide n lines k line.extent.length
unfolding line_index
line_ends wide n T lines k inside within said = record {
  index = omega (arith, sum_more (λ i. 1 + (line_in lines i).extent.length * n) k, ap (λ (l : Line). l.extent.length * n) said);
  small = omega (arith, index_bound wide n T lines within (k + 1) (omega arith), within.count);
}

-- ---- one turn over the lines of a sheet that is accepted
module _ {s : List ℕ} {layout : Code.Layout} {distances : List ℕ} (accepting : Accepting s layout distances) where
  abbrev pub all : List Line
  all = (found s (length distances)).lines

  pub table_known : Table s layout distances (found s (length distances)).lines
  table_known = accepted_table s layout distances accepting

  pub few_lines : layout.lines ≤ most_lines
  few_lines = omega (arith, table_known.counted, table_known.sizes.count)

  pub all_lines : (k : ℕ) → k ≤ length all → layout.lines ≤ k → k ≡ length (found s (length distances)).lines
  all_lines k passed ended = omega (arith, table_known.counted)

  module _ (k : ℕ) (turn : k < layout.lines) where
    pub more_lines : k < length (found s (length distances)).lines
    more_lines = omega (arith, table_known.counted)

    module _ {at : ℕ} {extents : List Extent} (walk : Walk s layout.signals layout.samples all k at extents) where
      -- a line is read there as the check has read it
      pub turn_there : LineThere s layout (take k extents) at
      turn_there =
          let step = walk_step _ _ _ _ k at extents walk more_lines in
          record { there = step.there; within = walk_within _ _ _ _ k at extents walk; found = (line_in all k, step.next); reads = step.reads }

      pub turn_unrefused : {decoded : Result (Read.Line × ℕ) Refusal} → said line_and_next decoded ≡ line_read s layout (take k extents) at → {refusal : Refusal} → decoded ≡ Err refusal → ⊥
      turn_unrefused {decoded} reads e = never_refused _ _ _ _ k at extents walk more_lines decoded reads _ e

      module _ (read : Read.Line × ℕ) (reads : line_read s layout (take k extents) at ≡ accepted (line_and_next read)) where
        same : line_and_next read ≡ (line_in all k, (walk_step _ _ _ _ k at extents walk more_lines).next)
        same = same_accepted (sym reads ∙ (walk_step _ _ _ _ k at extents walk more_lines).reads)

        pub turn_said : line_said read.0 ≡ line_in all k
        turn_said = ap (λ (r : Line × ℕ). r.0) same

        pub turn_passed : Walk s layout.signals layout.samples all (k + 1) read.1 (set extents k read.0.extent)
        turn_passed =
            let step = walk_step _ _ _ _ k at extents walk more_lines in
            subst (λ (next : ℕ). Walk s layout.signals layout.samples all (k + 1) next (set extents k read.0.extent)) (sym (ap (λ (r : Line × ℕ). r.1) same))
            (step.walk read.0.extent (ap (λ (l : Line). l.extent) turn_said))

        pub turn_ends : Ends (is_wide s) layout.places all k read.0.extent.length
        turn_ends = line_ends _ _ _ _ k more_lines table_known.sizes turn_said
