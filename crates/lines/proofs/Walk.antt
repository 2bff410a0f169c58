-- A walk over the lines of an accepted sheet: line k is read at an index, from the extents of the lines before it, and leads to line k + 1.
use Prim.Native.Nat.{ℕ, zero, suc, ◌+◌, ◌-◌, ◌<◌, ◌≤◌, zero-le}
use native.Mathlib.Decide.{dec_lt}
use mathlib.Core.Bool.{not}
use mathlib.Core.List.{List, [], ◌∷◌, ◌++◌}
use mathlib.Core.Logic.{⊎_elim}
use mathlib.Core.Path.{◌≡◌, refl, sym, ◌∙◌, ap, fun_ext, subst}
use native.Mathlib.Omega.{arith}
use lib.ListN.{length, get_or, set, take, replicate, length-append, length-set, length-replicate, get_or-eq_default}
use lib.Seq.{length-take-le, take-length, take-take, take-append_seam, get_or-take, get_or_at}
use Rattle.formulas.specs.Formulas as Formulas
use Rattle.formulas.specs.Formulas.{end_of, Line, no_line, line_in}
use Rattle.checks.specs.Limits.{most_lines}
use Rattle.checks.specs.Checked.{accepted, is_kind}
use Rattle.lines.specs.Lines.{line_at, lines_from}
use Rattle.lines.specs.GoodLines.{GoodTable, extents_of}
use Rattle.lines.specs.declared.extent.Extent.{Extent}
use Rattle.lines.specs.Decoding.{extent_said, extent_in, ExtentsWithin, line_after}
use Rattle.checks.proofs.Checks.{same_accepted, require_accepted}
use Rattle.checks.proofs.Tests.{kind_told}
use Rattle.lines.proofs.Reading.{Stopped, LineRead, stop_or_read}
use Rattle.lines.proofs.AcceptedLines.{good_end, table_good}
use Rattle.lines.proofs.Lines.{Extents, extents_set}

module _ (s : List ℕ) (v T : ℕ) where
  -- ---- what was found stands in front of what will be

  record Front (room : ℕ) (found lines : List Line) : Type 0 where
    kept : take (length found) lines ≡ found
    least : length found ≤ length lines
    most : length lines ≤ length found + room

  found_front : (room : ℕ) (found lines : List Line) → found ≡ lines → Front room found lines
  found_front room found lines same =
      let count = ap length same in
      record { kept = rw (← same) (take-length found); least = omega arith; most = omega arith }

  lines_front : (room : ℕ) (found : List Line) (at : ℕ) {lines : List Line} {end : ℕ} → lines_from s v T room found at ≡ accepted (lines, end)
      → Front room found lines
  unfolding lines_from
  lines_front zero found at {lines} e =
      let told = require_accepted (not (is_kind 5 s at)) 10 at _ e in
      found_front zero found lines (ap (λ (read : List Line × ℕ). read.0) (same_accepted told.1))
  lines_front (suc room) found at {lines} e =
      ⊎_elim (λ stop. found_front (suc room) found lines stop.same)
      (λ read. one_less read.line (lines_front room (found ++ (read.line ∷ [])) read.next read.rest))
      (stop_or_read s v T room found at e)
    where
      one_less : (line : Line) → Front room (found ++ (line ∷ [])) lines → Front (suc room) found lines
      one_less line front =
          let more = length-append found (line ∷ []) in
          let least = front.least in
          let most = front.most in
          record {
            kept = sym (take-take (length found) (length (found ++ (line ∷ []))) lines (omega arith)) ∙ ap (take (length found)) front.kept
                ∙ take-append_seam found (line ∷ []);
            least = omega arith;
            most = omega arith;
          }

-- ---- there is a first line

pub first_inside : (s : List ℕ) (v T at : ℕ) {lines : List Line} {end : ℕ} → lines_from s v T most_lines [] at ≡ accepted (lines, end) → at < length s
first_inside s v T at {lines} e = ⊎_elim (λ stop. absurd (none stop)) (λ read. (kind_told 5 s at read.kind_5).0) (stop_or_read s v T 63 [] at e)
  where
    none : Stopped s v T [] lines → ⊥
    none stop = let same = ap length stop.same in let some = stop.some in omega arith

-- ---- the walk

-- before line k: its index, the extents of the lines before it in an array, and that the lines from here on are those left
pub record Walk (s : List ℕ) (v T : ℕ) (lines : List Line) (k at : ℕ) (extents : List Extent) : Type 0 where
  pub good : GoodTable v T lines
  pub passed : k ≤ length lines
  pub room : length extents ≡ most_lines
  pub known : Extents (take k lines) (take k extents)
  pub end : ℕ
  pub rest : lines_from s v T (most_lines - k) (take k lines) at ≡ accepted (lines, end)

pub walk_start : (s : List ℕ) (v T start : ℕ) {lines : List Line} {end : ℕ} → lines_from s v T most_lines [] start ≡ accepted (lines, end)
    → (none : Extent) → Walk s v T lines 0 start (replicate most_lines none)
walk_start s v T start {lines} {end} e none = record {
  good = (table_good s v T start (lines, end) e).good;
  passed = omega arith;
  room = length-replicate most_lines none;
  known = λ i. refl;
  end = end;
  rest = e;
}

-- the extent of a line before
pub walk_extent : (s : List ℕ) (v T : ℕ) (lines : List Line) (k at : ℕ) (extents : List Extent) → Walk s v T lines k at extents → (i : ℕ) → i < k
    → extent_in (take k extents) i ≡ (line_in lines i).extent
walk_extent s v T lines k at extents walk i h = walk.known i ∙ ap (λ (line : Line). line.extent) (get_or-take k lines i no_line h)

-- no line before ends beyond the samples
pub walk_within : (s : List ℕ) (v T : ℕ) (lines : List Line) (k at : ℕ) (extents : List Extent) → Walk s v T lines k at extents → ExtentsWithin T (take k extents)
walk_within s v T lines k at extents walk i = subst (λ (e : Formulas.Extent). end_of e ≤ T) (sym (walk.known i)) (go (dec_lt i k))
  where
    go : Dec (i < k) → end_of (line_in (take k lines) i).extent ≤ T
    go (yes h) = rw (get_or-take k lines i no_line h) (good_end v T lines walk.good i)
    go (no h) = rw (get_or-eq_default (take k lines) no_line {n = i} (omega (arith, length-take-le k lines walk.passed))) zero-le

-- line k is read there, and the walk goes on with its extent
pub record Step (s : List ℕ) (v T : ℕ) (lines : List Line) (k at : ℕ) (extents : List Extent) : Type 0 where
  pub few : k < most_lines
  pub next : ℕ
  pub there : at < length s
  pub reads : line_after s v T (take k extents) at ≡ accepted (line_in lines k, next)
  pub walk : (e : Extent) → extent_said e ≡ (line_in lines k).extent → Walk s v T lines (k + 1) next (set extents k e)

module _ (s : List ℕ) (v T : ℕ) (lines : List Line) (k at : ℕ) (extents : List Extent) (walk : Walk s v T lines k at extents) (more : k < length lines) where
  before : length (take k lines) ≡ k
  before = length-take-le k lines walk.passed

  few : k < most_lines
  few = let front = (lines_front s v T (most_lines - k) (take k lines) at walk.rest).most in let count = before in omega arith

  step_read : LineRead s v T (most_lines - (k + 1)) (take k lines) at lines walk.end → Step s v T lines k at extents
  step_read read = record {
    few = few;
    next = read.next;
    there = (kind_told 5 s at read.kind_5).0;
    reads = rw is_line reads;
    walk = λ e same. record {
      good = walk.good;
      passed = omega arith;
      room = length-set extents k e ∙ walk.room;
      known = let below = few in subst (λ (found : List Line). Extents found (take (k + 1) (set extents k e))) (sym taken)
          (extents_set (take k lines) read.line extents k e before (omega (arith, walk.room)) (same ∙ ap (λ (line : Line). line.extent) is_line) walk.known);
      end = walk.end;
      rest = subst (λ (found : List Line). lines_from s v T (most_lines - (k + 1)) found read.next ≡ accepted (lines, walk.end)) (sym taken) read.rest;
    };
  }
    where
      taken : take (k + 1) lines ≡ take k lines ++ (read.line ∷ [])
      taken =
          let count : length (take k lines ++ (read.line ∷ [])) ≡ k + 1 = length-append (take k lines) (read.line ∷ []) ∙ ap (λ (n : ℕ). n + 1) before in
          rw (← count) (lines_front s v T (most_lines - (k + 1)) (take k lines ++ (read.line ∷ [])) read.next read.rest).kept

      is_line : line_in lines k ≡ read.line
      is_line =
          sym (get_or-take (k + 1) lines k no_line (omega arith)) ∙ ap (λ (l : List Line). get_or l k no_line) taken
          ∙ get_or_at (take k lines) read.line [] no_line k before

      reads : line_after s v T (take k extents) at ≡ accepted (read.line, read.next)
      reads =
          let below = few in
          ap (λ (f : ℕ → Formulas.Extent). line_at s v T (length (take k extents)) f at) (fun_ext walk.known)
          ∙ ap (λ (n : ℕ). line_at s v T n (extents_of (take k lines)) at) (length-take-le k extents (omega (arith, walk.room)) ∙ sym before) ∙ read.reads

  pub walk_step : Step s v T lines k at extents
  walk_step =
      let below = few in
      let room : most_lines - k ≡ suc (most_lines - (k + 1)) = omega arith in
      let rest : lines_from s v T (suc (most_lines - (k + 1))) (take k lines) at ≡ accepted (lines, walk.end) =
      ap (λ (m : ℕ). lines_from s v T m (take k lines) at) (sym room) ∙ walk.rest in
      ⊎_elim (λ stop. absurd (left_over stop)) step_read (stop_or_read s v T (most_lines - (k + 1)) (take k lines) at rest)
    where
      left_over : Stopped s v T (take k lines) lines → ⊥
      left_over stop = let same = ap length stop.same in let count = before in omega arith
