-- The lines one by one: what the loop over them knows, what one more adds, and what ends them.
use Prim.Native.Nat.{ℕ, zero, suc, ◌+◌, ◌-◌, ◌<◌, ◌≤◌}
use mathlib.Core.Bool.{true, false}
use mathlib.Core.List.{List, [], ◌∷◌, ◌++◌}
use mathlib.Core.Path.{◌≡◌, refl, sym, ◌∙◌, ap, fun_ext, subst}
use native.Mathlib.Nat.{not-suc-le-zero}
use native.Mathlib.Omega.{arith}
use lib.ListN.{length, set, take, replicate, length-append, length-set, length-replicate}
use lib.Seq.{length-take-le}
use Rattle.std.proofs.lemmas.List.{take_more_set}
use Rattle.formulas.specs.Formulas as Formulas
use Rattle.formulas.specs.Formulas.{end_of, Line, line_in}
use Rattle.checks.specs.Limits.{most_lines}
use Rattle.checks.specs.Checked.{accepted, refused, ◌>>=◌, mapped, is_kind}
use Rattle.lines.specs.Lines.{line_at, lines_from}
use Rattle.lines.specs.GoodLines.{GoodTable, extents_of}
use Rattle.lines.specs.declared.extent.Extent.{Extent}
use Rattle.lines.specs.Decoding.{extent_said, no_extent, extent_in, ExtentsWithin, line_after, line_count, table_at}
use Rattle.lines.proofs.Filled.{filled, take_filled, set_filled}
use Rattle.lines.proofs.Reading.{lines_over, lines_stop, lines_end, line_more}
use Rattle.lines.proofs.AcceptedLines.{good_end, line_good, good_more}

-- ---- the extents of the lines that were read

abbrev pub Extents : List Line → List Extent → Type 0
Extents found earlier = (i : ℕ) → extent_in earlier i ≡ (line_in found i).extent

pub extents_none : (n : ℕ) → Extents [] (replicate n no_extent)
extents_none zero i = refl
extents_none (suc n) zero = refl
extents_none (suc n) (suc i) = extents_none n i

pub extents_more : (found : List Line) (line : Line) (earlier : List Extent) (e : Extent) → length found ≡ length earlier → extent_said e ≡ line.extent
    → Extents found earlier → Extents (found ++ (line ∷ [])) (earlier ++ (e ∷ []))
extents_more [] line [] e count same known zero = same
extents_more [] line [] e count same known (suc i) = refl
extents_more [] line (x ∷ earlier) e count same known i = absurd (omega arith)
extents_more (l ∷ found) line [] e count same known i = absurd (omega arith)
extents_more (l ∷ found) line (x ∷ earlier) e count same known zero = known zero
extents_more (l ∷ found) line (x ∷ earlier) e count same known (suc i) = extents_more found line earlier e (omega arith) same (λ k. known (suc k)) i

-- one line more, its extent put behind theirs in an array
pub extents_set : (found : List Line) (line : Line) (extents : List Extent) (lines : ℕ) (e : Extent) → length found ≡ lines → lines < length extents → extent_said e ≡ line.extent
    → Extents found (take lines extents) → Extents (found ++ (line ∷ [])) (take (lines + 1) (set extents lines e))
extents_set found line extents lines e count short same known =
    let earlier : length (take lines extents) ≡ lines = length-take-le lines extents (omega arith) in
    subst (Extents (found ++ (line ∷ []))) (sym (take_more_set extents lines e short)) (extents_more found line (take lines extents) e (count ∙ sym earlier) same known)

-- ---- the loop

-- the loop after so many lines: which they are, their extents, and that what is left decides the whole
pub record Lines (s : List ℕ) (v T start : ℕ) (extents : List Extent) (lines at : ℕ) : Type 0 where
  pub found : List Line
  pub count : length found ≡ lines
  pub bounded : lines ≤ most_lines
  pub room : length extents ≡ most_lines
  pub known : Extents found (take lines extents)
  pub good : GoodTable v T found
  pub rest : lines_from s v T most_lines [] start ≡ lines_from s v T (most_lines - lines) found at

pub lines_start : (s : List ℕ) (v T start : ℕ) (e : Extent) → Lines s v T start (replicate most_lines e) 0 start
lines_start s v T start e = record {
  found = [];
  count = refl;
  bounded = omega arith;
  room = length-replicate most_lines e;
  known = λ i. refl;
  good = λ k h. absurd (not-suc-le-zero h);
  rest = refl;
}

module _ (s : List ℕ) (v T start : ℕ) {extents : List Extent} {lines at : ℕ} (so_far : Lines s v T start extents lines at) where
  pub lines_within : ExtentsWithin T (take lines extents)
  lines_within i = subst (λ (e : Formulas.Extent). end_of e ≤ T) (sym (so_far.known i)) (good_end v T so_far.found so_far.good i)

  -- the next line, by the extents before it
  same_line : line_at s v T (length so_far.found) (extents_of so_far.found) at ≡ line_after s v T (take lines extents) at
  same_line =
      let bounded = so_far.bounded in
      let earlier : length (take lines extents) ≡ lines = length-take-le lines extents (omega (arith, so_far.room)) in
      ap (λ (n : ℕ). line_at s v T n (extents_of so_far.found) at) (so_far.count ∙ sym earlier)
      ∙ sym (ap (λ (known : ℕ → Formulas.Extent). line_at s v T (length (take lines extents)) known at) (fun_ext so_far.known))

  pub none_found : is_kind 5 s at ≡ false → lines ≡ 0 → refused 10 at ≡ table_at s v T start
  none_found other none = sym (ap (mapped line_count) over)
    where
      empty : (found : List Line) → length found ≡ 0 → lines_from s v T most_lines found at ≡ refused 10 at
      empty [] e = lines_stop s v T 63 [] at other
      empty (line ∷ found) e = absurd (omega arith)

      over : lines_from s v T most_lines [] start ≡ refused 10 at
      over = so_far.rest ∙ rw none (empty so_far.found (so_far.count ∙ none))

  pub all_found : is_kind 5 s at ≡ false → (lines ≡ 0 → ⊥) → accepted (lines, at) ≡ table_at s v T start
  all_found other some =
      let count = so_far.count in
      let all : lines_from s v T most_lines [] start ≡ accepted (so_far.found, at) = so_far.rest ∙ lines_end s v T (most_lines - lines) so_far.found at other (omega arith) in
      sym (ap (mapped line_count) all ∙ ap (λ (n : ℕ). accepted (n, at)) count)

  module _ (kind_5 : is_kind 5 s at ≡ true) where
    pub too_many : lines ≡ most_lines → refused 10 at ≡ table_at s v T start
    too_many full =
        let over : lines_from s v T most_lines [] start ≡ refused 10 at = so_far.rest ∙ rw full (lines_over s v T so_far.found at kind_5) in
        sym (ap (mapped line_count) over)

    one_more : (lines ≡ most_lines → ⊥)
        → lines_from s v T most_lines [] start
        ≡ (line_after s v T (take lines extents) at >>= λ read.
        lines_from s v T (most_lines - (lines + 1)) (so_far.found ++ (read.0 ∷ [])) read.1)
    one_more more =
        let bounded = so_far.bounded in
        let room : most_lines - lines ≡ suc (most_lines - (lines + 1)) = omega arith in
        let found = so_far.found in
        so_far.rest ∙ ap (λ (m : ℕ). lines_from s v T m found at) room ∙ line_more s v T (most_lines - (lines + 1)) found at kind_5 ∙ rw same_line

    pub line_refused : (lines ≡ most_lines → ⊥) → {number place : ℕ} → line_after s v T (take lines extents) at ≡ refused number place
        → lines_from s v T most_lines [] start ≡ refused number place
    line_refused more e = one_more more ∙ simp e

    pub line_passed : (lines ≡ most_lines → ⊥) → {line : Line} {next : ℕ} → line_after s v T (take lines extents) at ≡ accepted (line, next)
        → (e : Extent) → extent_said e ≡ line.extent → Lines s v T start (set extents lines e) (lines + 1) next
    line_passed more {line} {next} reads e same =
        let bounded = so_far.bounded in
        let room = so_far.room in
        let count = so_far.count in
        record {
          found = so_far.found ++ (line ∷ []);
          count = length-append so_far.found (line ∷ []) ∙ omega arith;
          bounded = omega arith;
          room = length-set extents lines e ∙ room;
          known = extents_set so_far.found line extents lines e count (omega arith) same so_far.known;
          good = good_more v T so_far.found line so_far.good (line_good s v T so_far.found at (line, next) so_far.good (same_line ∙ reads));
          rest = one_more more ∙ simp reads;
        }

-- what the loop knows of one more line
pub ruleset line_laws = (lines_within, line_refused, line_passed)

-- ---- the extents that were read, in a vector

module _ (s : List ℕ) (v T start : ℕ) (extents : List Extent) {at : ℕ} (so_far : Lines s v T start (filled no_extent extents) (length extents) at) where
  pub read_within : ExtentsWithin T extents
  read_within = rw take_filled at (lines_within s v T start so_far)

  module _ (kind_5 : is_kind 5 s at ≡ true) (more : length extents ≡ most_lines → ⊥) where
    pub read_refused : {number place : ℕ} → line_after s v T extents at ≡ refused number place → lines_from s v T most_lines [] start ≡ refused number place
    read_refused reads = line_refused s v T start so_far kind_5 more (rw (take_filled no_extent extents) reads)

    pub read_passed : {line : Line} {next : ℕ} → line_after s v T extents at ≡ accepted (line, next) → (e : Extent) → extent_said e ≡ line.extent
        → Lines s v T start (filled no_extent (extents ++ (e ∷ []))) (length (extents ++ (e ∷ []))) next
    read_passed {line} {next} reads e same =
        let bounded = so_far.bounded in
        let short : length extents < most_lines = omega arith in
        let passed = line_passed s v T start so_far kind_5 more {line = line} {next = next} (rw (take_filled no_extent extents) reads) e same in
        rw (set_filled no_extent extents e short, ← length-append extents (e ∷ [])) at passed
