-- The lines of a table, read one by one: they end, or one more is read; and what a table keeps with each line that is read, it has in the end.
use Prim.Native.Nat.{ℕ, zero, suc, ◌+◌, ◌<◌, ◌≤◌}
use mathlib.Core.Bool.{Bool, true, false, not}
use mathlib.Core.List.{List, [], ◌∷◌, ◌++◌}
use mathlib.Core.Logic.{◌⊎◌, inl, inr, ⊎_elim}
use mathlib.Core.Path.{◌≡◌, refl, sym, ◌∙◌, ap, subst}
use native.Mathlib.Omega.{arith}
use lib.Dec.{ltb}
use lib.ListN.{length, length-append}
use borrow.Author.Tests.{lt-ltb, ltb-true}
use Rattle.formulas.specs.Formulas.{Line}
use Rattle.checks.specs.Checked.{accepted, refused, ◌>>=◌, require, is_kind}
use Rattle.lines.specs.Lines.{line_at, lines_from}
use Rattle.lines.specs.GoodLines.{extents_of}
use Rattle.checks.proofs.Checks.{same_accepted, require_accepted, bind_accepted}

module _ (s : List ℕ) (v T : ℕ) where
  -- ---- the lines from an index on, by whether another one stands there
  pub lines_over : (found : List Line) (at : ℕ) → is_kind 5 s at ≡ true → lines_from s v T 0 found at ≡ refused 10 at
  unfolding lines_from
  lines_over found at kind_5 = simp kind_5

  pub lines_stop : (room : ℕ) (found : List Line) (at : ℕ) → is_kind 5 s at ≡ false
      → lines_from s v T (suc room) found at ≡ require {A = List Line × ℕ} (ltb 0 (length found)) 10 at (accepted (found, at))
  unfolding lines_from
  lines_stop room found at other = rw (other, lines_from)

  pub lines_end : (room : ℕ) (found : List Line) (at : ℕ) → is_kind 5 s at ≡ false → 0 < length found
      → lines_from s v T room found at ≡ accepted (found, at)
  unfolding lines_from
  lines_end zero found at other some = simp other
  lines_end (suc room) found at other some = lines_stop room found at other ∙ simp (lt-ltb 0 (length found) some)

  pub line_more : (room : ℕ) (found : List Line) (at : ℕ) → is_kind 5 s at ≡ true
      → lines_from s v T (suc room) found at
      ≡ (line_at s v T (length found) (extents_of found) at >>= λ read. lines_from s v T room (found ++ (read.0 ∷ [])) read.1)
  unfolding lines_from
  line_more room found at kind_5 = rw (kind_5, lines_from)

  -- ---- one step: the lines end here, or one more is read

  pub record Stopped (found lines : List Line) : Type 0 where
    pub same : found ≡ lines
    pub some : 0 < length lines

  pub record LineRead (room : ℕ) (found : List Line) (at : ℕ) (lines : List Line) (end : ℕ) : Type 0 where
    pub line : Line
    pub next : ℕ
    pub kind_5 : is_kind 5 s at ≡ true
    pub reads : line_at s v T (length found) (extents_of found) at ≡ accepted (line, next)
    pub rest : lines_from s v T room (found ++ (line ∷ [])) next ≡ accepted (lines, end)

  pub stop_or_read : (room : ℕ) (found : List Line) (at : ℕ) {lines : List Line} {end : ℕ} → lines_from s v T (suc room) found at ≡ accepted (lines, end)
      → Stopped found lines ⊎ LineRead room found at lines end
  stop_or_read room found at {lines} {end} e = by (is_kind 5 s at) refl
    where
      by : (kind_5 : Bool) → is_kind 5 s at ≡ kind_5 → Stopped found lines ⊎ LineRead room found at lines end
      by false other =
          let told = require_accepted (ltb 0 (length found)) 10 at _ (sym (lines_stop room found at other) ∙ e) in
          let same : found ≡ lines = ap (λ (read : List Line × ℕ). read.0) (same_accepted told.1) in
          inl (record { same = same; some = subst (λ (l : List Line). 0 < length l) same (ltb-true _ _ told.0) })
      by true kind_5 =
          let read = bind_accepted (line_at s v T (length found) (extents_of found) at) _ (sym (line_more room found at kind_5) ∙ e) in
          inr (record { line = read.0.0; next = read.0.1; kind_5 = kind_5; reads = read.1; rest = read.2 })

  -- ---- what is kept with each line; and there is at least one, and no more than there was room for
  module _ (Kept : List Line → Type 0)
      (one_more : (lines : List Line) (at : ℕ) (read : Line × ℕ) → Kept lines → is_kind 5 s at ≡ true
      → line_at s v T (length lines) (extents_of lines) at ≡ accepted read → Kept (lines ++ (read.0 ∷ []))) where
    pub record LinesKept (most : ℕ) (lines : List Line) : Type 0 where
      pub kept : Kept lines
      pub some : 1 ≤ length lines
      pub bound : length lines ≤ most

    pub lines_kept : (room : ℕ) (found : List Line) (at : ℕ) {lines : List Line} {end : ℕ} → Kept found → 1 ≤ room + length found
        → lines_from s v T room found at ≡ accepted (lines, end) → LinesKept (room + length found) lines
    unfolding lines_from
    lines_kept zero found at kept some e =
        let told = require_accepted (not (is_kind 5 s at)) 10 at _ e in
        subst (LinesKept (0 + length found)) (ap (λ (read : List Line × ℕ). read.0) (same_accepted told.1)) (record { kept = kept; some = omega arith; bound = omega arith })
    lines_kept (suc room) found at {lines} kept some e = ⊎_elim
        (λ stop. subst (LinesKept (suc room + length found)) stop.same
        (record { kept = kept; some = subst (λ (l : List Line). 0 < length l) (sym stop.same) stop.some; bound = omega arith }))
        (λ read.
        let longer : List Line = found ++ (read.line ∷ []) in
        let count : length longer ≡ length found + 1 = length-append found (read.line ∷ []) in
        let room_left : room + length longer ≡ suc room + length found = omega arith in
        subst (λ m. LinesKept m lines) room_left
        (lines_kept room longer read.next (one_more found at (read.line, read.next) kept read.kind_5 read.reads) (omega arith) read.rest))
        (stop_or_read room found at e)
