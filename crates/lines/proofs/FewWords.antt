-- A line has at most three words, so a table has at most three for each line.
use Prim.Native.Nat.{ℕ, zero, suc, ◌+◌, ◌*◌, ◌≤◌}
use mathlib.Core.Bool.{Bool, true, false, not}
use mathlib.Core.List.{List}
use mathlib.Core.Path.{◌≡◌, refl, sym, ap, ◌∙◌}
use native.Mathlib.Omega.{arith}
use lib.Dec.{ltb}
use lib.ListN.{length}
use Rattle.formulas.specs.Formulas.{Extent, Line}
use Rattle.checks.specs.Checked.{Checked, accepted, refused, ◌>>=◌, require, word_at, is_kind}
use Rattle.checks.proofs.Checks.{never, same_accepted, require_accepted, bind_accepted}
use Rattle.codes.specs.Codes.{Code, constant, atom, unary, binary, unary_bounded, binary_bounded, unknown, code_of}
use Rattle.lines.specs.GoodLines.{extents_of}
use Rattle.lines.specs.Lines.{line_at, lines_from}
use Rattle.codes.specs.Operators.{code_field, left_field, right_field, operator_by, operator_at}
use Rattle.lines.proofs.Reading.{lines_stop, line_more}

-- what is read ends at this index at the latest
data Ends {A : Type 0} (latest : ℕ) : Checked (A × ℕ) → Type 0 where
  accepts : {a : A} {end : ℕ} → end ≤ latest → Ends latest (accepted (a, end))
  refuses : {number place : ℕ} → Ends latest (refused number place)

module _ {A : Type 0} {latest : ℕ} where
  required : (t : Bool) (number place : ℕ) (next : Checked (A × ℕ)) → Ends latest next → Ends latest (require t number place next)
  required true number place next h = h
  required false number place next h = refuses

  bound : {B : Type 0} (c : Checked B) (f : B → Checked (A × ℕ)) → ((b : B) → Ends latest (f b)) → Ends latest (c >>= f)
  bound (accepted b) f h = h b
  bound (refused number place) f h = refuses

  -- what is made of what was read, where it ends there too
  onward : {B : Type 0} (c : Checked (B × ℕ)) (f : B × ℕ → Checked (A × ℕ)) → Ends latest c → ((b : B × ℕ) → b.1 ≤ latest → Ends latest (f b)) → Ends latest (c >>= f)
  onward (accepted b) f (accepts h) k = k b h
  onward (refused number place) f refuses k = refuses

  ends_told : {c : Checked (A × ℕ)} {a : A} {end : ℕ} → Ends latest c → c ≡ accepted (a, end) → end ≤ latest
  ends_told (accepts h) e = let same = ap (λ (p : A × ℕ). p.1) (same_accepted e) in omega (arith, same, h)
  ends_told refuses e = absurd (never e)

module _ (s : List ℕ) (v T : ℕ) where
  operator_ends : (code : Code) (at left right lines : ℕ) → Ends (at + 3) (operator_by s code at left right v lines)
  operator_ends (constant o) at left right lines = let one : at + 1 ≤ at + 3 = omega arith in search (required, accepts)
  operator_ends (atom o) at left right lines = let two : at + 2 ≤ at + 3 = omega arith in search (required, bound, accepts)
  operator_ends (unary o) at left right lines = let one : at + 1 ≤ at + 3 = omega arith in search (required, accepts)
  operator_ends (binary o) at left right lines = let one : at + 1 ≤ at + 3 = omega arith in search (required, accepts)
  operator_ends (unary_bounded o) at left right lines = let three : at + 3 ≤ at + 3 = omega arith in search (required, bound, accepts)
  operator_ends (binary_bounded o) at left right lines = let three : at + 3 ≤ at + 3 = omega arith in search (required, bound, accepts)
  operator_ends unknown at left right lines = refuses

  line_ends : (lines : ℕ) (extents : ℕ → Extent) (at : ℕ) → Ends (at + 3) (line_at s v T lines extents at)
  unfolding line_at operator_at
  line_ends lines extents at =
      let w : ℕ = word_at s at in
      onward (operator_by s (code_of (code_field w)) at (left_field w) (right_field w) v lines) _ (operator_ends (code_of (code_field w)) at (left_field w) (right_field w) lines)
      (λ read h. search (required, accepts))

  pub table_ends : (room : ℕ) (lines : List Line) (at : ℕ) {found : List Line} {end : ℕ} → lines_from s v T room lines at ≡ accepted (found, end) → end ≤ at + 3 * room
  unfolding lines_from
  table_ends zero lines at e = let read = require_accepted (not (is_kind 5 s at)) 10 at _ e in let same = ap (λ (p : List Line × ℕ). p.1) (same_accepted read.1) in omega arith
  table_ends (suc room) lines at {found} {end} e = by (is_kind 5 s at) refl (λ lines at. table_ends room lines at {found = found} {end = end})
    where
      by : (kind_5 : Bool) → is_kind 5 s at ≡ kind_5 → ((lines : List Line) (at : ℕ) → lines_from s v T room lines at ≡ accepted (found, end) → end ≤ at + 3 * room) → end ≤ at + 3 * suc room
      by false other later =
          let read = require_accepted (ltb 0 (length lines)) 10 at _ (sym (lines_stop s v T room lines at other) ∙ e) in
          let same = ap (λ (p : List Line × ℕ). p.1) (same_accepted read.1) in
          omega arith
      by true kind_5 later =
          let (read, reads, rest) = bind_accepted (line_at s v T (length lines) (extents_of lines) at) _ (sym (line_more s v T room lines at kind_5) ∙ e) in
          omega (arith, later _ read.1 rest, ends_told (line_ends (length lines) (extents_of lines) at) reads)
