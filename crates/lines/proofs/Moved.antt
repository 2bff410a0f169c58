-- The check of lines moves with the words: where two lists have the same words of kinds 5 to 8 at indices that are level, the check of lines from such indices
-- accepts the same lines in both, or refuses both with the same number, and again at indices that are level.
use Prim.Native.Nat.{ℕ, zero, suc, ◌+◌}
use mathlib.Core.Bool.{not}
use mathlib.Core.List.{List, [], ◌∷◌, ◌++◌}
use mathlib.Core.Path.{◌≡◌, refl, ap}
use lib.Dec.{T}
use lib.ListN.{length}
use lib.IntN.{ℤ}
use Rattle.formulas.specs.Formulas.{Operator, Extent, Line, line_in}
use Rattle.checks.specs.Checked.{between, word_at, is_kind}
use Rattle.checks.proofs.Alike.{Alike, accept, refuse, SameUpTo, require_alike, choice_alike, bind_alike}
use Rattle.codes.specs.Codes.{Code, constant, atom, unary, binary, unary_bounded, binary_bounded, unknown, code_of}
use Rattle.lines.specs.Lines.{line_at, lines_from}
use Rattle.codes.specs.Operators.{code_field, left_field, right_field, constant_at, bounds_at, with_constant, with_bounds, operator_by, operator_at}

module _ (X Y : List ℕ) (Level : ℕ → ℕ → Type 0)
    (onward : (i j k : ℕ) → Level i j → Level (i + k) (j + k))
    (kind_same : (kind i j : ℕ) → T (between 5 8 kind) → Level i j → is_kind kind X i ≡ is_kind kind Y j)
    (is_word_same : (kind i j : ℕ) → T (between 5 8 kind) → Level i j → T (is_kind kind Y j) → word_at X i ≡ word_at Y j) where
  constant_moves : (i j : ℕ) → Level i j → Alike Level (λ a b. a ≡ b) (constant_at X i) (constant_at Y j)
  unfolding constant_at
  constant_moves i j at = require_alike _ _ 12 i j _ _ (kind_same 8 i j tt at) at (λ h.
      rw (is_word_same 8 i j tt at h) (search (require_alike, accept)))

  bounds_move : (i j : ℕ) → Level i j → Alike Level (λ a b. a ≡ b) (bounds_at X i) (bounds_at Y j)
  unfolding bounds_at
  bounds_move i j at =
      let next = onward i j 1 at in
      require_alike _ _ 12 i j _ _ (kind_same 6 i j tt at) at (λ h.
      require_alike _ _ 12 (i + 1) (j + 1) _ _ (kind_same 7 (i + 1) (j + 1) tt next) next (λ k.
      rw (is_word_same 6 i j tt at h, is_word_same 7 (i + 1) (j + 1) tt next k) (search (require_alike, accept))))

  with_constant_lem : (i j : ℕ) (o : ℤ → Operator) → Level i j → Alike Level (SameUpTo Level Operator) (with_constant X i o) (with_constant Y j o)
  with_constant_lem i j o at = bind_alike _ _ (constant_moves (i + 1) (j + 1) (onward i j 1 at)) (λ a b e. accept (ap o e, onward i j 2 at))

  with_bounds_lem : (i j : ℕ) (o : ℕ → ℕ → Operator) → Level i j → Alike Level (SameUpTo Level Operator) (with_bounds X i o) (with_bounds Y j o)
  with_bounds_lem i j o at =
      bind_alike _ _ (bounds_move (i + 1) (j + 1) (onward i j 1 at)) (λ a b e. accept (ap (λ (c : ℕ × ℕ). o c.0 c.1) e, onward i j 3 at))

  operator_moves : (code : Code) (i j left right v lines : ℕ) → Level i j
      → Alike Level (SameUpTo Level Operator) (operator_by X code i left right v lines) (operator_by Y code j left right v lines)
  operator_moves (constant o) i j left right v lines at = search (require_alike, accept, onward)
  operator_moves (atom o) i j left right v lines at = search (require_alike, with_constant_lem)
  operator_moves (unary o) i j left right v lines at = search (require_alike, accept, onward)
  operator_moves (binary o) i j left right v lines at = search (require_alike, accept, onward)
  operator_moves (unary_bounded o) i j left right v lines at = search (require_alike, with_bounds_lem)
  operator_moves (binary_bounded o) i j left right v lines at = search (require_alike, with_bounds_lem)
  operator_moves unknown i j left right v lines at = refuse at

  line_moves : (v T lines : ℕ) (extents : ℕ → Extent) (i j : ℕ) → Level i j → word_at X i ≡ word_at Y j
      → Alike Level (SameUpTo Level Line) (line_at X v T lines extents i) (line_at Y v T lines extents j)
  unfolding line_at operator_at
  line_moves v T lines extents i j at e =
      let w : ℕ = word_at Y j in
      rw e (bind_alike _ _ (operator_moves (code_of (code_field w)) i j (left_field w) (right_field w) v lines at) (λ a b same.
      rw same.0 (search (require_alike, accept))))

  pub lines_move : (v T room : ℕ) (lines : List Line) (i j : ℕ) → Level i j
      → Alike Level (SameUpTo Level (List Line)) (lines_from X v T room lines i) (lines_from Y v T room lines j)
  unfolding lines_from
  lines_move v T zero lines i j at = require_alike _ _ 10 i j _ _ (ap not (kind_same 5 i j tt at)) at (λ _. accept (refl, at))
  lines_move v T (suc room) lines i j at = choice_alike (is_kind 5 X i) (is_kind 5 Y j) _ _ _ _ (kind_same 5 i j tt at)
      (λ h. bind_alike _ _ (line_moves v T (length lines) (λ k. (line_in lines k).extent) i j at (is_word_same 5 i j tt at h)) (λ a b same.
      rw same.0 (lines_move v T room (lines ++ (b.0 ∷ [])) a.1 b.1 same.1)))
      (search (require_alike, accept))
