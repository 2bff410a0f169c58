-- The operator of a line ("The sheet": lines of the table; refusals 11 and 12): kind 5, bits 27..20 the code, 19..10 left, 9..0 right, then the code's parameters.
use Rattle.std.specs.Prelude.{ℕ, ◌+◌, ◌&&◌, List, ltb, leb, eqb, ℤ}
use Rattle.words.specs.Word.{bits, payload_of, sample_of}
use Rattle.formulas.specs.Formulas.{Operator}
use Rattle.checks.specs.Checked.{Checked, accepted, refused, ◌>>=◌, require, word_at, is_kind}
use Rattle.codes.specs.Codes.{Code, constant, atom, unary, binary, unary_bounded, binary_bounded, unknown, code_of}

abbrev pub code_field : ℕ → ℕ
code_field w = bits 20 8 w

abbrev pub left_field : ℕ → ℕ
left_field w = bits 10 10 w

abbrev pub right_field : ℕ → ℕ
right_field w = bits 0 10 w

-- an operator and the index after its last word
abbrev pub Read : Type 0
Read = Operator × ℕ

-- an unused field is zero: it has the limit 1
abbrev pub unused : ℕ
unused = 1

-- refusal 11: a field that is not below its limit
abbrev pub fields_below : ℕ → ℕ → ℕ → ℕ → ℕ → Checked Read → Checked Read
fields_below left left_limit right right_limit at next = require (ltb left left_limit && ltb right right_limit) 11 at next

-- a line word with no parameter after it
abbrev pub plain : ℕ → Operator → Checked Read
plain at o = accepted (o, at + 1)

module _ (s : List ℕ) where
  -- kind 8, a constant laid out as a sample
  unfoldable pub constant_at : ℕ → Checked ℤ
  constant_at at = require (is_kind 8 s at) 12 at (require (eqb (bits 27 1 (word_at s at)) 0) 12 at (accepted (sample_of (word_at s at))))

  -- kind 6, the lower bound, and kind 7, the upper, lower at most upper
  unfoldable pub bounds_at : ℕ → Checked (ℕ × ℕ)
  bounds_at at =
      let lower : ℕ = payload_of (word_at s at) in
      let upper : ℕ = payload_of (word_at s (at + 1)) in
      require (is_kind 6 s at) 12 at
      (require (is_kind 7 s (at + 1)) 12 (at + 1)
      (require (leb lower upper) 12 (at + 1)
      (accepted (lower, upper))))

  -- a line word with a constant after it; with two bounds
  abbrev pub with_constant : ℕ → (ℤ → Operator) → Checked Read
  with_constant at o = constant_at (at + 1) >>= λ c. accepted (o c, at + 2)

  abbrev pub with_bounds : ℕ → (ℕ → ℕ → Operator) → Checked Read
  with_bounds at o = bounds_at (at + 1) >>= λ b. accepted (o b.0 b.1, at + 3)

  -- the line word at an index, with v signals and `lines` earlier lines
  abbrev pub operator_by : Code → ℕ → ℕ → ℕ → ℕ → ℕ → Checked Read
  operator_by (constant o) at left right v lines = fields_below left unused right unused at (plain at o)
  operator_by (atom o) at left right v lines = fields_below left v right unused at (with_constant at (o left))
  operator_by (unary o) at left right v lines = fields_below left lines right unused at (plain at (o left))
  operator_by (binary o) at left right v lines = fields_below left lines right lines at (plain at (o left right))
  operator_by (unary_bounded o) at left right v lines = fields_below left lines right unused at (with_bounds at (o left))
  operator_by (binary_bounded o) at left right v lines = fields_below left lines right lines at (with_bounds at (o left right))
  operator_by unknown at left right v lines = refused 11 at

  unfoldable pub operator_at : ℕ → ℕ → ℕ → Checked Read
  operator_at v lines at =
      let w : ℕ = word_at s at in
      operator_by (code_of (code_field w)) at (left_field w) (right_field w) v lines
