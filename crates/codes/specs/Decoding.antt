-- For contracts alone, with nothing of document 01: what the code's decoded operators say, in the terms of `Operators`, and the parts in which the
-- code reads an operator.
use Rattle.std.specs.Prelude.{ℕ, ◌&&◌, List, ℤ, pos, cond, leb}
use Rattle.formulas.specs.Formulas as Formulas
use Rattle.codes.specs.declared.operator.Direction.{Direction}
use Rattle.codes.specs.declared.operator.Direction.TheVariants.{Forward, Backward}
use Rattle.codes.specs.declared.operator.Operator.{Operator}
use Rattle.codes.specs.declared.operator.Operator.TheVariants.{True, AtLeast, AtMost, Not, And, Until, Somewhere, Surrounded, Or, Eventually, Always, Everywhere}
use Rattle.codes.specs.declared.operator.Fields.{Fields}
use Rattle.codes.specs.declared.operator.Bounds.{Bounds}
use Rattle.checks.specs.Checked.{Checked}
use Rattle.codes.specs.Codes.{Code, constant, atom, unary, binary, unary_bounded, binary_bounded, unknown, code_of}
use Rattle.codes.specs.Operators.{code_field, left_field, right_field, Read, unused, fields_below, plain, with_constant, with_bounds}

-- ---- what the types of the code say

abbrev pub side_said : Direction → Formulas.Direction
side_said Forward = Formulas.forward
side_said Backward = Formulas.backward

abbrev pub operator_said : Operator → Formulas.Operator
operator_said True = Formulas.True
operator_said (AtLeast signal c) = Formulas.AtLeast signal c
operator_said (AtMost signal c) = Formulas.AtMost signal c
operator_said (Not left) = Formulas.Not left
operator_said (And left right) = Formulas.And left right
operator_said (Until side left right b) = Formulas.Until (side_said side) left right b.lower b.upper
operator_said (Somewhere left b) = Formulas.Somewhere left b.lower b.upper
operator_said (Surrounded islands left right b) = Formulas.Surrounded islands left right b.lower b.upper
operator_said (Or left right) = Formulas.Or left right
operator_said (Eventually side left b) = Formulas.Eventually (side_said side) left b.lower b.upper
operator_said (Always side left b) = Formulas.Always (side_said side) left b.lower b.upper
operator_said (Everywhere left b) = Formulas.Everywhere left b.lower b.upper

-- lower and upper
abbrev pub bounds_read : Bounds → ℕ × ℕ
bounds_read b = (b.lower, b.upper)

-- an operator and the index after its words
abbrev pub operator_and_next : Operator × ℕ → Read
operator_and_next read = (operator_said read.0, read.1)

-- ---- the fields of a line word, and the three kinds of lines: with no parameter, with a constant, with bounds

unfoldable pub fields_of : ℕ → Fields
fields_of w = record { code = code_field w; left = left_field w; right = right_field w }

-- where a code over time looks: 12 to 14 look back
abbrev pub side_of : ℕ → Formulas.Direction
side_of code = cond (leb 12 code && leb code 14) Formulas.backward Formulas.forward

-- what a code says of fields and parameters, those that it does not have left out
abbrev pub operator_with : Code → ℕ → ℕ → ℤ → ℕ → ℕ → Formulas.Operator
operator_with (constant o) left right c lower upper = o
operator_with (atom o) left right c lower upper = o left c
operator_with (unary o) left right c lower upper = o left
operator_with (binary o) left right c lower upper = o left right
operator_with (unary_bounded o) left right c lower upper = o left lower upper
operator_with (binary_bounded o) left right c lower upper = o left right lower upper
operator_with unknown left right c lower upper = Formulas.True

abbrev pub operator_of : Fields → ℤ → ℕ → ℕ → Formulas.Operator
operator_of f c lower upper = operator_with (code_of f.code) f.left f.right c lower upper

unfoldable pub plain_read : Fields → ℕ → ℕ → ℕ → Checked Read
plain_read f left_limit right_limit at = fields_below f.left left_limit f.right right_limit at (plain at (operator_of f (pos 0) 0 0))

module _ (s : List ℕ) where
  unfoldable pub atom_read : Fields → ℕ → ℕ → Checked Read
  atom_read f signals at = fields_below f.left signals f.right unused at (with_constant s at (λ c. operator_of f c 0 0))

  unfoldable pub bounded_read : Fields → ℕ → ℕ → ℕ → Checked Read
  bounded_read f left_limit right_limit at = fields_below f.left left_limit f.right right_limit at (with_bounds s at (operator_of f (pos 0)))
