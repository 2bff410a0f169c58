-- The codes 0 to 15: which fields and parameters a line with the code has, and what it then says.
use Rattle.std.specs.Prelude.{ℕ, true, false, List, [], ◌∷◌, get_or, ℤ}
use Rattle.formulas.specs.Formulas.{forward, Operator, True, AtLeast, AtMost, Not, And, Until, Somewhere, Surrounded, Or, Eventually, Always, Everywhere, Since, Once, Historically}

pub data Code : Type 0 where
  -- no field
  constant : Operator → Code
  -- left a signal, then a constant
  atom : (ℕ → ℤ → Operator) → Code
  -- left an earlier line; left and right earlier lines
  unary : (ℕ → Operator) → Code
  binary : (ℕ → ℕ → Operator) → Code
  -- the same, then a lower and an upper bound
  unary_bounded : (ℕ → ℕ → ℕ → Operator) → Code
  binary_bounded : (ℕ → ℕ → ℕ → ℕ → Operator) → Code
  unknown : Code

-- the table "Codes" of document 01, code 0 first; 12 to 14 by request M-100, 7 and 15 by M-101
unfoldable pub codes : List Code
codes =
    constant True ∷
    atom AtLeast ∷
    atom AtMost ∷
    unary Not ∷
    binary And ∷
    binary_bounded (Until forward) ∷
    unary_bounded Somewhere ∷
    binary_bounded (Surrounded false) ∷
    binary Or ∷
    unary_bounded (Eventually forward) ∷
    unary_bounded (Always forward) ∷
    unary_bounded Everywhere ∷
    binary_bounded Since ∷
    unary_bounded Once ∷
    unary_bounded Historically ∷
    binary_bounded (Surrounded true) ∷
    []

abbrev pub code_of : ℕ → Code
code_of number = get_or codes number unknown

-- a code above it says nothing (11)
abbrev pub last_code : ℕ
last_code = 15
