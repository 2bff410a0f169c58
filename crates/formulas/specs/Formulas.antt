-- What the lines of a table say and what is recorded, without what it means: operators with their operands, constants and bounds, and the samples
-- for which a line has verdicts ("Codes" of document 01, requests M-100 and M-101).
use Rattle.std.specs.Prelude.{List, Bool, ◌&&◌, ℕ, ◌+◌, ◌-◌, ◌<◌, ◌^◌, min, max, leb, ltb, get_or, ℤ, pos, negsuc}
use Rattle.counting.specs.Lists.{All}

-- An operator over time looks forward or backward from a sample.
pub data Direction : Type 0 where
  forward backward : Direction

-- What a line says, in the order of the codes 0 to 11. Atoms have a signal and a constant; operands are numbers of earlier lines; bounds
-- come last, lower before upper. Surrounded says first whether islands count, the regions with an empty boundary: not for code 7, but for 15 (M-101).
pub data Operator : Type 0 where
  True : Operator
  AtLeast AtMost : ℕ → ℤ → Operator
  Not : ℕ → Operator
  And : ℕ → ℕ → Operator
  Until : Direction → ℕ → ℕ → ℕ → ℕ → Operator
  Somewhere : ℕ → ℕ → ℕ → Operator
  Surrounded : Bool → ℕ → ℕ → ℕ → ℕ → Operator
  Or : ℕ → ℕ → Operator
  Eventually Always : Direction → ℕ → ℕ → ℕ → Operator
  Everywhere : ℕ → ℕ → ℕ → Operator

-- codes 12 to 14: until, eventually and always that look back (M-100)
abbrev pub Since : ℕ → ℕ → ℕ → ℕ → Operator
Since = Until backward

abbrev pub Once : ℕ → ℕ → ℕ → Operator
Once = Eventually backward

abbrev pub Historically : ℕ → ℕ → ℕ → Operator
Historically = Always backward

-- The samples for which a line has verdicts, by their numbers in the recording: so many from the first on (M-100). Without a sample the line is
-- refused (13), so a difference may stop at 0.
pub record Extent : Type 0 where
  pub first : ℕ
  pub length : ℕ

abbrev pub span : ℕ → ℕ → Extent
span first count = record { first = first; length = count }

-- the sample after the last
abbrev pub end_of : Extent → ℕ
end_of e = e.first + e.length

-- t is one of the samples
abbrev pub has : Extent → ℕ → Bool
has e t = leb e.first t && ltb t (end_of e)

-- the samples of both: from the later first one to the earlier end
abbrev pub common : Extent → Extent → Extent
common a b = let first : ℕ = max a.first b.first in span first (min (end_of a) (end_of b) - first)

-- the samples that have `upper` more of them on that side
abbrev pub looking : Direction → ℕ → Extent → Extent
looking forward upper e = span e.first (e.length - upper)
looking backward upper e = span (e.first + upper) (e.length - upper)

-- Extent of a line, given T and the operands' extents
abbrev pub extent_of : ℕ → (ℕ → Extent) → Operator → Extent
extent_of T operand True = span 0 T
extent_of T operand (AtLeast x c) = span 0 T
extent_of T operand (AtMost x c) = span 0 T
extent_of T operand (Not i) = operand i
extent_of T operand (And i j) = common (operand i) (operand j)
extent_of T operand (Until side i j lower upper) = looking side upper (common (operand i) (operand j))
extent_of T operand (Somewhere i lower upper) = operand i
extent_of T operand (Surrounded islands i j lower upper) = common (operand i) (operand j)
extent_of T operand (Or i j) = common (operand i) (operand j)
extent_of T operand (Eventually side i lower upper) = looking side upper (operand i)
extent_of T operand (Always side i lower upper) = looking side upper (operand i)
extent_of T operand (Everywhere i lower upper) = operand i

pub record Line : Type 0 where
  pub operator : Operator
  pub extent : Extent

-- line i of a table; one that is not there has no sample
abbrev pub no_line : Line
no_line = record { operator = True; extent = span 0 0 }

abbrev pub line_in : List Line → ℕ → Line
line_in lines i = get_or lines i no_line

-- What is recorded (the source's trace): signal, then sample, then place
abbrev pub Recording : Type 0
Recording = ℕ → ℕ → ℕ → ℤ

-- the numbers that two's complement of so many bits holds; samples and constants have 27
abbrev pub InBits : ℕ → ℤ → Type 0
InBits bits (pos x) = x < 2 ^ (bits - 1)
InBits bits (negsuc x) = x < 2 ^ (bits - 1)

-- What is asked of a line by what it says: of the constant of an "at least", of that of an "at most", and of a Not; nothing of any other
abbrev pub Asked : (ℤ → Type 0) → (ℤ → Type 0) → Type 0 → Operator → Type 0
Asked least most negation True = Unit {0}
Asked least most negation (AtLeast s c) = least c
Asked least most negation (AtMost s c) = most c
Asked least most negation (Not i) = negation
Asked least most negation (And i j) = Unit {0}
Asked least most negation (Until side i j lower upper) = Unit {0}
Asked least most negation (Somewhere i lower upper) = Unit {0}
Asked least most negation (Surrounded islands i j lower upper) = Unit {0}
Asked least most negation (Or i j) = Unit {0}
Asked least most negation (Eventually side i lower upper) = Unit {0}
Asked least most negation (Always side i lower upper) = Unit {0}
Asked least most negation (Everywhere i lower upper) = Unit {0}

-- the constant of an atom fits
abbrev pub ConstantIn : (ℤ → Type 0) → Operator → Type 0
ConstantIn Fit = Asked Fit Fit (Unit {0})

-- what is asked of every line of a table
abbrev pub LinesFit : (Operator → Type 0) → List Line → Type 0
LinesFit Fits lines = All (λ (line : Line). Fits line.operator) lines

abbrev pub ConstantsIn : (ℤ → Type 0) → List Line → Type 0
ConstantsIn Fit = LinesFit (ConstantIn Fit)
