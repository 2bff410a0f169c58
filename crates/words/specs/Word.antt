-- A word of 32 bits (the opening of document 01): bits 31..28 are its kind, 27..0 its payload; and the signed numbers in its fields ("The
-- sheet", "The answer").
use Rattle.std.specs.Prelude.{ℕ, suc, ◌+◌, ◌-◌, ◌*◌, ◌/◌, ◌%◌, ◌^◌, cond, ltb, ℤ, pos, negsuc}

-- `count` bits of a word, the lowest of them bit `low`
abbrev pub bits : ℕ → ℕ → ℕ → ℕ
bits low count w = w / 2 ^ low % 2 ^ count

abbrev pub kind_of : ℕ → ℕ
kind_of w = w / 2 ^ 28

abbrev pub payload_of : ℕ → ℕ
payload_of w = w % 2 ^ 28

abbrev pub word_of : ℕ → ℕ → ℕ
word_of kind payload = kind * 2 ^ 28 + payload

-- two's complement of `width` bits: the number that a field says, and the field that says a number
abbrev pub signed : ℕ → ℕ → ℤ
signed width field = cond (ltb field (2 ^ (width - 1))) (pos field) (negsuc (2 ^ width - suc field))

abbrev pub unsigned : ℕ → ℤ → ℕ
unsigned width (pos x) = x
unsigned width (negsuc x) = 2 ^ width - suc x

-- a sample or a constant: bits 26..0
abbrev pub sample_of : ℕ → ℤ
sample_of w = signed 27 (w % 2 ^ 27)
