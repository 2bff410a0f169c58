-- Words and 64-bit numbers in bytes, lowest byte first ("The answer", on the host service), and back.
use Rattle.std.specs.Prelude.{ℕ, ◌+◌, ◌*◌, ◌/◌, ◌%◌, ◌^◌, List, [], ◌∷◌, length, drop}

abbrev pub word_of_bytes : ℕ → ℕ → ℕ → ℕ → ℕ
word_of_bytes a b c d = a + b * 2 ^ 8 + c * 2 ^ 16 + d * 2 ^ 24

-- four bytes to a word; bytes past the last whole word count for nothing
unfoldable pub words_of : List ℕ → List ℕ
words_of [] = []
words_of (a ∷ []) = []
words_of (a ∷ b ∷ []) = []
words_of (a ∷ b ∷ c ∷ []) = []
words_of (a ∷ b ∷ c ∷ d ∷ rest) = word_of_bytes a b c d ∷ words_of rest

-- two words to a number; a word past the last pair counts for nothing
unfoldable pub numbers_of : List ℕ → List ℕ
numbers_of [] = []
numbers_of (a ∷ []) = []
numbers_of (a ∷ b ∷ rest) = (a + b * 2 ^ 32) ∷ numbers_of rest

-- the bytes past the last whole word, and past the last whole number
abbrev pub after_words : List ℕ → List ℕ
after_words b = drop (length (words_of b) * 4) b

abbrev pub after_numbers : List ℕ → List ℕ
after_numbers b = drop (length (numbers_of (words_of b)) * 8) b

unfoldable pub bytes_of : List ℕ → List ℕ
bytes_of [] = []
bytes_of (w ∷ rest) = (w % 2 ^ 8) ∷ (w / 2 ^ 8 % 2 ^ 8) ∷ (w / 2 ^ 16 % 2 ^ 8) ∷ (w / 2 ^ 24 % 2 ^ 8) ∷ bytes_of rest

-- the two words of each number
unfoldable pub halves_of : List ℕ → List ℕ
halves_of [] = []
halves_of (x ∷ rest) = (x % 2 ^ 32) ∷ (x / 2 ^ 32) ∷ halves_of rest
