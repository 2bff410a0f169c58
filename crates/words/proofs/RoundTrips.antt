-- Bytes read as words or as numbers, and written back, are the same bytes where there are only whole words or whole numbers. So the words
-- of a buffer pin every byte of it. And words of 32 bits or numbers of 64, written as bytes and read back, are the same words or numbers.
use Prim.Native.Nat.{ℕ, zero, suc, ◌+◌, ◌*◌, ◌/◌, ◌%◌, ◌^◌}
use mathlib.Core.Path.{◌≡◌, refl, ◌∙◌, ap}
use mathlib.Core.List.{List, [], ◌∷◌}
use native.Mathlib.Omega.{arith}
use lib.ListN.{length}
use Rattle.words.specs.Bytes.{word_of_bytes, words_of, numbers_of, bytes_of, halves_of}
use Rattle.words.proofs.Below.{Below}
use Rattle.words.proofs.Words.{words_count, word_bytes}
use Rattle.words.proofs.Numbers.{number_words}

pub words_bytes : (b : List ℕ) (k : ℕ) → Below (2 ^ 8) b → length b ≡ k * 4 → bytes_of (words_of b) ≡ b
unfolding words_of bytes_of
words_bytes [] k l h = refl
words_bytes (x ∷ []) k l h = absurd (omega arith)
words_bytes (x ∷ y ∷ []) k l h = absurd (omega arith)
words_bytes (x ∷ y ∷ z ∷ []) k l h = absurd (omega arith)
words_bytes (x ∷ y ∷ z ∷ u ∷ b) zero l h = absurd (omega arith)
words_bytes (x ∷ y ∷ z ∷ u ∷ b) (suc k) l h =
    let w = word_of_bytes x y z u in
    let lx = l 0 in
    let ly = l 1 in
    let lz = l 2 in
    let lu = l 3 in
    let e0 : w % 2 ^ 8 ≡ x = omega arith in
    let q1 : w / 2 ^ 8 ≡ y + z * 2 ^ 8 + u * 2 ^ 16 = omega arith in
    let e1 : w / 2 ^ 8 % 2 ^ 8 ≡ y = rw q1 (omega arith) in
    let q2 : w / 2 ^ 16 ≡ z + u * 2 ^ 8 = omega arith in
    let e2 : w / 2 ^ 16 % 2 ^ 8 ≡ z = rw q2 (omega arith) in
    let q3 : w / 2 ^ 24 ≡ u = omega arith in
    let e3 : w / 2 ^ 24 % 2 ^ 8 ≡ u = rw q3 (omega arith) in
    rw (e0, e1, e2, e3, words_bytes b k (λ i. l (suc (suc (suc (suc i))))) (omega arith))

pub words_below : (b : List ℕ) → Below (2 ^ 8) b → Below (2 ^ 32) (words_of b)
unfolding words_of
words_below [] l i = omega arith
words_below (x ∷ []) l i = omega arith
words_below (x ∷ y ∷ []) l i = omega arith
words_below (x ∷ y ∷ z ∷ []) l i = omega arith
words_below (x ∷ y ∷ z ∷ u ∷ b) l zero = omega (arith, l 0, l 1, l 2, l 3)
words_below (x ∷ y ∷ z ∷ u ∷ b) l (suc i) = words_below b (λ j. l (suc (suc (suc (suc j))))) i

numbers_words : (w : List ℕ) (k : ℕ) → Below (2 ^ 32) w → length w ≡ k * 2 → halves_of (numbers_of w) ≡ w
unfolding numbers_of halves_of
numbers_words [] k l h = refl
numbers_words (x ∷ []) k l h = absurd (omega arith)
numbers_words (x ∷ y ∷ w) zero l h = absurd (omega arith)
numbers_words (x ∷ y ∷ w) (suc k) l h =
    let lx = l 0 in
    let e0 : (x + y * 2 ^ 32) % 2 ^ 32 ≡ x = omega arith in
    let e1 : (x + y * 2 ^ 32) / 2 ^ 32 ≡ y = omega arith in
    rw (e0, e1, numbers_words w k (λ i. l (suc (suc i))) (omega arith))

pub numbers_bytes : (b : List ℕ) (k : ℕ) → Below (2 ^ 8) b → length b ≡ k * 8 → bytes_of (halves_of (numbers_of (words_of b))) ≡ b
numbers_bytes b k l h =
    ap bytes_of (numbers_words (words_of b) k (words_below b l) (omega (arith, words_count b)))
    ∙ words_bytes b (k * 2) l (omega arith)

-- ---- written and read back
-- the bytes of a number are those of its halves
pub number_bytes : (x : ℕ) → x % 2 ^ 8 ∷ x / 2 ^ 8 % 2 ^ 8 ∷ x / 2 ^ 16 % 2 ^ 8 ∷ x / 2 ^ 24 % 2 ^ 8 ∷ x / 2 ^ 32 % 2 ^ 8 ∷ x / 2 ^ 40 % 2 ^ 8 ∷ x / 2 ^ 48 % 2 ^ 8 ∷ x / 2 ^ 56 % 2 ^ 8 ∷ []
    ≡ bytes_of (halves_of (x ∷ []))
unfolding bytes_of halves_of
number_bytes x =
    let e0 : x % 2 ^ 32 % 2 ^ 8 ≡ x % 2 ^ 8 = omega arith in
    let e1 : x % 2 ^ 32 / 2 ^ 8 % 2 ^ 8 ≡ x / 2 ^ 8 % 2 ^ 8 = omega arith in
    let e2 : x % 2 ^ 32 / 2 ^ 16 % 2 ^ 8 ≡ x / 2 ^ 16 % 2 ^ 8 = omega arith in
    let e3 : x % 2 ^ 32 / 2 ^ 24 % 2 ^ 8 ≡ x / 2 ^ 24 % 2 ^ 8 = omega arith in
    let e5 : x / 2 ^ 32 / 2 ^ 8 % 2 ^ 8 ≡ x / 2 ^ 40 % 2 ^ 8 = omega arith in
    let e6 : x / 2 ^ 32 / 2 ^ 16 % 2 ^ 8 ≡ x / 2 ^ 48 % 2 ^ 8 = omega arith in
    let e7 : x / 2 ^ 32 / 2 ^ 24 % 2 ^ 8 ≡ x / 2 ^ 56 % 2 ^ 8 = omega arith in
    rw (e0, e1, e2, e3, e5, e6, e7) refl

pub length_bytes : (w : List ℕ) → length (bytes_of w) ≡ length w * 4
unfolding bytes_of
length_bytes [] = refl
length_bytes (x ∷ w) = omega (arith, length_bytes w)

pub bytes_words : (w : List ℕ) → Below (2 ^ 32) w → words_of (bytes_of w) ≡ w
unfolding words_of bytes_of
bytes_words [] l = refl
bytes_words (x ∷ w) l =
    let lx = l 0 in
    let top : x / 2 ^ 24 % 2 ^ 8 ≡ x / 2 ^ 24 = omega arith in
    rw (top, word_bytes x, bytes_words w (λ i. l (suc i)))

halves_below : (x : List ℕ) → Below (2 ^ 64) x → Below (2 ^ 32) (halves_of x)
unfolding halves_of
halves_below [] l i = omega arith
halves_below (x ∷ r) l zero = omega arith
halves_below (x ∷ r) l (suc zero) = omega (arith, l 0)
halves_below (x ∷ r) l (suc (suc i)) = halves_below r (λ j. l (suc j)) i

words_numbers : (x : List ℕ) → numbers_of (halves_of x) ≡ x
unfolding numbers_of halves_of
words_numbers [] = refl
words_numbers (x ∷ r) = rw (number_words x, words_numbers r)

pub bytes_numbers : (x : List ℕ) → Below (2 ^ 64) x → numbers_of (words_of (bytes_of (halves_of x))) ≡ x
bytes_numbers x l = ap numbers_of (bytes_words (halves_of x) (halves_below x l)) ∙ words_numbers x
