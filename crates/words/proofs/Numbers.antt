-- Laws of the 64-bit numbers that a list of words holds: their count, the words of one, stores, lists one after the other, zeros; and of
-- the numbers in bytes.
use Prim.Native.Nat.{ℕ, zero, suc, ◌+◌, ◌-◌, ◌*◌, ◌/◌, ◌%◌, ◌<◌, ◌≤◌, ◌^◌}
use mathlib.Core.Path.{◌≡◌, refl, ◌∙◌, ap, ap₂}
use mathlib.Core.List.{List, [], ◌∷◌, ◌++◌}
use native.Mathlib.Nat.{le_of_suc-le-suc}
use native.Mathlib.Omega.{arith}
use lib.ListN.{length, get_or, set, replicate}
use Rattle.words.specs.Bytes.{word_of_bytes, words_of, numbers_of}
use Rattle.words.specs.Rows.{padded}
use Rattle.words.proofs.Words.{words_count, get_or_words, words_append, words_zeros}

-- two words to a number
pub numbers_count : (w : List ℕ) → (length (numbers_of w) * 2 ≤ length w) × (length w < length (numbers_of w) * 2 + 2)
unfolding numbers_of
numbers_count [] = omega arith
numbers_count (a ∷ []) = omega arith
numbers_count (a ∷ b ∷ r) = let h = numbers_count r in omega arith

-- eight bytes to a number
pub length_numbers : (b : List ℕ) → length (numbers_of (words_of b)) ≡ length b / 8
length_numbers b = omega (arith, words_count b, numbers_count (words_of b))

pub same_count : (a b : List ℕ) → length a ≡ length b → length (numbers_of (words_of a)) ≡ length (numbers_of (words_of b))
same_count a b e = omega (arith, length_numbers a, length_numbers b)

-- the words of one number more, each at the form that lists compute with
two_more : (k r : ℕ) → suc k * 2 + r ≡ suc (suc (k * 2 + r))
two_more k r = omega arith

two : (k : ℕ) → suc k * 2 ≡ suc (suc (k * 2))
two k = omega arith

-- ---- one number
pub get_or_numbers : (w : List ℕ) (i : ℕ) → i < length (numbers_of w) → get_or (numbers_of w) i 0 ≡ get_or w (i * 2) 0 + get_or w (i * 2 + 1) 0 * 2 ^ 32
unfolding numbers_of
get_or_numbers [] i h = absurd (omega arith)
get_or_numbers (a ∷ []) i h = absurd (omega arith)
get_or_numbers (a ∷ b ∷ r) zero h = refl
get_or_numbers (a ∷ b ∷ r) (suc i) h = rw (two_more i 1, two i) (get_or_numbers r i (le_of_suc-le-suc h))

-- two stores are the store of a number
pub numbers_set : (w : List ℕ) (i x y : ℕ) → i < length (numbers_of w) → numbers_of (set (set w (i * 2) x) (i * 2 + 1) y) ≡ set (numbers_of w) i (x + y * 2 ^ 32)
unfolding numbers_of
numbers_set [] i x y h = absurd (omega arith)
numbers_set (a ∷ []) i x y h = absurd (omega arith)
numbers_set (a ∷ b ∷ r) zero x y h = refl
numbers_set (a ∷ b ∷ r) (suc i) x y h =
    rw (two_more i 1, two i) (ap (λ (t : List ℕ). (a + b * 2 ^ 32) ∷ t) (numbers_set r i x y (le_of_suc-le-suc h)))

-- a number is that of its words
pub number_words : (x : ℕ) → x % 2 ^ 32 + x / 2 ^ 32 * 2 ^ 32 ≡ x
number_words x = omega arith

-- ---- lists one after the other, and zeros
numbers_append : (v w : List ℕ) (k : ℕ) → length v ≡ k * 2 → numbers_of (v ++ w) ≡ numbers_of v ++ numbers_of w
unfolding numbers_of
numbers_append [] w k h = refl
numbers_append (a ∷ []) w k h = absurd (omega arith)
numbers_append (a ∷ b ∷ v) w zero h = absurd (omega arith)
numbers_append (a ∷ b ∷ v) w (suc k) h = ap (λ (t : List ℕ). (a + b * 2 ^ 32) ∷ t) (numbers_append v w k (omega arith))

-- zeros past the last pair of words count for nothing
zeros_few : (m r : ℕ) → r < 2 → numbers_of (replicate (m * 2 + r) 0) ≡ replicate m 0
unfolding numbers_of
zeros_few zero zero h = refl
zeros_few zero (suc zero) h = refl
zeros_few zero (suc (suc r)) h = absurd (omega arith)
zeros_few (suc m) r h = rw (two_more m r) (ap (λ (t : List ℕ). 0 ∷ t) (zeros_few m r h))

numbers_zeros : (k : ℕ) → numbers_of (replicate k 0) ≡ replicate (k / 2) 0
numbers_zeros k =
    let e : k ≡ k / 2 * 2 + k % 2 = omega arith in
    ap (λ (j : ℕ). numbers_of (replicate j 0)) e ∙ zeros_few (k / 2) (k % 2) (omega arith)

-- the same of bytes
bytes_append : (a b : List ℕ) (k : ℕ) → length a ≡ k * 8 → numbers_of (words_of (a ++ b)) ≡ numbers_of (words_of a) ++ numbers_of (words_of b)
bytes_append a b k h =
    ap numbers_of (words_append a b (k * 2) (omega arith))
    ∙ numbers_append (words_of a) (words_of b) k (omega (arith, words_count a))

pub bytes_zeros : (k : ℕ) → numbers_of (words_of (replicate k 0)) ≡ replicate (k / 8) 0
bytes_zeros k =
    let e : k / 4 / 2 ≡ k / 8 = omega arith in
    ap numbers_of (words_zeros k) ∙ numbers_zeros (k / 4) ∙ ap (λ (j : ℕ). replicate j 0) e

pub padded_bytes : (v : List ℕ) (k m : ℕ) → length v ≡ k * 8 → numbers_of (words_of (v ++ replicate m 0)) ≡ padded (numbers_of (words_of v)) (k + m / 8)
padded_bytes v k m h =
    let e : m / 8 ≡ k + m / 8 - length (numbers_of (words_of v)) = omega (arith, length_numbers v) in
    bytes_append v (replicate m 0) k h
    ∙ ap (λ (t : List ℕ). numbers_of (words_of v) ++ t) (bytes_zeros m ∙ ap (λ (j : ℕ). replicate j 0) e)

-- ---- one number in bytes
pub get_or_bytes : (b : List ℕ) (i : ℕ) → i < length (numbers_of (words_of b)) → get_or (numbers_of (words_of b)) i 0
    ≡ word_of_bytes (get_or b (i * 8) 0) (get_or b (i * 8 + 1) 0) (get_or b (i * 8 + 2) 0) (get_or b (i * 8 + 3) 0)
    + word_of_bytes (get_or b (i * 8 + 4) 0) (get_or b (i * 8 + 5) 0) (get_or b (i * 8 + 6) 0) (get_or b (i * 8 + 7) 0) * 2 ^ 32
get_or_bytes b i h =
    let lower : i * 2 < length (words_of b) = omega (arith, numbers_count (words_of b)) in
    let upper : i * 2 + 1 < length (words_of b) = omega (arith, numbers_count (words_of b)) in
    let n0 : i * 2 * 4 ≡ i * 8 = omega arith in
    let n4 : (i * 2 + 1) * 4 ≡ i * 8 + 4 = omega arith in
    let n5 : i * 8 + 4 + 1 ≡ i * 8 + 5 = omega arith in
    let n6 : i * 8 + 4 + 2 ≡ i * 8 + 6 = omega arith in
    let n7 : i * 8 + 4 + 3 ≡ i * 8 + 7 = omega arith in
    get_or_numbers (words_of b) i h ∙ ap₂ (λ (x y : ℕ). x + y * 2 ^ 32) (rw n0 at (get_or_words b (i * 2) lower)) (rw (n4, n5, n6, n7) at (get_or_words b (i * 2 + 1) upper))
