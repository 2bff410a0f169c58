-- Laws of the words that a list of bytes holds: their count, the bytes of one, parts that hold whole words, stores and zeros.
use Prim.Native.Nat.{ℕ, zero, suc, ◌+◌, ◌-◌, ◌*◌, ◌/◌, ◌%◌, ◌<◌, ◌≤◌}
use mathlib.Core.Path.{◌≡◌, refl, ◌∙◌, ap}
use mathlib.Core.List.{List, [], ◌∷◌, ◌++◌}
use native.Mathlib.Nat.{le_of_suc-le-suc}
use native.Mathlib.Omega.{arith}
use lib.ListN.{length, get_or, set, take, drop, replicate}
use Rattle.words.specs.Bytes.{word_of_bytes, words_of}

-- four bytes to a word
pub words_count : (b : List ℕ) → (length (words_of b) * 4 ≤ length b) × (length b < length (words_of b) * 4 + 4)
unfolding words_of
words_count [] = omega arith
words_count (a ∷ []) = omega arith
words_count (a ∷ b ∷ []) = omega arith
words_count (a ∷ b ∷ c ∷ []) = omega arith
words_count (a ∷ b ∷ c ∷ d ∷ r) = let h = words_count r in omega arith

pub length_words : (b : List ℕ) → length (words_of b) ≡ length b / 4
length_words b = let h = words_count b in omega arith

-- the bytes of one word more, each at the form that lists compute with
four_more : (k r : ℕ) → suc k * 4 + r ≡ suc (suc (suc (suc (k * 4 + r))))
four_more k r = omega arith

four : (k : ℕ) → suc k * 4 ≡ suc (suc (suc (suc (k * 4))))
four k = omega arith

-- ---- one word
pub get_or_words : (b : List ℕ) (i : ℕ) → i < length (words_of b) → get_or (words_of b) i 0 ≡ word_of_bytes (get_or b (i * 4) 0) (get_or b (i * 4 + 1) 0) (get_or b (i * 4 + 2) 0) (get_or b (i * 4 + 3) 0)
unfolding words_of
get_or_words [] i h = absurd (omega arith)
get_or_words (a ∷ []) i h = absurd (omega arith)
get_or_words (a ∷ b ∷ []) i h = absurd (omega arith)
get_or_words (a ∷ b ∷ c ∷ []) i h = absurd (omega arith)
get_or_words (a ∷ b ∷ c ∷ d ∷ r) zero h = refl
get_or_words (a ∷ b ∷ c ∷ d ∷ r) (suc i) h = rw (four_more i 1, four_more i 2, four_more i 3, four i) (get_or_words r i (le_of_suc-le-suc h))

-- four stores are the store of a word
pub words_set : (b : List ℕ) (i w x y z : ℕ) → i < length (words_of b)
    → words_of (set (set (set (set b (i * 4) w) (i * 4 + 1) x) (i * 4 + 2) y) (i * 4 + 3) z) ≡ set (words_of b) i (word_of_bytes w x y z)
unfolding words_of
words_set [] i w x y z h = absurd (omega arith)
words_set (a ∷ []) i w x y z h = absurd (omega arith)
words_set (a ∷ b ∷ []) i w x y z h = absurd (omega arith)
words_set (a ∷ b ∷ c ∷ []) i w x y z h = absurd (omega arith)
words_set (a ∷ b ∷ c ∷ d ∷ r) zero w x y z h = refl
words_set (a ∷ b ∷ c ∷ d ∷ r) (suc i) w x y z h =
    rw (four_more i 1, four_more i 2, four_more i 3, four i) (ap (λ (t : List ℕ). word_of_bytes a b c d ∷ t) (words_set r i w x y z (le_of_suc-le-suc h)))

-- a number is the word of its bytes
pub word_bytes : (w : ℕ) → word_of_bytes (w % 256) (w / 256 % 256) (w / 65536 % 256) (w / 16777216) ≡ w
word_bytes w = omega arith

-- ---- lists one after the other, and zeros
pub words_append : (a b : List ℕ) (k : ℕ) → length a ≡ k * 4 → words_of (a ++ b) ≡ words_of a ++ words_of b
unfolding words_of
words_append [] b k h = refl
words_append (x ∷ []) b k h = absurd (omega arith)
words_append (x ∷ y ∷ []) b k h = absurd (omega arith)
words_append (x ∷ y ∷ z ∷ []) b k h = absurd (omega arith)
words_append (x ∷ y ∷ z ∷ w ∷ a) b k h = ap (λ (t : List ℕ). word_of_bytes x y z w ∷ t) (words_append a b (k - 1) (omega arith))

-- parts of the bytes that hold whole words
pub words_drop : (b : List ℕ) (k : ℕ) → words_of (drop (k * 4) b) ≡ drop k (words_of b)
unfolding words_of
words_drop b zero = refl
words_drop [] (suc k) = rw (four k) refl
words_drop (a ∷ []) (suc k) = rw (four k) refl
words_drop (a ∷ b ∷ []) (suc k) = rw (four k) refl
words_drop (a ∷ b ∷ c ∷ []) (suc k) = rw (four k) refl
words_drop (a ∷ b ∷ c ∷ d ∷ r) (suc k) = rw (four k) (words_drop r k)

pub words_take : (b : List ℕ) (k : ℕ) → words_of (take (k * 4) b) ≡ take k (words_of b)
unfolding words_of
words_take b zero = refl
words_take [] (suc k) = rw (four k) refl
words_take (a ∷ []) (suc k) = rw (four k) refl
words_take (a ∷ b ∷ []) (suc k) = rw (four k) refl
words_take (a ∷ b ∷ c ∷ []) (suc k) = rw (four k) refl
words_take (a ∷ b ∷ c ∷ d ∷ r) (suc k) = rw (four k) (ap (λ (t : List ℕ). word_of_bytes a b c d ∷ t) (words_take r k))

-- zeros past the last whole word count for nothing
zeros_few : (m r : ℕ) → r < 4 → words_of (replicate (m * 4 + r) 0) ≡ replicate m 0
unfolding words_of
zeros_few zero zero h = refl
zeros_few zero (suc zero) h = refl
zeros_few zero (suc (suc zero)) h = refl
zeros_few zero (suc (suc (suc zero))) h = refl
zeros_few zero (suc (suc (suc (suc r)))) h = absurd (omega arith)
zeros_few (suc m) r h = rw (four_more m r) (ap (λ (t : List ℕ). 0 ∷ t) (zeros_few m r h))

pub words_zeros : (k : ℕ) → words_of (replicate k 0) ≡ replicate (k / 4) 0
words_zeros k =
    let e : k ≡ k / 4 * 4 + k % 4 = omega arith in
    ap (λ (j : ℕ). words_of (replicate j 0)) e ∙ zeros_few (k / 4) (k % 4) (omega arith)
