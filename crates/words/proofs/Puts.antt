-- Laws of `put`, words in place of others: nothing put, one word more, words after words, what is kept, and the words of bytes that are put.
use Prim.Native.Nat.{ℕ, suc, ◌+◌, ◌*◌, ◌/◌, ◌%◌, ◌^◌, ◌<◌, ◌≤◌}
use mathlib.Core.Path.{◌≡◌, refl, sym, ◌∙◌, ap, ap₂}
use mathlib.Core.List.{List, [], ◌∷◌, ◌++◌, append_assoc, append-nil}
use native.Mathlib.Nat.{add-zero}
use native.Mathlib.Numerals.{add-one}
use native.Mathlib.Omega.{arith}
use lib.ListN.{length, get_or, take, drop, set, length-append, length-drop, take-append-drop}
use lib.Seq.{length-take-le, drop-cons, set_at, append_snoc, take_at, take-suc, drop-drop, drop-append-add}
use borrow.Rule.Slice.PartMut.{put_mid}
use Rattle.words.specs.Bytes.{words_of, numbers_of, bytes_of, halves_of}
use Rattle.words.specs.Rows.{row, put}
use Rattle.words.proofs.Rows.{length-row}
use Rattle.words.proofs.Parts.{put_back}
use Rattle.words.proofs.RoundTrips.{bytes_words}
use Rattle.words.proofs.Below.{below_more, below_none}
use Rattle.words.proofs.Words.{words_count, length_words, words_append, words_drop, words_take}
use Rattle.words.proofs.Numbers.{numbers_count, numbers_set, number_words}

pub put_nil : (s : List ℕ) (i : ℕ) → put s i [] ≡ s
unfolding put
put_nil s i = simp (add-zero, append-nil, take-append-drop)

-- where the words that are put end
pub length_front : (s : List ℕ) (i : ℕ) (v : List ℕ) → i ≤ length s → length (take i s ++ v) ≡ i + length v
length_front s i v h = simp (length-append, length-take-le)

pub length-put : (s : List ℕ) (i : ℕ) (v : List ℕ) → i + length v ≤ length s → length (put s i v) ≡ length s
unfolding put
length-put s i v h =
    let b : i ≤ length s = omega arith in
    simp (length-append, length-take-le, length-drop) (omega arith)

-- the words before are kept
pub take-put : (s : List ℕ) (i : ℕ) (v : List ℕ) → i ≤ length s → take i (put s i v) ≡ take i s
unfolding put
take-put s i v h = simp append_assoc (take_at (take i s) (v ++ drop (i + length v) s) i (length-take-le i s h))

-- one more word
pub put_snoc : (s : List ℕ) (i : ℕ) (v : List ℕ) (a : ℕ) → i + length v < length s → set (put s i v) (i + length v) a ≡ put s i (v ++ (a ∷ []))
unfolding put
put_snoc s i v a h =
    let b : i ≤ length s = omega arith in
    let e : i + length (v ++ (a ∷ [])) ≡ suc (i + length v) = omega (arith, length-append v (a ∷ [])) in
    rw (drop-cons s (i + length v) 0)
    (set_at (take i s ++ v) (get_or s (i + length v) 0) (drop (suc (i + length v)) s) a (i + length v) (length_front s i v b)
    ∙ sym (append_snoc (take i s ++ v) a (drop (suc (i + length v)) s))
    ∙ rw (e, append_assoc (take i s) v (a ∷ [])))

row_more : (f : ℕ → ℕ) (n : ℕ) → row f (n + 1) ≡ row f n ++ (f n ∷ [])
unfolding row
row_more f n = rw (add-one n) refl

-- a turn of a loop that writes a table: the word at i + n is f n
pub put_more : (s : List ℕ) (i : ℕ) (f : ℕ → ℕ) (n : ℕ) (a : ℕ) → i + n < length s → a ≡ f n → set (put s i (row f n)) (i + n) a ≡ put s i (row f (n + 1))
put_more s i f n a h e =
    let l = length-row f n in
    let p = put_snoc s i (row f n) a (omega arith) in
    let q : i + length (row f n) ≡ i + n = omega arith in
    let r = row_more f n in
    rw (r, ← e) (rw q at p)

-- a turn of a loop that copies a list
pub put-take : (s : List ℕ) (i : ℕ) (v : List ℕ) (n : ℕ) → i + length v ≤ length s → n < length v → set (put s i (take n v)) (i + n) (get_or v n 0) ≡ put s i (take (n + 1) v)
put-take s i v n h k =
    let l = length-take-le n v (omega arith) in
    let p = put_snoc s i (take n v) (get_or v n 0) (omega arith) in
    let q : i + length (take n v) ≡ i + n = omega arith in
    rw (add-one n, take-suc v n 0 k) (rw q at p)

-- words put after words that were put
pub put-append : (s : List ℕ) (i : ℕ) (v w : List ℕ) → i ≤ length s → put (put s i v) (i + length v) w ≡ put s i (v ++ w)
unfolding put
put-append s i v w h =
    let f = length_front s i v h in
    let r = drop (i + length v) s in
    let a : take (i + length v) (take i s ++ v ++ r) ≡ take i s ++ v = take_at (take i s ++ v) r (i + length v) f in
    let e : i + length v + length w ≡ length (take i s ++ v) + length w = omega arith in
    let g : i + length v + length w ≡ i + length (v ++ w) = omega (arith, length-append v w) in
    let b : drop (i + length v + length w) (take i s ++ v ++ r) ≡ drop (i + length (v ++ w)) s =
    ap (λ (k : ℕ). drop k (take i s ++ v ++ r)) e ∙ drop-append-add (take i s ++ v) r (length w) ∙ drop-drop (length w) (i + length v) s
    ∙ ap (λ (k : ℕ). drop k s) g in
    rw (a, b) (simp append_assoc)

-- one word
pub put_one : (s : List ℕ) (i a : ℕ) → i < length s → set s i a ≡ put s i (a ∷ [])
put_one s i a h =
    let p = put_snoc s i [] a (omega arith) in
    let z : i + 0 ≡ i = omega arith in
    sym (ap (λ (t : List ℕ). set t i a) (put_nil s i)) ∙ (rw z at p)

-- one after the other
pub put_four : (s : List ℕ) (i a b c d : ℕ) → i + 3 < length s → set (set (set (set s i a) (i + 1) b) (i + 2) c) (i + 3) d ≡ put s i (a ∷ b ∷ c ∷ d ∷ [])
put_four s i a b c d h =
    let one = put_one s i a (omega arith) in
    let two = put_snoc s i (a ∷ []) b (omega arith) in
    let three = put_snoc s i (a ∷ b ∷ []) c (omega arith) in
    ap (λ (t : List ℕ). set (set (set t (i + 1) b) (i + 2) c) (i + 3) d) one ∙ ap (λ (t : List ℕ). set (set t (i + 2) c) (i + 3) d) two
    ∙ ap (λ (t : List ℕ). set t (i + 3) d) three ∙ put_snoc s i (a ∷ b ∷ c ∷ []) d (omega arith)

-- what was put at the front is the front
pub front_take : (s v : List ℕ) (n : ℕ) → length v ≡ n → take n (put s 0 v) ≡ v
unfolding put
front_take s v n e = take_at v (drop (0 + length v) s) n e

-- whole words among bytes
pub words_put : (b v : List ℕ) (i k : ℕ) → length v ≡ k * 4 → i + k ≤ length (words_of b) → words_of (put b (i * 4) v) ≡ put (words_of b) i (words_of v)
unfolding put
words_put b v i k long inside =
    let count : length (words_of v) ≡ k = omega (arith, length_words v) in
    let before : length (take (i * 4) b) ≡ i * 4 = length-take-le (i * 4) b (omega (arith, words_count b)) in
    let end : i * 4 + length v ≡ (i + k) * 4 = omega arith in
    let rest : words_of (drop (i * 4 + length v) b) ≡ drop (i + length (words_of v)) (words_of b) = rw (end, count) (words_drop b (i + k)) in
    words_append (take (i * 4) b ++ v) (drop (i * 4 + length v) b) (i + k) (omega (arith, length-append (take (i * 4) b) v))
    ∙ ap₂ ◌++◌ (words_append (take (i * 4) b) v i before ∙ ap (λ (t : List ℕ). t ++ words_of v) (words_take b i)) rest

-- a word's four bytes, where a part of as many was filled anew
pub word_back : (b v : List ℕ) (i at k w : ℕ) → at ≡ i * 4 → k ≡ 4 → w < 2 ^ 32 → i < length (words_of b) → v ≡ bytes_of (w ∷ []) → words_of (put_mid at k b v) ≡ set (words_of b) i w
unfolding bytes_of
word_back b v i at k w here four small inside told =
    let long : length v ≡ 4 = ap length told in
    let e : put_mid at k b v ≡ put b (i * 4) v = put_back b v at k (omega arith) ∙ ap (λ (n : ℕ). put b n v) here in
    let read : words_of v ≡ w ∷ [] = ap words_of told ∙ bytes_words (w ∷ []) (below_more {bound = 2 ^ 32} (omega arith) w [] small (below_none (omega arith))) in
    ap words_of e ∙ words_put b v i 1 long (omega arith) ∙ ap (put (words_of b) i) read ∙ sym (put_one (words_of b) i w inside)

-- .. and a number's eight
pub number_back : (b v : List ℕ) (i at k x : ℕ) → at ≡ i * 8 → k ≡ 8 → x < 2 ^ 64 → i < length (numbers_of (words_of b)) → v ≡ bytes_of (halves_of (x ∷ []))
    → numbers_of (words_of (put_mid at k b v)) ≡ set (numbers_of (words_of b)) i x
unfolding bytes_of halves_of
number_back b v i at k x here eight small inside told =
    let w = words_of b in
    let lower = x % 2 ^ 32 in
    let upper = x / 2 ^ 32 in
    let room : i * 2 + 1 < length w = omega (arith, numbers_count w) in
    let long : length v ≡ 8 = ap length told in
    let start : at ≡ i * 2 * 4 = omega arith in
    let e : put_mid at k b v ≡ put b (i * 2 * 4) v = put_back b v at k (omega arith) ∙ ap (λ (n : ℕ). put b n v) start in
    let one = below_more {bound = 2 ^ 32} (omega arith) in
    let read : words_of v ≡ lower ∷ upper ∷ [] =
    ap words_of told ∙ bytes_words (lower ∷ upper ∷ []) (one lower (upper ∷ []) (omega arith) (one upper [] (omega arith) (below_none (omega arith)))) in
    let two : put w (i * 2) (lower ∷ upper ∷ []) ≡ set (set w (i * 2) lower) (i * 2 + 1) upper =
    sym (ap (λ (t : List ℕ). set t (i * 2 + 1) upper) (put_one w (i * 2) lower (omega arith)) ∙ put_snoc w (i * 2) (lower ∷ []) upper (omega arith)) in
    ap (λ (t : List ℕ). numbers_of (words_of t)) e ∙ ap numbers_of (words_put b v (i * 2) 2 long (omega arith) ∙ ap (put w (i * 2)) read ∙ two)
    ∙ numbers_set w i lower upper inside ∙ ap (set (numbers_of w) i) (number_words x)
