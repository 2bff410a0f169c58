-- The bytes past the last whole word stay as they were when whole words are put.
use mathlib.Core.Path.{◌≡◌, ap, ◌∙◌}
use mathlib.Core.List.{List, [], ◌∷◌, ◌++◌}
use Prim.Native.Nat.{ℕ, ◌+◌, ◌-◌, ◌*◌, ◌<◌, ◌≤◌}
use native.Mathlib.Omega.{arith}
use lib.ListN.{length, take, drop}
use lib.Seq.{drop-drop, drop-append-add}
use Rattle.words.specs.Bytes.{words_of, after_words, bytes_of}
use Rattle.words.specs.Rows.{put}
use Rattle.words.proofs.Puts.{length_front, length-put}
use Rattle.words.proofs.Words.{length_words, words_count}

-- what lies behind the elements that are put
drop-put : (s : List ℕ) (i : ℕ) (v : List ℕ) (k : ℕ) → i + length v ≤ k → i + length v ≤ length s → drop k (put s i v) ≡ drop k s
unfolding put
drop-put s i v k behind room =
    let rest = drop (i + length v) s in
    let more : ℕ = k - (i + length v) in
    let index : k ≡ length (take i s ++ v) + more = omega (arith, length_front s i v (omega arith)) in
    let back : i + length v + more ≡ k = omega arith in
    ap (λ (n : ℕ). drop n (take i s ++ v ++ rest)) index ∙ drop-append-add (take i s ++ v) rest more ∙ drop-drop more (i + length v) s ∙ ap (λ (n : ℕ). drop n s) back

pub put_tail : (b v : List ℕ) (i k : ℕ) → length v ≡ k * 4 → i + k ≤ length (words_of b) → after_words (put b (i * 4) v) ≡ after_words b
put_tail b v i k long inside =
    let room : i * 4 + length v ≤ length b = omega (arith, words_count b) in
    let end : length (words_of (put b (i * 4) v)) * 4 ≡ length (words_of b) * 4 = omega (arith, length-put b (i * 4) v room, length_words (put b (i * 4) v), length_words b) in
    ap (λ (n : ℕ). drop n (put b (i * 4) v)) end ∙ drop-put b (i * 4) v (length (words_of b) * 4) (omega arith) room

-- one word
pub word_tail : (b after : List ℕ) (i w : ℕ) → i < length (words_of b) → after ≡ put b (i * 4) (bytes_of (w ∷ [])) → after_words after ≡ after_words b
unfolding bytes_of
word_tail b after i w inside stored = ap after_words stored ∙ put_tail b (bytes_of (w ∷ [])) i 1 (omega arith) (omega arith)
