-- Bytes that are zero: the words and the numbers that they hold, and what lies past the last whole one.
use mathlib.Core.Path.{◌≡◌, refl, sym, ap, ap₂, ◌∙◌}
use mathlib.Core.List.{List, ◌++◌}
use Prim.Native.Nat.{ℕ, zero, suc, ◌+◌, ◌-◌, ◌*◌, ◌/◌, ◌≤◌}
use native.Mathlib.Omega.{arith}
use lib.ListN.{length, get_or, take, drop, replicate, length-append, length-take, length-drop, length-replicate}
use lib.Seq.{drop_at, drop-drop}
use Rattle.words.specs.Bytes.{words_of, numbers_of, after_words, after_numbers}
use Rattle.words.specs.Rows.{padded}
use Rattle.words.proofs.Words.{words_count, length_words, words_append, words_take, words_zeros}
use Rattle.words.proofs.Numbers.{length_numbers, bytes_zeros}

pub zero_words : (b : List ℕ) → words_of (replicate (length b) 0) ≡ replicate (length (words_of b)) 0
zero_words b = words_zeros (length b) ∙ ap (λ (k : ℕ). replicate k 0) (sym (length_words b))

pub zero_numbers : (b : List ℕ) → numbers_of (words_of (replicate (length b) 0)) ≡ replicate (length (numbers_of (words_of b))) 0
zero_numbers b = bytes_zeros (length b) ∙ ap (λ (k : ℕ). replicate k 0) (sym (length_numbers b))

pub zero_at : (k i : ℕ) → ◌≡◌ {A = ℕ} (get_or (replicate k 0) i 0) 0
zero_at zero i = refl
zero_at (suc k) zero = refl
zero_at (suc k) (suc i) = zero_at k i

-- ---- what is zero from an index on is zero from every later one
drop_zeros : (m n : ℕ) → drop {A = ℕ} m (replicate n 0) ≡ replicate (n - m) 0
drop_zeros zero n = let all : n ≡ n - 0 = omega arith in ap (λ (k : ℕ). replicate k 0) all
drop_zeros (suc m) zero = let none : 0 - suc m ≡ 0 = omega arith in rw none refl
drop_zeros (suc m) (suc n) = let less : n - m ≡ suc n - suc m = omega arith in drop_zeros m n ∙ ap (λ (k : ℕ). replicate k 0) less

-- b has the length of e, which is zero from `from` on
module _ (b e : List ℕ) (from : ℕ) (same : length e ≡ length b) (zeros : drop from e ≡ replicate (length b - from) 0) where
  later : (end : ℕ) → from ≤ end → end ≤ length b → drop end e ≡ replicate (length (drop end b)) 0
  later end inside room =
      let further : end ≡ from + (end - from) = omega arith in
      let rest : length b - from - (end - from) ≡ length (drop end b) = omega (arith, length-drop end b) in
      ap (λ (k : ℕ). drop k e) further ∙ sym (drop-drop (end - from) from e) ∙ ap (drop (end - from)) zeros
      ∙ drop_zeros (end - from) (length b - from) ∙ ap (λ (k : ℕ). replicate k 0) rest

  pub words_tail : from ≤ length (words_of b) * 4 → after_words e ≡ replicate (length (after_words b)) 0
  words_tail inside =
      let end : length (words_of e) * 4 ≡ length (words_of b) * 4 = omega (arith, length_words e, length_words b) in
      ap (λ (k : ℕ). drop k e) end ∙ later (length (words_of b) * 4) inside (omega (arith, length_words b))

  pub numbers_tail : from ≤ length (numbers_of (words_of b)) * 8 → after_numbers e ≡ replicate (length (after_numbers b)) 0
  numbers_tail inside =
      let end : length (numbers_of (words_of e)) * 8 ≡ length (numbers_of (words_of b)) * 8 = omega (arith, length_numbers e, length_numbers b) in
      ap (λ (k : ℕ). drop k e) end ∙ later (length (numbers_of (words_of b)) * 8) inside (omega (arith, length_numbers b))

-- ---- of bytes that are all zero, as many as b has
module _ (b e : List ℕ) (m : ℕ) (same : m ≡ length b) (zeros : e ≡ replicate m 0) where
  long : length e ≡ length b
  long = ap length zeros ∙ length-replicate m 0 ∙ same

  from_first : drop 0 e ≡ replicate (length b - 0) 0
  from_first = zeros ∙ ap (λ (k : ℕ). replicate k 0) (let all : m ≡ length b - 0 = omega arith in all)

  pub zero_words_tail : after_words e ≡ replicate (length (after_words b)) 0
  zero_words_tail = words_tail b e 0 long from_first (omega arith)

  pub zero_numbers_tail : after_numbers e ≡ replicate (length (after_numbers b)) 0
  zero_numbers_tail = numbers_tail b e 0 long from_first (omega arith)

-- ---- of bytes that are cleared from an index on
-- behind k words
pub cleared_words : (b : List ℕ) (k : ℕ) → k ≤ length (words_of b) → words_of (take (k * 4) b ++ replicate (length b - k * 4) 0) ≡ padded (take k (words_of b)) (length (words_of b))
cleared_words b k inside =
    let rest : (length b - k * 4) / 4 ≡ length (words_of b) - length (take k (words_of b)) = omega (arith, words_count b, length-take k (words_of b)) in
    words_append (take (k * 4) b) (replicate (length b - k * 4) 0) k (omega (arith, length-take (k * 4) b, words_count b))
    ∙ ap₂ ◌++◌ (words_take b k) (words_zeros (length b - k * 4) ∙ ap (λ (m : ℕ). replicate m 0) rest)

pub cleared_words_tail : (b after : List ℕ) (from : ℕ) → from ≤ length (words_of b) * 4 → after ≡ take from b ++ replicate (length b - from) 0 → after_words after ≡ replicate (length (after_words b)) 0
cleared_words_tail b after from inside cleared =
    let front : length (take from b) ≡ from = omega (arith, length-take from b, length_words b) in
    let long : length after ≡ length b = ap length cleared ∙ length-append (take from b) _ ∙ omega (arith, length-replicate {A = ℕ} (length b - from) 0, length_words b) in
    words_tail b after from long (ap (drop from) cleared ∙ drop_at (take from b) _ from front) inside
