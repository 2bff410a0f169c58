-- The word of a chain number is the word of its verdict and margin, and reading it gives the number back. What any word is read as is at most
-- `highest`, and a signal from a later sample on begins later in the words.
use mathlib.Core.Path.{◌≡◌, refl, sym, ap, ◌∙◌}
use mathlib.Core.Logic.{◌⊎◌, inl, inr, ⊎_elim}
use mathlib.Core.Bool.{Bool, true, false, cond}
use mathlib.Core.List.{List}
use Prim.Native.Nat.{ℕ, ◌+◌, ◌*◌, ◌/◌, ◌%◌, ◌<◌, ◌≤◌, ◌^◌, zero-le}
use native.Mathlib.Nat.{add-mul, eq-or-lt_of_le, eq-zero-or-pos}
use native.Mathlib.Omega.{arith}
use lib.Dec.{eqb}
use lib.IntN.{ℤ, sub_ℕ}
use lib.ListN.{get_or}
use borrow.Author.Tests.{lt-ltb, le-ltb, ne_eqb}
use Rattle.words.specs.Word.{kind_of, payload_of, word_of, unsigned}
use Rattle.counting.specs.Totals.{count}
use Rattle.logic.specs.Margin.{finite}
use Rattle.values.specs.Chain.{margin_at, highest, chain_margin, chain_verdict, chain_word, word_chain, Valid}
use Rattle.values.specs.Said.{verdict_word}
use Rattle.values.specs.Signals.{signal_in}
use Rattle.values.proofs.Naturals.{le_or_lt}
use Rattle.values.proofs.Codes.{at_between}
use Rattle.values.proofs.Machine.{byte_count}
use Rattle.values.proofs.ReadBack.{kind_word, payload_word}
use Rattle.values.proofs.Valid.{kinds}

-- the payload of a finite margin
unsigned_at : (code : ℕ) → 0 < code → code < 2 ^ 28 → unsigned 28 (sub_ℕ code (2 ^ 27)) ≡ (code + 2 ^ 27) % 2 ^ 28
unsigned_at code low high = ⊎_elim
    (λ h. rw (le-ltb code (2 ^ 27) h) (omega arith))
    (λ h. rw (lt-ltb code (2 ^ 27) h) (omega arith))
    (le_or_lt (2 ^ 27) code)

word_finite : (v : Bool) (z : ℤ) → verdict_word v (finite z) ≡ word_of (cond v 9 10) (unsigned 28 z)
word_finite true z = refl
word_finite false z = refl

-- a number between the ends: its half is the code of a finite margin
half_between : (c : ℕ) → Valid c → 0 < c → c < highest → (0 < c / 2) × (c / 2 < 2 ^ 28)
half_between c valid low high = ⊎_elim (λ no. (omega arith, omega arith)) (λ yes. (omega arith, omega arith)) (kinds c valid)

pub word_between : (c : ℕ) → 0 < c → c < highest → chain_word c ≡ word_of (cond (chain_verdict c) 9 10) ((c / 2 + 2 ^ 27) % 2 ^ 28)
unfolding chain_word
word_between c low high = simp (ne_eqb c 0 (λ e. omega arith), ne_eqb c highest (λ e. omega arith))

pub word_said : (c : ℕ) → Valid c → chain_word c ≡ verdict_word (chain_verdict c) (chain_margin c)
unfolding chain_word margin_at
word_said c valid = by_cases (eq-zero-or-pos c) (eq-or-lt_of_le valid.bounded)
  where
    by_cases : (c ≡ 0) ⊎ (0 < c) → (c ≡ highest) ⊎ (c < highest) → chain_word c ≡ verdict_word (chain_verdict c) (chain_margin c)
    by_cases (inl e) q = rw e refl
    by_cases (inr p) (inl e) = rw e refl
    by_cases (inr p) (inr q) =
        let (low, high) = half_between c valid p q in
        word_between c p q
        ∙ ap (word_of (cond (chain_verdict c) 9 10)) (sym (unsigned_at (c / 2) low high))
        ∙ sym (word_finite (chain_verdict c) (sub_ℕ (c / 2) (2 ^ 27)))
        ∙ ap (verdict_word (chain_verdict c)) (sym (at_between (c / 2) low high))

-- ---- and back
number_between : (v : Bool) (p : ℕ) → p < 2 ^ 28 → word_chain (word_of (cond v 9 10) p) ≡ 2 * ((p + 2 ^ 27) % 2 ^ 28) + count v
unfolding word_chain
number_between true p h = simp (kind_word 9 p h, payload_word 9 p h)
number_between false p h = simp (kind_word 10 p h, payload_word 10 p h)

pub word_back : (c : ℕ) → Valid c → word_chain (chain_word c) ≡ c
unfolding chain_word word_chain
word_back c valid = by_cases (eq-zero-or-pos c) (eq-or-lt_of_le valid.bounded)
  where
    by_cases : (c ≡ 0) ⊎ (0 < c) → (c ≡ highest) ⊎ (c < highest) → word_chain (chain_word c) ≡ c
    by_cases (inl e) q = rw e refl
    by_cases (inr p) (inl e) = rw e refl
    by_cases (inr p) (inr q) =
        ap word_chain (word_between c p q)
        ∙ number_between (chain_verdict c) ((c / 2 + 2 ^ 27) % 2 ^ 28) (omega arith)
        ∙ omega (arith, valid.agrees, half_between c valid p q)

pub word_bound : (w : ℕ) → word_chain w ≤ highest
unfolding word_chain
word_bound w = go (eqb (kind_of w) 12) (eqb (kind_of w) 11) (eqb (kind_of w) 9)
  where
    go : (bottom top v : Bool) → cond bottom 0 (cond top highest (2 * ((payload_of w + 2 ^ 27) % 2 ^ 28) + count v)) ≤ highest
    go true top v = zero-le
    go false true v = omega arith
    go false false v = omega (arith, byte_count v)

-- what a signal holds
pub signal_bound : (words : List ℕ) (start n t l : ℕ) → signal_in words start n t l ≤ highest
unfolding signal_in
signal_bound words start n t l = word_bound (get_or words (start + (t * n + l)) 0)

-- the signal that begins k samples later is the signal from sample k on
pub signal_later : (words : List ℕ) (start n k t l : ℕ) → signal_in words (start + k * n) n t l ≡ signal_in words start n (k + t) l
unfolding signal_in
signal_later words start n k t l =
    let same : start + k * n + (t * n + l) ≡ start + ((k + t) * n + l) = omega (arith, add-mul k t n) in ap (λ (i : ℕ). word_chain (get_or words i 0)) same
