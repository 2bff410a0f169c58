-- The tests of numbers, and that of a word's kind: how it follows from what the code read or from the word that stands there, and what it tells; what tests that
-- are joined tell of each.
use Prim.Native.Nat.{ℕ, ◌<◌, ◌≤◌, ◌^◌}
use mathlib.Core.Bool.{Bool, true, false, ◌&&◌, ◌||◌, and-false, false≢true}
use mathlib.Core.List.{List}
use mathlib.Core.Path.{◌≡◌, refl, sym, ap, ◌∙◌}
use native.Mathlib.Omega.{arith}
use lib.Dec.{T, leb, ltb, eqb, le→leb, lt→ltb, eqb_refl}
use lib.ListN.{length, get_or-eq_default}
use borrow.Author.Tests.{ltb-true, ltb-false, eqb-true, ne_eqb}
use Rattle.words.specs.Word.{kind_of, word_of}
use Rattle.counting.proofs.Tests.{and_i}
use Rattle.checks.specs.Checked.{between, word_at, is_kind}

pub equal : (a b : ℕ) → a ≡ b → T (eqb a b)
equal a b e = rw e (eqb_refl b)

pub in_limits : (low high x : ℕ) → low ≤ x → x ≤ high → T (between low high x)
in_limits low high x h k = and_i (leb low x) (leb x high) (le→leb low x h) (le→leb x high k)

pub and_true : (a b : Bool) → (a && b) ≡ true → (a ≡ true) × (b ≡ true)
and_true true b e = (refl, e)
and_true false b e = absurd (false≢true e)

pub and_rest : (a b : Bool) → (a && b) ≡ false → a ≡ true → b ≡ false
and_rest true b e h = e
and_rest false b e h = absurd (false≢true h)

pub or_false : (a b : Bool) → (a || b) ≡ false → (a ≡ false) × (b ≡ false)
or_false true b e = absurd (false≢true (sym e))
or_false false b e = (refl, e)

pub kind_told : (k : ℕ) (s : List ℕ) (at : ℕ) → is_kind k s at ≡ true → (at < length s) × (kind_of (word_at s at) ≡ k)
unfolding is_kind
kind_told k s at e =
    let both = and_true (ltb at (length s)) (eqb (kind_of (word_at s at)) k) e in
    (ltb-true _ _ both.0, eqb-true _ _ both.1)

-- the code reads 0 where there is no word, and no kind that is asked for is 0
pub kind_read : (s : List ℕ) (at k : ℕ) → 0 < k → eqb (kind_of (word_at s at)) k ≡ is_kind k s at
unfolding is_kind
kind_read s at k some = by_length (ltb at (length s)) refl
  where
    by_length : (b : Bool) → ltb at (length s) ≡ b → eqb (kind_of (word_at s at)) k ≡ (b && eqb (kind_of (word_at s at)) k)
    by_length true e = refl
    by_length false e =
        let none : word_at s at ≡ 0 = get_or-eq_default s 0 (ltb-false _ _ e) in
        ne_eqb _ k (λ told. omega (arith, none, told, some))

-- a word of a kind and a payload stands at an index; another kind stands there
pub kind_there : (s : List ℕ) (kind payload at : ℕ) → at < length s → word_at s at ≡ word_of kind payload → payload < 2 ^ 28 → T (is_kind kind s at)
unfolding is_kind
kind_there s kind payload at h e p =
    let k : kind_of (word_at s at) ≡ kind = ap kind_of e ∙ omega arith in
    and_i (ltb at (length s)) (eqb (kind_of (word_at s at)) kind) (lt→ltb at (length s) h) (equal (kind_of (word_at s at)) kind k)

pub kind_other : (s : List ℕ) (kind at : ℕ) → (kind_of (word_at s at) ≡ kind → ⊥) → is_kind kind s at ≡ false
unfolding is_kind
kind_other s kind at o = rw (ne_eqb (kind_of (word_at s at)) kind o) (and-false (ltb at (length s)))
