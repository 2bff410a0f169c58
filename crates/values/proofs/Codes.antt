-- A margin's code and back: every code up to 2^28 is the code of one small margin, and margins stand in the order of their codes.
use mathlib.Core.Path.{◌≡◌, refl, sym, ap, subst, ◌∙◌}
use mathlib.Core.Logic.{◌⊎◌, inl, inr, ⊎_elim}
use Prim.Native.Nat.{ℕ, zero, suc, ◌+◌, ◌-◌, ◌<◌, ◌≤◌, ◌^◌}
use native.Mathlib.Nat.{eq-or-lt_of_le, eq-zero-or-pos}
use native.Mathlib.Omega.{arith}
use lib.Dec.{T, le→leb}
use lib.IntN.{pos, negsuc, sub_ℕ}
use borrow.Author.Tests.{lt-ltb, le-ltb, ne_eqb}
use Rattle.logic.specs.Margin.{Margin, minus_infinity, finite, plus_infinity, at_most, negate}
use Rattle.logic.proofs.Small.{Small, small_negate}
use Rattle.logic.proofs.Order.{at_most_plus_infinity}
use Rattle.values.specs.Chain.{margin_code, margin_at}
use Rattle.values.proofs.Naturals.{le_or_lt}

-- ---- the margin of a code
pub at_between : (code : ℕ) → 0 < code → code < 2 ^ 28 → margin_at code ≡ finite (sub_ℕ code (2 ^ 27))
unfolding margin_at
at_between code low high = simp (ne_eqb code 0 (λ e. omega arith), lt-ltb code (2 ^ 28) high)

pub at_infinite : (code : ℕ) → 2 ^ 28 ≤ code → margin_at code ≡ plus_infinity
unfolding margin_at
at_infinite code high = simp (ne_eqb code 0 (λ e. omega arith), le-ltb code (2 ^ 28) high)

pub at_code : (m : Margin) → Small m → margin_at (margin_code m) ≡ m
unfolding margin_at
at_code minus_infinity s = refl
at_code (finite (pos x)) s =
    let back : 2 ^ 27 + x - 2 ^ 27 ≡ x = omega arith in
    let high : 2 ^ 27 ≤ 2 ^ 27 + x = omega arith in
    at_between (2 ^ 27 + x) (omega arith) (omega arith) ∙ simp (le-ltb (2 ^ 27 + x) (2 ^ 27) high, back)
at_code (finite (negsuc x)) s =
    let back : 2 ^ 27 - suc (2 ^ 27 - suc x) ≡ x = omega arith in
    let low : 2 ^ 27 - suc x < 2 ^ 27 = omega arith in
    at_between (2 ^ 27 - suc x) (omega arith) (omega arith) ∙ simp (lt-ltb (2 ^ 27 - suc x) (2 ^ 27) low, back)
at_code plus_infinity s = refl

-- ---- the code of a margin
pub code_bound : (m : Margin) → Small m → margin_code m ≤ 2 ^ 28
code_bound minus_infinity s = omega arith
code_bound (finite (pos x)) s = omega arith
code_bound (finite (negsuc x)) s = omega arith
code_bound plus_infinity s = omega arith

code_negate : (m : Margin) → Small m → margin_code (negate m) ≡ 2 ^ 28 - margin_code m
code_negate minus_infinity s = refl
code_negate (finite (pos zero)) s = refl
code_negate (finite (pos (suc x))) s = omega arith
code_negate (finite (negsuc x)) s = omega arith
code_negate plus_infinity s = refl

-- margins stand in the order of their codes
code_order : (a b : Margin) → Small a → Small b → margin_code a ≤ margin_code b → T (at_most a b)
code_order minus_infinity b s t h = tt
code_order (finite (pos a)) minus_infinity s t h = absurd (omega arith)
code_order (finite (negsuc a)) minus_infinity s t h = absurd (omega arith)
code_order (finite (pos a)) (finite (pos b)) s t h = le→leb a b (omega arith)
code_order (finite (pos a)) (finite (negsuc b)) s t h = absurd (omega arith)
code_order (finite (negsuc a)) (finite (pos b)) s t h = tt
code_order (finite (negsuc a)) (finite (negsuc b)) s t h = le→leb b a (omega arith)
code_order (finite a) plus_infinity s t h = tt
code_order plus_infinity minus_infinity s t h = absurd (omega arith)
code_order plus_infinity (finite (pos b)) s t h = absurd (omega arith)
code_order plus_infinity (finite (negsuc b)) s t h = absurd (omega arith)
code_order plus_infinity plus_infinity s t h = tt

-- ---- every code up to 2^28 is that of a small margin
record Coded (code : ℕ) : Type 0 where
  margin : Margin
  small : Small margin
  codes : margin_code margin ≡ code

coded : (code : ℕ) → code ≤ 2 ^ 28 → Coded code
coded code h = by_cases (eq-zero-or-pos code) (eq-or-lt_of_le h) (le_or_lt (2 ^ 27) code)
  where
    by_cases : (code ≡ 0) ⊎ (0 < code) → (code ≡ 2 ^ 28) ⊎ (code < 2 ^ 28) → (2 ^ 27 ≤ code) ⊎ (code < 2 ^ 27) → Coded code
    by_cases (inl e) q r = record { margin = minus_infinity; small = tt; codes = sym e }
    by_cases (inr p) (inl e) r = record { margin = plus_infinity; small = tt; codes = sym e }
    by_cases (inr p) (inr q) (inl r) = record { margin = finite (pos (code - 2 ^ 27)); small = omega arith; codes = omega arith }
    by_cases (inr p) (inr q) (inr r) = record { margin = finite (negsuc (2 ^ 27 - suc code)); small = omega arith; codes = omega arith }

pub code_at : (code : ℕ) → code ≤ 2 ^ 28 → margin_code (margin_at code) ≡ code
code_at code h = let k = coded code h in ap (λ n. margin_code (margin_at n)) (sym k.codes) ∙ ap margin_code (at_code k.margin k.small) ∙ k.codes

pub at_small : (code : ℕ) → code ≤ 2 ^ 28 → Small (margin_at code)
at_small code h = let k = coded code h in subst Small (sym (at_code k.margin k.small) ∙ ap margin_at k.codes) k.small

-- more is no less, beyond the codes too
pub at_monotone : (a b : ℕ) → a ≤ b → T (at_most (margin_at a) (margin_at b))
at_monotone a b h = ⊎_elim
    (λ high. rw (at_infinite b high) (at_most_plus_infinity (margin_at a)))
    (λ low. code_order (margin_at a) (margin_at b) (at_small a (omega arith)) (at_small b (omega arith)) (omega (arith, code_at a (omega arith), code_at b (omega arith))))
    (le_or_lt (2 ^ 28) b)

pub at_negate : (code : ℕ) → code ≤ 2 ^ 28 → margin_at (2 ^ 28 - code) ≡ negate (margin_at code)
at_negate code h =
    let m : Margin = margin_at code in
    let s : Small m = at_small code h in
    ap (λ n. margin_at (2 ^ 28 - n)) (sym (code_at code h)) ∙ ap margin_at (sym (code_negate m s)) ∙ at_code (negate m) (small_negate m s)

pub code_opposite : (code : ℕ) → code ≤ 2 ^ 28 → margin_code (negate (margin_at code)) ≡ 2 ^ 28 - code
code_opposite code h = code_negate (margin_at code) (at_small code h) ∙ ap (λ n. 2 ^ 28 - n) (code_at code h)
