-- The rounds: the iteration on margins has come to the surround when it first rests, and that is within n rounds; it rests from then on.
use mathlib.Core.Path.{◌≡◌, refl, sym, ◌∙◌}
use mathlib.Core.Bool.{Bool, true, false, not, ◌&&◌}
use Prim.Native.Nat.{ℕ, zero, suc, pred, ◌<◌, ◌≤◌, zero-le, suc-le-suc}
use native.Mathlib.Nat.{not-suc-le-zero, le_of_suc-le-suc, le_antisymm}
use native.Mathlib.Omega.{arith}
use lib.Dec.{T, T_not}
use Rattle.logic.specs.Margin.{Margin, at_most, margin_lattice}
use Rattle.logic.specs.Surround.{surround}
use Rattle.logic.specs.Iteration.{iterate, masked, first, at_rest, rounds}
use Rattle.counting.proofs.Tests.{and_l, and_r, and_i}
use Rattle.logic.proofs.Quantifiers.{all_e, all_i}
use Rattle.logic.proofs.Keeps.{same_kept, iterate_kept}
use Rattle.logic.proofs.Resting.{Rests, rests_on}
use Rattle.logic.proofs.Order.{at_most_anti}
use Rattle.logic.proofs.Margins.{margin_apart, margin_refl}
use Rattle.logic.proofs.Thresholds.{settled, rested}

-- ---- the first number that passes
pub first_le : (t : ℕ → Bool) (d : ℕ) → first t d ≤ d
unfolding first
first_le t zero = zero-le
first_le t (suc d) = go (t zero) (first_le (λ i. t (suc i)) d)
  where
    go : (c : Bool) → first (λ i. t (suc i)) d ≤ d → elim c as (λ _. ℕ) [ true ↦ zero | false ↦ suc (first (λ i. t (suc i)) d) ] ≤ suc d
    go true h = zero-le
    go false h = suc-le-suc h

pub first_at : (t : ℕ → Bool) (d : ℕ) → T (t d) → T (t (first t d))
unfolding first
first_at t zero h = h
first_at t (suc d) h = go (t zero) refl (first_at (λ i. t (suc i)) d h)
  where
    go : (c : Bool) → t zero ≡ c → T (t (suc (first (λ i. t (suc i)) d))) → T (t (elim c as (λ _. ℕ) [ true ↦ zero | false ↦ suc (first (λ i. t (suc i)) d) ]))
    go true e h = rw e tt
    go false e h = h

pub first_not : (t : ℕ → Bool) (d j : ℕ) → j < first t d → T (not (t j))
unfolding first
first_not t zero j b = absurd (not-suc-le-zero b)
first_not t (suc d) zero b = go (t zero) refl b
  where
    go : (c : Bool) → t zero ≡ c → zero < elim c as (λ _. ℕ) [ true ↦ zero | false ↦ suc (first (λ i. t (suc i)) d) ] → T (not (t zero))
    go true e b = absurd (not-suc-le-zero b)
    go false e b = rw e tt
first_not t (suc d) (suc j) b = go (t zero) b (λ c. first_not (λ i. t (suc i)) d j c)
  where
    go : (c : Bool) → suc j < elim c as (λ _. ℕ) [ true ↦ zero | false ↦ suc (first (λ i. t (suc i)) d) ] → (j < first (λ i. t (suc i)) d → T (not (t (suc j)))) → T (not (t (suc j)))
    go true b f = absurd (not-suc-le-zero b)
    go false b f = f (le_of_suc-le-suc b)

-- ---- the rounds
module _ (joined : ℕ → ℕ → Bool) (n : ℕ) (p q : ℕ → Margin) where
  abbrev W : ℕ → ℕ → Margin
  W i l = iterate margin_lattice joined n p q i l

  abbrev same : ℕ → ℕ → Bool
  same i l = at_most (W (suc i) l) (W i l) && at_most (W i l) (W (suc i) l)

  rest_e : (i : ℕ) → T (at_rest joined n p q i) → Rests margin_lattice joined n p q i
  unfolding at_rest
  rest_e i h l b =
      let s = all_e (λ _. true) (same i) n h l b tt in
      at_most_anti (W (suc i) l) (W i l) (and_l (at_most (W (suc i) l) (W i l)) _ s) (and_r (at_most (W (suc i) l) (W i l)) _ s)

  rest_i : (i : ℕ) → Rests margin_lattice joined n p q i → T (at_rest joined n p q i)
  unfolding at_rest
  rest_i i h = all_i (λ _. true) (same i) n (λ l b _. rw (h l b) (and_i (at_most (W i l) (W i l)) _ (margin_refl (W i l)) (margin_refl (W i l))))

  at_end : T (at_rest joined n p q (pred n))
  at_end = rest_i (pred n) (settled margin_lattice margin_apart joined n p q (pred n) (omega arith))

  last : ℕ
  last = first (at_rest joined n p q) (pred n)

  at_last : T (at_rest joined n p q last)
  unfolding last
  at_last = first_at (at_rest joined n p q) (pred n) at_end

  pub rounds_bound : 1 ≤ n → rounds joined n p q ≤ n
  unfolding rounds
  rounds_bound h = omega (arith, first_le (at_rest joined n p q) (pred n))

  -- from the rounds on, and no sooner, all steps rest
  pub rests_after : (i : ℕ) → rounds joined n p q ≤ suc i → Rests margin_lattice joined n p q i
  unfolding rounds last
  rests_after i h = rests_on margin_lattice joined n p q last (rest_e last at_last) i (le_of_suc-le-suc h)

  pub rounds_least : (i : ℕ) → Rests margin_lattice joined n p q i → rounds joined n p q ≤ suc i
  unfolding rounds
  rounds_least i h = let late : i < first (at_rest joined n p q) (pred n) → ⊥ = λ b. T_not (at_rest joined n p q i) (first_not (at_rest joined n p q) (pred n) i b) (rest_i i h) in omega arith

-- the rounds depend on the margins of the n places alone
module _ (joined : ℕ → ℕ → Bool) (n : ℕ) where
  rounds_at_most : (p q p' q' : ℕ → Margin) → ((l : ℕ) → l < n → p l ≡ p' l) → ((l : ℕ) → l < n → q l ≡ q' l) → rounds joined n p q ≤ rounds joined n p' q'
  unfolding rounds
  rounds_at_most p q p' q' hp hq =
      let same = iterate_kept margin_lattice margin_lattice (λ a b. a ≡ b) (same_kept margin_lattice) joined n p q p' q' hp hq in
      let i : ℕ = first (at_rest joined n p' q') (pred n) in
      rounds_least joined n p q i (λ l b. same (suc i) l b ∙ rests_after joined n p' q' i (omega arith) l b ∙ sym (same i l b))

  pub rounds_same : (p q p' q' : ℕ → Margin) → ((l : ℕ) → l < n → p l ≡ p' l) → ((l : ℕ) → l < n → q l ≡ q' l) → rounds joined n p q ≡ rounds joined n p' q'
  rounds_same p q p' q' hp hq = le_antisymm (rounds_at_most p q p' q' hp hq) (rounds_at_most p' q' p q (λ l b. sym (hp l b)) (λ l b. sym (hq l b)))

-- what the last round leaves on the masked margins is the surround
module _ (joined : ℕ → ℕ → Bool) (n : ℕ) (inside edge : ℕ → Bool) (left right : ℕ → Margin) where
  abbrev p : ℕ → Margin
  p = masked margin_lattice inside left

  abbrev q : ℕ → Margin
  q = masked margin_lattice edge right

  pub last_round : (l : ℕ) → l < n → iterate margin_lattice joined n p q (rounds joined n p q) l ≡ surround margin_lattice joined n true inside edge left right l
  unfolding rounds last
  last_round l b = let rest = rest_e joined n p q (last joined n p q) (at_last joined n p q) in rest l b ∙ rested margin_lattice margin_apart joined n inside edge left right (last joined n p q) rest l b
