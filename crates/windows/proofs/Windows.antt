-- Until and since, known before their window is read to its end; eventually and once as the greatest of a window; and a window that moves on.
use mathlib.Core.Path.{◌≡◌, refl, sym, ap, ap₂, ◌∙◌}
use mathlib.Core.Bool.{true}
use Prim.Native.Nat.{ℕ, zero, suc, ◌+◌, ◌-◌, ◌<◌, ◌≤◌, max}
use native.Mathlib.Nat.{le-suc, le_trans}
use native.Mathlib.Omega.{arith}
use lib.Dec.{leb}
use borrow.Author.Tests.{le-leb}
use Rattle.formulas.specs.Formulas.{Direction, forward, backward}
use Rattle.logic.specs.Lattice.{least_over}
use Rattle.logic.specs.Table.{Signal, away, least_so_far, until_so_far, until_at, ever_true}
use Rattle.logic.proofs.Keeps.{greatest_same}
use Rattle.values.specs.Chain.{chains, chain_lattice, highest}
use Rattle.values.proofs.Naturals.{join_max}
use Rattle.windows.specs.Rows.{ahead}
use Rattle.windows.proofs.Folds.{meet_under, greatest_from, from_more, from_first, from_later, from_back, least_falls, greatest_stays}

-- No sample that is not yet read offers more than the least of left so far, so where that is no more than until so far, until is known.
pub until_known : (side : Direction) (left right : Signal chains) (lower upper t l n : ℕ) → n ≤ suc upper
    → least_so_far chains side left t l n ≤ until_so_far chains side left right lower t l n → until_so_far chains side left right lower t l n ≡ until_at chains side left right lower upper t l
unfolding until_at until_so_far least_so_far
until_known side left right lower upper t l n h low = sym (greatest_stays (leb lower) _ (suc upper) h
    (λ k b. le_trans (meet_under (right (away side t k) l) _).1 (le_trans (least_falls (λ _. true) (λ j. left (away side t j) l) (suc k) (le_trans b (le-suc k))) low)))

-- ---- a left operand that is always true, which holds nothing back
least_true : (side : Direction) (t l n : ℕ) → least_so_far chains side (ever_true chains) t l n ≡ highest
unfolding least_so_far least_over
least_true side t l zero = refl
least_true side t l (suc n) = ap (λ (a : ℕ). chain_lattice.meet a highest) (least_true side t l n)

module _ (right : Signal chains) (l : ℕ) (small : (u : ℕ) → right u l ≤ highest) where
  ever_all : (side : Direction) (lower upper t : ℕ) → until_at chains side (ever_true chains) right lower upper t l ≡ greatest_from (λ k. right (away side t k) l) lower (suc upper)
  unfolding until_at until_so_far
  ever_all side lower upper t = greatest_same chain_lattice (suc upper) (λ _ _. refl) (λ k _. offered k)
    where
      offered : (k : ℕ) → chain_lattice.meet (right (away side t k) l) (least_so_far chains side (ever_true chains) t l (suc k)) ≡ right (away side t k) l
      offered k = rw (least_true side t l (suc k), le-leb (right (away side t k) l) highest (small (away side t k))) refl

  pub eventually_all : (lower upper t : ℕ) → lower ≤ upper → ahead right lower upper t l ≡ greatest_from (λ u. right u l) (t + lower) (t + upper + 1)
  eventually_all lower upper t h =
      let count : suc upper ≡ lower + (upper + 1 - lower) = omega arith in
      let end : t + lower + (upper + 1 - lower) ≡ t + upper + 1 = omega arith in
      ever_all forward lower upper t ∙ ap (greatest_from _ lower) count ∙ from_later (λ u. right u l) t lower (upper + 1 - lower) ∙ ap (greatest_from _ (t + lower)) end

  pub once_all : (lower upper t : ℕ) → lower ≤ upper → until_at chains backward (ever_true chains) right lower upper (t + upper) l ≡ greatest_from (λ u. right u l) t (t + upper + 1 - lower)
  once_all lower upper t h =
      let count : suc upper ≡ lower + (upper + 1 - lower) = omega arith in
      let first : t + upper + 1 - (lower + (upper + 1 - lower)) ≡ t = omega arith in
      ever_all backward lower upper (t + upper) ∙ ap (greatest_from _ lower) count ∙ from_back (λ u. right u l) (t + upper) lower (upper + 1 - lower) (omega arith)
      ∙ ap (λ (a : ℕ). greatest_from (λ u. right u l) a (t + upper + 1 - lower)) first

-- ---- a window that moves on by one sample: where the first sample is not the greatest, the greatest stays, but for the sample that enters
pub ahead_next : (right : Signal chains) (l : ℕ) → ((u : ℕ) → right u l ≤ highest) → (lower upper t former : ℕ) → lower ≤ upper
    → former ≡ ahead right lower upper t l → right (t + lower) l < former → chain_lattice.join former (right (t + 1 + upper) l) ≡ ahead right lower upper (t + 1) l
ahead_next right l small lower upper t former h e less =
    let f : ℕ → ℕ = λ u. right u l in
    let first : greatest_from f (t + lower) (t + upper + 1) ≡ max (greatest_from f (t + lower + 1) (t + upper + 1)) (f (t + lower)) = from_first f (t + lower) (t + upper + 1) (omega arith) ∙ join_max _ _ in
    let before : former ≡ greatest_from f (t + lower) (t + upper + 1) = e ∙ eventually_all right l small lower upper t h in
    let kept : former ≡ greatest_from f (t + lower + 1) (t + upper + 1) = omega arith in
    let from : t + lower + 1 ≡ t + 1 + lower = omega arith in
    let to : t + upper + 1 ≡ t + 1 + upper = omega arith in
    ap (λ (m : ℕ). chain_lattice.join m (f (t + 1 + upper))) (kept ∙ ap₂ (greatest_from f) from to)
    ∙ sym (from_more f (t + 1 + lower) (t + 1 + upper) (omega arith))
    ∙ sym (eventually_all right l small lower upper (t + 1) h)
