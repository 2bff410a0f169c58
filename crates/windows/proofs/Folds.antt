-- The greatest of chain numbers from a first one on, as the loops of the operators take it: one number more at the end or in front, the same numbers
-- read from elsewhere or in the other order; and how the folds go on.
use mathlib.Core.Path.{◌≡◌, refl, sym, ap, ◌∙◌}
use mathlib.Core.Bool.{Bool, true, false, cond}
use Prim.Native.Nat.{ℕ, zero, suc, ◌+◌, ◌-◌, ◌<◌, ◌≤◌, zero-le}
use native.Mathlib.Nat.{le_refl, le_trans, le_antisymm}
use native.Mathlib.Decide.{le_ind}
use native.Mathlib.Numerals.{add-one}
use native.Mathlib.Omega.{arith}
use mathlib.Core.List.{map}
use lib.Dec.{leb, leb→le}
use Rattle.std.specs.List.{fold, range_with_len}
use Rattle.logic.specs.Lattice.{least_over, greatest_over}
use Rattle.logic.proofs.TotalOrder.{meet_by, join_by}
use Rattle.logic.proofs.SoFar.{greatest_none, greatest_more}
use Rattle.values.specs.Chain.{chain_lattice, highest}
use Rattle.values.proofs.Naturals.{leb_trans, leb_total, join_max}
pub use Rattle.counting.proofs.Folds.{total_of}

-- ---- a loop that counts from `first` up to and without `end`: where it is
pub record Counted (first end u : ℕ) : Type 0 where
  pub from : first ≤ u
  pub to : u ≤ end

pub none_counted : {first end : ℕ} → first ≤ end → Counted first end first
none_counted h = record { from = le_refl _; to = h }

pub one_counted : {first end u : ℕ} → Counted first end u → u < end → Counted first end (u + 1)
one_counted counted h = record { from = omega (arith, counted.from); to = omega arith }

pub all_counted : {first end u : ℕ} → Counted first end u → end ≤ u → u ≡ end
all_counted counted h = le_antisymm counted.to h

-- ---- the lesser and the greater of two
pub meet_under : (a b : ℕ) → (chain_lattice.meet a b ≤ a) × (chain_lattice.meet a b ≤ b)
meet_under a b = meet_by leb 0 highest leb_trans leb_total (λ m. (m ≤ a) × (m ≤ b)) a b
    (λ h. (le_refl a, leb→le a b h))
    (λ h. (leb→le b a h, le_refl b))

pub join_none : (a b : ℕ) → b ≤ a → chain_lattice.join a b ≡ a
join_none a b h = join_by leb 0 highest leb_trans leb_total (λ m. m ≡ a) a b (λ k. le_antisymm h (leb→le a b k)) (λ _. refl)

join_swap : (a b c : ℕ) → chain_lattice.join (chain_lattice.join a b) c ≡ chain_lattice.join (chain_lattice.join a c) b
join_swap a b c = simp join_max (omega arith)

cond_under : (t : Bool) (a b : ℕ) → a ≤ b → cond t a 0 ≤ b
cond_under true a b h = h
cond_under false a b h = zero-le

-- ---- the greatest of the numbers from `first` up to and without n
module _ (f : ℕ → ℕ) where
  abbrev pub greatest_from : ℕ → ℕ → ℕ
  greatest_from first n = greatest_over chain_lattice (leb first) f n

  pub from_none : (first n : ℕ) → n ≤ first → greatest_from first n ≡ 0
  from_none first n h = greatest_none chain_lattice f first refl n h

  pub from_more : (first n : ℕ) → first ≤ n → greatest_from first (n + 1) ≡ chain_lattice.join (greatest_from first n) (f n)
  from_more first n h = rw (add-one n) (greatest_more chain_lattice f first n h)

  -- and so a fold over the numbers of a range takes it
  from_folded : (first k n : ℕ) → first ≤ k → fold chain_lattice.join (greatest_from first k) (map f (range_with_len k n)) ≡ greatest_from first (k + n)
  from_folded first k zero h = ap (greatest_from first) (omega arith)
  from_folded first k (suc n) h =
      let end : k + 1 + n ≡ k + suc n = omega arith in
      ap (λ (a : ℕ). fold chain_lattice.join a (map f (range_with_len (k + 1) n))) (sym (from_more first k h)) ∙ from_folded first (k + 1) n (omega arith) ∙ ap (greatest_from first) end

  pub from_range : {none first end : ℕ} → none ≡ 0 → first ≤ end → fold chain_lattice.join none (map f (range_with_len first (end - first))) ≡ greatest_from first end
  from_range {first = first} {end} e h =
      let whole : first + (end - first) ≡ end = omega arith in
      ap (λ (a : ℕ). fold chain_lattice.join a (map f (range_with_len first (end - first)))) (e ∙ sym (from_none first first (le_refl first)))
      ∙ from_folded first first (end - first) (le_refl first) ∙ ap (greatest_from first) whole

  -- the first may be taken last
  pub from_first : (first n : ℕ) → first + 1 ≤ n → greatest_from first n ≡ chain_lattice.join (greatest_from (first + 1) n) (f first)
  from_first first n h = le_ind (λ k. greatest_from first k ≡ chain_lattice.join (greatest_from (first + 1) k) (f first)) one more n h
    where
      one : greatest_from first (first + 1) ≡ chain_lattice.join (greatest_from (first + 1) (first + 1)) (f first)
      one = from_more first first (le_refl first)
          ∙ ap (λ (a : ℕ). chain_lattice.join a (f first)) (from_none first first (le_refl first) ∙ sym (from_none (first + 1) (first + 1) (le_refl (first + 1))))

      more : (k : ℕ) → first + 1 ≤ k → greatest_from first k ≡ chain_lattice.join (greatest_from (first + 1) k) (f first)
          → greatest_from first (suc k) ≡ chain_lattice.join (greatest_from (first + 1) (suc k)) (f first)
      more k b e = rw (← add-one k)
          (from_more first k (omega arith) ∙ ap (λ (a : ℕ). chain_lattice.join a (f k)) e ∙ join_swap (greatest_from (first + 1) k) (f first) (f k)
          ∙ ap (λ (a : ℕ). chain_lattice.join a (f first)) (sym (from_more (first + 1) k b)))

-- ---- the same numbers, m of them
module _ (f : ℕ → ℕ) where
  -- read from number k on
  pub from_later : (k first m : ℕ) → greatest_from (λ u. f (k + u)) first (first + m) ≡ greatest_from f (k + first) (k + first + m)
  from_later k first zero = from_none _ first (first + 0) (omega arith) ∙ sym (from_none f (k + first) (k + first + 0) (omega arith))
  from_later k first (suc m) =
      let here : first + suc m ≡ first + m + 1 = omega arith in
      let there : k + first + suc m ≡ k + (first + m) + 1 = omega arith in
      let same : k + first + m ≡ k + (first + m) = omega arith in
      ap (greatest_from _ first) here ∙ from_more _ first (first + m) (omega arith)
      ∙ ap (λ (a : ℕ). chain_lattice.join a (f (k + (first + m)))) (from_later k first m ∙ ap (greatest_from f (k + first)) same)
      ∙ sym (from_more f (k + first) (k + (first + m)) (omega arith)) ∙ ap (greatest_from f (k + first)) (sym there)

  -- read from number k back
  pub from_back : (k first m : ℕ) → first + m ≤ k + 1 → greatest_from (λ u. f (k - u)) first (first + m) ≡ greatest_from f (k + 1 - (first + m)) (k + 1 - first)
  from_back k first zero h = from_none _ first (first + 0) (omega arith) ∙ sym (from_none f (k + 1 - (first + 0)) (k + 1 - first) (omega arith))
  from_back k first (suc m) h =
      let here : first + suc m ≡ first + m + 1 = omega arith in
      let there : k + 1 - (first + suc m) ≡ k - (first + m) = omega arith in
      let same : k + 1 - (first + m) ≡ k - (first + m) + 1 = omega arith in
      ap (greatest_from _ first) here ∙ from_more _ first (first + m) (omega arith)
      ∙ ap (λ (a : ℕ). chain_lattice.join a (f (k - (first + m)))) (from_back k first m (omega arith) ∙ ap (λ (a : ℕ). greatest_from f a (k + 1 - first)) same)
      ∙ sym (from_first f (k - (first + m)) (k + 1 - first) (omega arith)) ∙ ap (λ (a : ℕ). greatest_from f a (k + 1 - first)) (sym there)

-- ---- how the folds go on: the least only falls, and a greatest that nothing later exceeds is the greatest of all
module _ (test : ℕ → Bool) (f : ℕ → ℕ) {m : ℕ} where
  pub least_falls : (n : ℕ) → m ≤ n → least_over chain_lattice test f n ≤ least_over chain_lattice test f m
  unfolding least_over
  least_falls n h = le_ind (λ k. least_over chain_lattice test f k ≤ least_over chain_lattice test f m) (le_refl _) (λ k _ e. le_trans (meet_under _ _).0 e) n h

  pub greatest_stays : (n : ℕ) → m ≤ n → ((k : ℕ) → m ≤ k → f k ≤ greatest_over chain_lattice test f m) → greatest_over chain_lattice test f n ≡ greatest_over chain_lattice test f m
  unfolding greatest_over
  greatest_stays n h low = le_ind (λ k. greatest_over chain_lattice test f k ≡ greatest_over chain_lattice test f m) refl
      (λ k l e. rw e (join_none (greatest_over chain_lattice test f m) (cond (test k) (f k) 0) (cond_under (test k) (f k) _ (low k l)))) n h
