-- What the least and the greatest over verdicts say: "all" and "some" below n.
use mathlib.Core.Logic.{⊎_elim}
use mathlib.Core.Bool.{Bool}
use Prim.Native.Nat.{ℕ, zero, suc, ◌<◌}
use native.Mathlib.Nat.{not-suc-le-zero, lt-suc_self, le-suc, le_trans}
use lib.Dec.{T}
use Rattle.counting.proofs.Tests.{and_i, and_l, and_r, or_l, or_r, or_e, below, if_e, if_i, when_e, when_i}
use Rattle.logic.specs.Lattice.{verdict_lattice, least_over, greatest_over}

pub all_e : (t f : ℕ → Bool) (n : ℕ) → T (least_over verdict_lattice t f n) → (l : ℕ) → l < n → T (t l) → T (f l)
unfolding least_over
all_e t f zero h l b k = absurd (not-suc-le-zero b)
all_e t f (suc n) h l b k = ⊎_elim
    (λ e. rw e (if_e (t n) (f n) (and_r (least_over verdict_lattice t f n) _ h) (rw e at k)))
    (λ c. all_e t f n (and_l (least_over verdict_lattice t f n) _ h) l c k)
    (below b)

pub all_i : (t f : ℕ → Bool) (n : ℕ) → ((l : ℕ) → l < n → T (t l) → T (f l)) → T (least_over verdict_lattice t f n)
unfolding least_over
all_i t f zero h = tt
all_i t f (suc n) h = and_i (least_over verdict_lattice t f n) _
    (all_i t f n (λ l b. h l (le_trans b (le-suc n))))
    (if_i (t n) (f n) (h n (lt-suc_self n)))

pub some_e : (t f : ℕ → Bool) (n : ℕ) → T (greatest_over verdict_lattice t f n) → (l : ℕ) × (l < n) × T (t l) × T (f l)
unfolding greatest_over
some_e t f zero h = absurd h
some_e t f (suc n) h = ⊎_elim
    (λ u. let r = some_e t f n u in (r.0, le_trans r.1 (le-suc n), r.2, r.3))
    (λ u. let r = when_e (t n) (f n) u in (n, lt-suc_self n, r.0, r.1))
    (or_e (greatest_over verdict_lattice t f n) _ h)

pub some_i : (t f : ℕ → Bool) (n l : ℕ) → l < n → T (t l) → T (f l) → T (greatest_over verdict_lattice t f n)
unfolding greatest_over
some_i t f zero l b h k = absurd (not-suc-le-zero b)
some_i t f (suc n) l b h k = ⊎_elim
    (λ e. or_r (greatest_over verdict_lattice t f n) _ (when_i (t n) (f n) (rw e at h) (rw e at k)))
    (λ c. or_l (greatest_over verdict_lattice t f n) _ (some_i t f n l c h k))
    (below b)
