-- Theorem 4.5 with Corollary 4.6, for verdicts: where the iteration on the masked verdicts rests, it is the surround. A region with left on it and
-- right on its boundary is never lost, and the places that are left when nothing changes any more are such a region.
use mathlib.Core.Path.{◌≡◌}
use mathlib.Core.Logic.{inl, ⊎_elim}
use mathlib.Core.Bool.{Bool, true, ◌||◌}
use Prim.Native.Nat.{ℕ, zero, suc, ◌<◌}
use lib.Dec.{T, T_not}
use Rattle.logic.specs.Lattice.{verdict_lattice}
use Rattle.logic.specs.Surround.{surround}
use Rattle.logic.specs.Iteration.{iterate, masked}
use Rattle.counting.proofs.Tests.{and_i, and_l, and_r, or_l, or_r, or_e, dec_T, bool_ext, when_e, when_i}
use Rattle.logic.proofs.Quantifiers.{all_e, all_i}
use Rattle.logic.proofs.Enclosing.{Encloses, surround_e, surround_i}

module _ (joined : ℕ → ℕ → Bool) (n : ℕ) (p q : ℕ → Bool) where
  -- the place l is still held at step i
  abbrev pub held : ℕ → ℕ → Bool
  held i l = iterate verdict_lattice joined n p q i l

  -- what one step asks of a place
  pub step_e : (i l : ℕ) → T (held (suc i) l) → T (held i l) × ((k : ℕ) → k < n → T (joined l k) → T (held i k || q k))
  unfolding iterate
  step_e i l h = (and_l (held i l) _ h, all_e (joined l) (λ k. held i k || q k) n (and_r (held i l) _ h))

  pub step_i : (i l : ℕ) → T (held i l) → ((k : ℕ) → k < n → T (joined l k) → T (held i k || q k)) → T (held (suc i) l)
  unfolding iterate
  step_i i l h f = and_i (held i l) _ h (all_i (joined l) (λ k. held i k || q k) n f)

  pub start : (i l : ℕ) → T (held i l) → T (p l)
  unfolding iterate
  start zero l h = h
  start (suc i) l h = start i l (step_e i l h).0

-- on the masked verdicts
module _ (joined : ℕ → ℕ → Bool) (n : ℕ) (inside edge p q : ℕ → Bool) where
  abbrev pub left : ℕ → Bool
  left = masked verdict_lattice inside p

  abbrev pub right : ℕ → Bool
  right = masked verdict_lattice edge q

  module _ (centre : ℕ) where
    -- a region with left on it and right on its boundary stays
    stays : (A : ℕ → Bool) → Encloses joined n true inside edge p q centre A → (i l : ℕ) → l < n → T (A l) → T (held joined n left right i l)
    unfolding iterate masked
    stays A e zero l b a = when_i (inside l) (p l) (e.inner l b a).0 (e.inner l b a).1
    stays A e (suc i) l b a = step_i joined n left right i l (stays A e i l b a) (λ k c j. ⊎_elim
        (λ u. or_l (held joined n left right i k) (right k) (stays A e i k c u))
        (λ u. let (s, t) = e.outer l k (record { start = b; stop = c; held = a; left = u; road = j }) in
        or_r (held joined n left right i k) (right k) (when_i (edge k) (q k) s t))
        (dec_T (A k)))

    -- what rests is such a region, of every centre that it holds
    pub rests : (i : ℕ) → ((l : ℕ) → l < n → T (held joined n left right i l) → T (held joined n left right (suc i) l)) → T (held joined n left right i centre)
        → Encloses joined n true inside edge p q centre (held joined n left right i)
    unfolding masked
    rests i r h = record {
      has_centre = h;
      inner = λ l b a. when_e (inside l) (p l) (start joined n left right i l a);
      outer = λ j k o. ⊎_elim
          (λ v. absurd (T_not (held joined n left right i k) o.left v))
          (when_e (edge k) (q k))
          (or_e (held joined n left right i k) (right k) ((step_e joined n left right i j (r j o.start o.held)).1 k o.stop o.road));
      some = inl tt;
    }

  pub limit : (i : ℕ) → ((l : ℕ) → l < n → T (held joined n left right i l) → T (held joined n left right (suc i) l))
      → (l : ℕ) → l < n → held joined n left right i l ≡ surround verdict_lattice joined n true inside edge p q l
  limit i r l b = bool_ext (held joined n left right i l) (surround verdict_lattice joined n true inside edge p q l)
      (λ h. surround_i joined n true inside edge p q l b (held joined n left right i) (rests l i r h))
      (λ h. let (A, e) = surround_e joined n true inside edge p q l h in stays l A e i l b e.has_centre)
