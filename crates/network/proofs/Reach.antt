-- Where every road weighs at most W, a finite distance between n places is at most (n - 1) * W. The places from which b is not reached
-- within i roads only become fewer with i, and rest after n - 1 steps; so whoever reaches b at all reaches it within n - 1 roads.
use mathlib.Core.Path.{◌≡◌, refl}
use mathlib.Core.Logic.{◌⊎◌, inl, inr, ⊎_elim}
use mathlib.Core.Bool.{Bool, true, not, cond, ◌&&◌}
use Prim.Native.Nat.{ℕ, zero, suc, ◌+◌, ◌*◌, ◌<◌, ◌≤◌, zero-le}
use native.Mathlib.Nat.{le_trans, le_refl}
use native.Mathlib.Omega.{arith}
use lib.Dec.{T, T_not, eqb, eqb→eq, eqb_refl, leb→le}
use Rattle.network.specs.Distance.{Distance, dist, none, at_most, Path, here, step, distance}
use Rattle.network.specs.Network.{is_road}
use Rattle.counting.proofs.Tests.{all_or_some, and_i, and_l, and_r, if_e, if_i, every, every_e, every_i, dec_T}
use Rattle.counting.proofs.Settling.{Rest, settles}
use Rattle.network.proofs.Distances.{is_path, least}

module _ (weight : ℕ → ℕ → Distance) (n W : ℕ) (light : (a c x : ℕ) → weight a c ≡ dist x → x ≤ W) (b : ℕ) where
  abbrev road : ℕ → ℕ → Bool
  road l k = is_road (weight l k)

  -- l does not reach b within i roads
  away : ℕ → ℕ → Bool
  away zero l = not (eqb l b)
  away (suc i) l = away i l && every (λ k. cond (road l k) (away i k) true) n

  step_e : (i l : ℕ) → T (away (suc i) l) → T (away i l) × ((k : ℕ) → k < n → T (road l k) → T (away i k))
  unfolding away
  step_e i l h = (and_l (away i l) _ h, λ k c j. if_e (road l k) (away i k) (every_e (λ k. cond (road l k) (away i k) true) n (and_r (away i l) _ h) k c) j)

  step_i : (i l : ℕ) → T (away i l) → ((k : ℕ) → k < n → T (road l k) → T (away i k)) → T (away (suc i) l)
  unfolding away
  step_i i l h f = and_i (away i l) _ h (every_i (λ k. cond (road l k) (away i k) true) n (λ k c. if_i (road l k) (away i k) (f k c)))

  start : (i l : ℕ) → T (away i l) → T (not (eqb l b))
  unfolding away
  start zero l h = h
  start (suc i) l h = start i l (step_e i l h).0

  rests : (m : ℕ) → n ≤ suc m → Rest away n m
  rests = settles away n (λ i l h. (step_e i l h).0)
      (λ i r l b h. step_i (suc i) l h (λ k c j. r k c ((step_e i l h).1 k c j)))
      (λ all l b a. step_i 0 l a (λ k c _. all k c))

  -- a path to b of no more than i roads, by the sum that this allows
  abbrev Near : ℕ → ℕ → Type 0
  Near i l = (x : ℕ) × Path weight n l b x × (x ≤ i * W)

  -- the neighbour k of l is away, or brings l near
  by_road : (i l k : ℕ) → k < n → T (away i k) ⊎ Near i k → (d : Distance) → weight l k ≡ d → (T (is_road d) → T (away i k)) ⊎ Near (suc i) l
  by_road i l k h r none e = inl (λ t. absurd t)
  by_road i l k h r (dist y) e = ⊎_elim
      (λ u. inl (λ _. u))
      (λ u. inr (y + u.0, step h e u.1 refl, omega (arith, u.2, light l k y e)))
      r

  away_or_near : (i l : ℕ) → l < n → T (away i l) ⊎ Near i l
  unfolding away
  away_or_near zero l h = ⊎_elim (λ u. inr (0, rw (eqb→eq l b u) here, zero-le)) (λ u. inl u) (dec_T (eqb l b))
  away_or_near (suc i) l h = ⊎_elim
      (λ u. ⊎_elim
      (λ a. inl (step_i i l u a))
      (λ s. inr s.2)
      (all_or_some (λ k. T (road l k) → T (away i k)) (λ k. Near (suc i) l) n (λ k c. by_road i l k c (away_or_near i k c) (weight l k) refl)))
      (λ u. inr (u.0, u.1, omega (arith, u.2)))
      (away_or_near i l h)

  -- where nothing changes any more, who is away has no path at all
  no_path : (i : ℕ) → Rest away n i → {a c z : ℕ} → Path weight n a c z → c ≡ b → a < n → T (away i a) → ⊥
  no_path i r (here {a = a}) e h t = T_not (eqb a b) (start i a t) (rw e (eqb_refl b))
  no_path i r (step {a = a} {c = k} l w p s) e h t = no_path i r p e l ((step_e i a (r a h t)).1 k l (rw w tt))

  pub distance_bound : (m : ℕ) → n ≤ suc m → (a : ℕ) → a < n → b < n → (z : ℕ) → distance weight n a b ≡ dist z → z ≤ m * W
  distance_bound m s a h l z e = ⊎_elim
      (λ u. absurd (no_path m (rests m s) (is_path weight n n (le_refl n) a b z l e) refl h u))
      (λ u. let k : T (at_most (dist z) (dist u.0)) = rw e at (least weight n a b u.0 u.1) in
      le_trans (leb→le z u.0 k) u.2)
      (away_or_near m a h)
