-- Definition 2.2 holds of `distance`: it is the sum of some path, no path has a smaller one, and there is none exactly where no path is.
use mathlib.Core.Path.{◌≡◌, refl, sym, subst₂}
use mathlib.Core.Logic.{◌⊎◌, inl, inr, ⊎_elim}
use mathlib.Core.Bool.{Bool, true, false, not, cond}
use Prim.Native.Nat.{ℕ, zero, suc, ◌+◌, ◌<◌, ◌≤◌, zero-le}
use native.Mathlib.Nat.{not-suc-le-zero, le_refl, le_of_lt, zero-add, add-zero}
use native.Mathlib.Omega.{arith}
use lib.Dec.{T, T_not, eqb, leb→le, le→leb, eqb→eq, eqb_refl, nleb→lt}
use Rattle.network.specs.Distance.{Distance, dist, none, at_most, add, lesser, Path, here, step, IsDistance, direct, distance}
use Rattle.network.specs.Network.{Network, distance_in}
use Rattle.counting.proofs.Tests.{below}

pub lesser_by : (P : Distance → Type 0) (x y : Distance) → (T (at_most x y) → P x) → (T (not (at_most x y)) → P y) → P (lesser x y)
lesser_by P x y f g = go (at_most x y) f g
  where
    go : (c : Bool) → (T c → P x) → (T (not c) → P y) → P (cond c x y)
    go true f g = f tt
    go false f g = g tt

at_most_trans : (x y z : Distance) → T (at_most x y) → T (at_most y z) → T (at_most x z)
at_most_trans x y none h k = tt
at_most_trans x none (dist c) h k = absurd k
at_most_trans none (dist b) (dist c) h k = absurd h
at_most_trans (dist a) (dist b) (dist c) h k = omega (arith, leb→le, le→leb)

pub at_most_other : (x y : Distance) → T (not (at_most x y)) → T (at_most y x)
at_most_other x none h = absurd h
at_most_other none (dist b) h = tt
at_most_other (dist a) (dist b) h = omega (arith, nleb→lt, le→leb)

at_most_refl : (x : Distance) → T (at_most x x)
at_most_refl none = tt
at_most_refl (dist a) = le→leb a a (le_refl a)

lesser_l : (x y : Distance) → T (at_most (lesser x y) x)
lesser_l x y = lesser_by (λ v. T (at_most v x)) x y (λ _. at_most_refl x) (λ h. at_most_other x y h)

lesser_r : (x y : Distance) → T (at_most (lesser x y) y)
lesser_r x y = lesser_by (λ v. T (at_most v y)) x y (λ h. h) (λ _. at_most_refl y)

none≢ : (z : ℕ) → none ≡ dist z → ⊥
none≢ z e = let q : ◌≡◌ {A = ℕ} 0 1 = cc in omega arith

-- a sum that is finite has finite parts
add_parts : (x y : Distance) (z : ℕ) → add x y ≡ dist z → (a b : ℕ) × (x ≡ dist a) × (y ≡ dist b) × (z ≡ a + b)
add_parts none y z e = absurd (none≢ z e)
add_parts (dist a) none z e = absurd (none≢ z e)
add_parts (dist a) (dist b) z e = (a, b, refl, refl, cc)

add_le : (x y : Distance) (a b : ℕ) → T (at_most x (dist a)) → T (at_most y (dist b)) → T (at_most (add x y) (dist (a + b)))
add_le none y a b h k = h
add_le (dist x) none a b h k = k
add_le (dist x) (dist y) a b h k = omega (arith, leb→le, le→leb)

lesser_first : (x y : Distance) → T (at_most x y) → lesser x y ≡ x
lesser_first x y h = lesser_by (λ v. v ≡ x) x y (λ _. refl) (λ k. absurd (T_not (at_most x y) k h))

zero_least : (y : Distance) → T (at_most (dist 0) y)
zero_least none = tt
zero_least (dist b) = le→leb 0 b zero-le

-- a sum is no less than either part
part_l : (x : Distance) (b : ℕ) → T (at_most x (add x (dist b)))
part_l none b = tt
part_l (dist a) b = le→leb a (a + b) (omega arith)

part_r : (x : Distance) (b : ℕ) → T (at_most x (add (dist b) x))
part_r none b = tt
part_r (dist a) b = le→leb a (b + a) (omega arith)

module _ (weight : ℕ → ℕ → Distance) where
  direct_self : (a : ℕ) → direct weight a a ≡ dist 0
  unfolding direct
  direct_self a = go (eqb a a) (eqb_refl a)
    where
      go : (c : Bool) → T c → cond c (dist 0) (weight a a) ≡ dist 0
      go true t = refl
      go false t = absurd t

  -- ---- every finite distance is the sum of a path
  module _ (n : ℕ) where
    join : {a b c : ℕ} {x y : ℕ} → Path weight n a b x → Path weight n b c y → Path weight n a c (x + y)
    join here q = rw zero-add q
    join {y = u} (step {z = z} h e p s) q = step {z = z + u} h e (join p q) (omega arith)

    pub is_path : (k : ℕ) → k ≤ n → (a b z : ℕ) → b < n → distance weight k a b ≡ dist z → Path weight n a b z
    unfolding distance direct
    is_path zero h a b z c e = go (eqb a b) refl e
      where
        go : (t : Bool) → eqb a b ≡ t → cond t (dist 0) (weight a b) ≡ dist z → Path weight n a b z
        go true r e = subst₂ (λ (v u : ℕ). Path weight n a v u) (eqb→eq a b (rw r tt)) (cc) here
        go false r e = step c e here (sym (add-zero z))
    is_path (suc k) h a b z c e = lesser_by (λ v. v ≡ dist z → Path weight n a b z) (distance weight k a b) (add (distance weight k a k) (distance weight k k b))
        (λ _ r. is_path k (le_of_lt h) a b z c r)
        (λ _ r. let (x, y, p, q, s) = add_parts (distance weight k a k) (distance weight k k b) z r in
        rw s (join (is_path k (le_of_lt h) a k x h p) (is_path k (le_of_lt h) k b y c q)))
        e

  -- ---- no path has a smaller sum
  -- a walk over `direct` whose inner places are below k
  data Walk (k : ℕ) : ℕ → ℕ → ℕ → Type 0 where
    road : {a b x : ℕ} → direct weight a b ≡ dist x → Walk k a b x
    via : {a b x y z : ℕ} (c : ℕ) → c < k → direct weight a c ≡ dist x → Walk k c b y → x + y ≤ z → Walk k a b z

  -- a walk that may pass through k is one that does not, or two that meet in k
  split : {k a b z : ℕ} → Walk (suc k) a b z → Walk k a b z ⊎ ((x y : ℕ) × Walk k a k x × Walk k k b y × (x + y ≤ z))
  split (road e) = inl (road e)
  split {k} {a} {b} {z} (via {x = x} {y = y} c h e p s) = go (below h) (split p)
    where
      go : (c ≡ k) ⊎ (c < k) → Walk k c b y ⊎ ((u v : ℕ) × Walk k c k u × Walk k k b v × (u + v ≤ y))
          → Walk k a b z ⊎ ((u v : ℕ) × Walk k a k u × Walk k k b v × (u + v ≤ z))
      go (inl q) (inl r) = inr (x, y, road (rw q at e), rw q at r, s)
      go (inl q) (inr r) = inr (x, r.1, road (rw q at e), r.3, omega arith)
      go (inr l) (inl r) = inl (via c l e r s)
      go (inr l) (inr r) = inr (x + r.0, r.1, via c l e r.2 (le_refl _), r.3, omega arith)

  least_walk : (k a b z : ℕ) → Walk k a b z → T (at_most (distance weight k a b) (dist z))
  unfolding distance
  least_walk zero a b z (road e) = rw e (le→leb z z (le_refl z))
  least_walk zero a b z (via c h e p s) = absurd (not-suc-le-zero h)
  least_walk (suc k) a b z p =
      let d = distance weight k a b in
      let e = add (distance weight k a k) (distance weight k k b) in
      ⊎_elim
      (λ r. at_most_trans (lesser d e) d (dist z) (lesser_l d e) (least_walk k a b z r))
      (λ r. at_most_trans (lesser d e) e (dist z) (lesser_r d e)
      (at_most_trans e (dist (r.0 + r.1)) (dist z)
      (add_le (distance weight k a k) (distance weight k k b) r.0 r.1 (least_walk k a k r.0 r.2) (least_walk k k b r.1 r.3))
      (le→leb (r.0 + r.1) z r.4)))
      (split p)

  -- every path is such a walk
  direct_le : (a c x : ℕ) → weight a c ≡ dist x → (y : ℕ) × (y ≤ x) × (direct weight a c ≡ dist y)
  unfolding direct
  direct_le a c x e = go (eqb a c)
    where
      go : (t : Bool) → (y : ℕ) × (y ≤ x) × (cond t (dist 0) (weight a c) ≡ dist y)
      go true = (0, zero-le, refl)
      go false = (x, le_refl x, e)

  walks : {n a b z : ℕ} → Path weight n a b z → (y : ℕ) × (y ≤ z) × Walk n a b y
  walks (here {a = a}) = (0, zero-le, road (direct_self a))
  walks (step {a = a} {c = c} {x = x} h e p s) =
      let r = walks p in
      let q = direct_le a c x e in
      (q.0 + r.0, omega arith, via c h q.2 r.2 (le_refl _))

  pub least : (n a b z : ℕ) → Path weight n a b z → T (at_most (distance weight n a b) (dist z))
  least n a b z p =
      let r = walks p in
      at_most_trans (distance weight n a b) (dist r.0) (dist z) (least_walk n a b r.0 r.2) (le→leb r.0 z r.1)

  -- where a path is, there is a distance, and it is at most the path's sum
  below_sum : (d : Distance) (x : ℕ) → T (at_most d (dist x)) → (y : ℕ) × (d ≡ dist y) × (y ≤ x)
  below_sum (dist y) x h = (y, refl, leb→le y x h)
  below_sum none x h = absurd h

  pub is_distance : (n a b : ℕ) → b < n → IsDistance weight n a b (distance weight n a b)
  is_distance n a b c = record {
    sum = λ x e. is_path n n (le_refl n) a b x c e;
    least = λ x p. below_sum (distance weight n a b) x (least n a b x p);
  }

  -- ---- the distances to and from k stay as they are when k is let in: a table can take in one place after the other within itself
  distance_self : (k a : ℕ) → distance weight k a a ≡ dist 0
  unfolding distance
  distance_self zero a = direct_self a
  distance_self (suc k) a =
      let y = add (distance weight k a k) (distance weight k k a) in
      rw (distance_self k a) (lesser_first (dist 0) y (zero_least y))

  pub distance_to : (k a : ℕ) → distance weight (suc k) a k ≡ distance weight k a k
  unfolding distance
  distance_to k a =
      let x = distance weight k a k in
      rw (distance_self k k) (lesser_first x (add x (dist 0)) (part_l x 0))

  pub distance_from : (k b : ℕ) → distance weight (suc k) k b ≡ distance weight k k b
  unfolding distance
  distance_from k b =
      let x = distance weight k k b in
      rw (distance_self k k) (lesser_first x (add (dist 0) x) (part_r x 0))

pub network_distance : (N : Network) (a b : ℕ) → b < N.places → IsDistance (N.weight) (N.places) a b (distance_in N a b)
unfolding distance_in
network_distance N a b h = is_distance (N.weight) (N.places) a b h
