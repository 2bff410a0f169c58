-- The places with a distance from a centre: those of every range about it are among them, and a road leads out of every region that holds the centre but
-- not all of them.
use mathlib.Core.Path.{◌≡◌, refl}
use mathlib.Core.Logic.{⊎_elim}
use mathlib.Core.Bool.{Bool, not}
use Prim.Native.Nat.{ℕ, ◌<◌, zero-le}
use native.Mathlib.Omega.{arith}
use lib.Dec.{T, T_not, leb, le→leb}
use Rattle.network.specs.Distance.{Distance, dist, none, in_range, Path, here, step}
use Rattle.network.specs.Network.{Network, is_road, joined, distance_in, within, reached}
use Rattle.counting.proofs.Tests.{and_i, dec_T}
use Rattle.network.proofs.Distances.{network_distance}

-- a road leads out of A from j to k
pub record LeadsOut (joined : ℕ → ℕ → Bool) (n : ℕ) (A : ℕ → Bool) (j k : ℕ) : Type 0 where
  pub start : j < n
  pub stop : k < n
  pub held : T (A j)
  pub left : T (not (A k))
  pub road : T (joined j k)

module _ (N : Network) (centre : ℕ) where
  -- what is there has a number
  number : (d : Distance) → T (is_road d) → (x : ℕ) × (d ≡ dist x)
  number (dist x) h = (x, refl)
  number none h = absurd h

  reached_e : (k : ℕ) → k < N.places → T (reached N centre k) → (z : ℕ) × Path N.weight N.places centre k z
  unfolding reached
  reached_e k b h = let (z, e) = number (distance_in N centre k) h in (z, (network_distance N centre k b).sum z e)

  -- what lies in a range has a distance
  pub reached_within : (lower upper k : ℕ) → T (within N centre lower upper k) → T (reached N centre k)
  unfolding within reached
  reached_within lower upper k = go (distance_in N centre k)
    where
      go : (d : Distance) → T (in_range lower upper d) → T (is_road d)
      go (dist x) h = tt
      go none h = h

  -- the centre lies in every ball about it
  pub within_centre : (upper : ℕ) → centre < N.places → T (within N centre 0 upper centre)
  unfolding within
  within_centre upper c =
      let (y, e, low) = (network_distance N centre centre c).least 0 here in
      rw e (and_i (leb 0 y) (leb y upper) (le→leb 0 y zero-le) (le→leb y upper (omega arith)))

  -- a path out of A leaves it by some road
  leaves : (A : ℕ → Bool) {a k z : ℕ} → Path N.weight N.places a k z → a < N.places → T (A a) → T (not (A k)) → (i j : ℕ) × LeadsOut (joined N) (N.places) A i j
  unfolding joined
  leaves A (here {a = a}) b h l = absurd (T_not (A a) l h)
  leaves A (step {a = a} {c = m} d e p s) b h l = ⊎_elim
      (λ u. leaves A p d u l)
      (λ u. (a, m, record { start = b; stop = d; held = h; left = u; road = rw e tt }))
      (dec_T (A m))

  pub leads_out : (A : ℕ → Bool) → centre < N.places → T (A centre) → (k : ℕ) → k < N.places → T (reached N centre k) → T (not (A k))
      → (i j : ℕ) × LeadsOut (joined N) (N.places) A i j
  leads_out A c h k b r l = leaves A (reached_e k b r).1 c h l
