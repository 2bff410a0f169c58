-- What until and since say of verdicts is what document 01 and M-100 say in words: some sample of the window has right, and every sample from there to
-- t has left, both included. The definition counts samples away from t; here they have their numbers in the recording.
use mathlib.Core.Path.{◌≡◌, subst}
use mathlib.Core.Bool.{true}
use Prim.Native.Nat.{ℕ, suc, ◌+◌, ◌-◌, ◌≤◌}
use native.Mathlib.Omega.{arith}
use lib.Dec.{T, leb, leb→le, le→leb}
use Rattle.formulas.specs.Formulas.{Direction, forward, backward}
use Rattle.counting.proofs.Tests.{and_i, and_l, and_r}
use Rattle.logic.specs.Table.{verdicts, Signal, away, least_so_far, until_so_far, until_at}
use Rattle.logic.proofs.Quantifiers.{all_e, all_i, some_e, some_i}

-- a sample from `first` to `last` has right, and every sample from `from` to `to` of it has left
pub record Found (left right : Signal verdicts) (first last : ℕ) (from to : ℕ → ℕ) (l : ℕ) : Type 0 where
  pub sample : ℕ
  pub lowest : first ≤ sample
  pub highest : sample ≤ last
  pub right_there : T (right sample l)
  pub left_to_there : (v : ℕ) → from sample ≤ v → v ≤ to sample → T (left v l)

module _ (left right : Signal verdicts) (lower upper t l : ℕ) where
  -- so many samples away from t
  record Away (side : Direction) : Type 0 where
    k : ℕ
    near : k ≤ upper
    far : lower ≤ k
    right_there : T (right (away side t k) l)
    left_to_there : (j : ℕ) → j ≤ k → T (left (away side t j) l)

  away_e : (side : Direction) → T (until_at verdicts side left right lower upper t l) → Away side
  unfolding until_at until_so_far least_so_far
  away_e side h =
      let found = some_e (leb lower) _ _ h in
      record {
        k = found.0;
        near = omega (arith, found.1);
        far = leb→le lower found.0 found.2;
        right_there = and_l (right (away side t found.0) l) _ found.3;
        left_to_there = λ j near. all_e (λ _. true) (λ i. left (away side t i) l) (suc found.0) (and_r (right (away side t found.0) l) _ found.3) j (omega arith) tt;
      }

  away_i : (side : Direction) → Away side → T (until_at verdicts side left right lower upper t l)
  unfolding until_at until_so_far least_so_far
  away_i side found = some_i (leb lower) _ _ found.k (omega (arith, found.near)) (le→leb lower found.k found.far)
      (and_i (right (away side t found.k) l) _ found.right_there (all_i (λ _. true) _ (suc found.k) (λ j b _. found.left_to_there j (omega arith))))

  -- a sample by its number
  at : (signal : Signal verdicts) {u v : ℕ} → u ≡ v → T (signal u l) → T (signal v l)
  at signal e = subst (λ (u : ℕ). T (signal u l)) e

  pub until_says : T (until_at verdicts forward left right lower upper t l) → Found left right (t + lower) (t + upper) (λ _. t) (λ u. u) l
  until_says h = let found = away_e forward h in record {
    sample = t + found.k;
    lowest = omega (arith, found.far);
    highest = omega (arith, found.near);
    right_there = found.right_there;
    left_to_there = λ v from to. at left (omega arith) (found.left_to_there (v - t) (omega arith));
  }

  pub says_until : Found left right (t + lower) (t + upper) (λ _. t) (λ u. u) l → T (until_at verdicts forward left right lower upper t l)
  says_until found = away_i forward (record {
    k = found.sample - t;
    near = omega (arith, found.highest);
    far = omega (arith, found.lowest);
    right_there = at right (omega (arith, found.lowest)) found.right_there;
    left_to_there = λ j near. found.left_to_there (t + j) (omega arith) (omega (arith, found.lowest));
  })

  pub since_says : T (until_at verdicts backward left right lower upper t l) → Found left right (t - upper) (t - lower) (λ u. u) (λ _. t) l
  since_says h = let found = away_e backward h in record {
    sample = t - found.k;
    lowest = omega (arith, found.near);
    highest = omega (arith, found.far);
    right_there = found.right_there;
    left_to_there = λ v from to. at left (omega arith) (found.left_to_there (t - v) (omega arith));
  }

  -- at a sample with so many before it (`t - lower` stops at 0)
  pub says_since : lower ≤ t → Found left right (t - upper) (t - lower) (λ u. u) (λ _. t) l → T (until_at verdicts backward left right lower upper t l)
  says_since past found = away_i backward (record {
    k = t - found.sample;
    near = omega (arith, found.lowest);
    far = omega (arith, found.highest);
    right_there = at right (omega (arith, found.highest)) found.right_there;
    left_to_there = λ j near. found.left_to_there (t - j) (omega (arith, found.highest)) (omega arith);
  })
