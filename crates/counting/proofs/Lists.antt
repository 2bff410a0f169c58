-- Lists related element by element: one after the other, at an index, and of one length; what all elements of one list have.
use mathlib.Core.Path.{◌≡◌, refl, ap}
use mathlib.Core.List.{List, [], ◌∷◌, ◌++◌}
use Prim.Native.Nat.{ℕ, zero, suc, ◌<◌, suc-le-suc}
use native.Mathlib.Omega.{arith}
use lib.ListN.{length, get_or}
use Rattle.counting.specs.Lists.{Each, All, none, more}

module _ {A B : Type 0} {Rel : A → B → Type 0} where
  pub each_append : {l k : List A} {m j : List B} → Each Rel l m → Each Rel k j → Each Rel (l ++ k) (m ++ j)
  each_append none r = r
  each_append (more h t) r = more h (each_append t r)

  pub each_at : {l : List A} {m : List B} → Each Rel l m → (i : ℕ) (a : A) (b : B) → Rel a b → Rel (get_or l i a) (get_or m i b)
  each_at none i a b h = h
  each_at (more k t) zero a b h = k
  each_at (more k t) (suc i) a b h = each_at t i a b h

  pub each_length : {l : List A} {m : List B} → Each Rel l m → length l ≡ length m
  each_length none = refl
  each_length (more h t) = ap suc (each_length t)

  -- what holds at every index holds of all; beyond the ends stand a and b
  pub each_from : (a : A) (b : B) (l : List A) (m : List B) → length l ≡ length m → ((i : ℕ) → i < length l → Rel (get_or l i a) (get_or m i b)) → Each Rel l m
  each_from a b [] [] e h = none
  each_from a b [] (y ∷ m) e h = absurd (omega (arith, e))
  each_from a b (x ∷ l) [] e h = absurd (omega (arith, e))
  each_from a b (x ∷ l) (y ∷ m) e h = more (h 0 (omega arith)) (each_from a b l m (omega (arith, e)) (λ i k. h (suc i) (suc-le-suc k)))

pub all_from : {A : Type 0} (P : A → Type 0) (d : A) (l : List A) → ((i : ℕ) → i < length l → P (get_or l i d)) → All P l
all_from P d l = each_from d d l l refl

pub all_any : {A : Type 0} (l : List A) → All (λ _. Unit {0}) l
all_any [] = none
all_any (a ∷ l) = more tt (all_any l)
