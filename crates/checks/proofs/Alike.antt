-- Two checks are alike: both accept, with things that are related, or both refuse, with the same number and at places that are level. What is made of checks
-- that are alike is alike.
use Prim.Native.Nat.{ℕ}
use mathlib.Core.Bool.{Bool, true, false}
use mathlib.Core.Path.{◌≡◌, refl, ap, subst}
use lib.Dec.{T}
use Rattle.checks.specs.Checked.{Checked, accepted, refused, ◌>>=◌, require}
use Rattle.checks.proofs.Checks.{never, same_accepted}

pub data Alike (Level : ℕ → ℕ → Type 0) {A : Type 0} (Found : A → A → Type 0) : Checked A → Checked A → Type 0 where
  accept : {a b : A} → Found a b → Alike Level Found (accepted a) (accepted b)
  refuse : {number p q : ℕ} → Level p q → Alike Level Found (refused number p) (refused number q)

-- the same was read, up to indices that are level
abbrev pub SameUpTo : (ℕ → ℕ → Type 0) → (A : Type 0) → A × ℕ → A × ℕ → Type 0
SameUpTo Level A a b = (a.0 ≡ b.0) × Level a.1 b.1

module _ {Level : ℕ → ℕ → Type 0} {A : Type 0} {Found : A → A → Type 0} where
  pub require_alike : (t u : Bool) (number p q : ℕ) (c d : Checked A) → t ≡ u → Level p q → (T u → Alike Level Found c d)
      → Alike Level Found (require t number p c) (require u number q d)
  require_alike t true number p q c d e level h = rw e (h tt)
  require_alike t false number p q c d e level h = rw e (refuse level)

  pub choice_alike : (t u : Bool) (a b c d : Checked A) → t ≡ u → (T u → Alike Level Found a b) → Alike Level Found c d
      → Alike Level Found (elim t as (λ _. Checked A) [ true ↦ a | false ↦ c ]) (elim u as (λ _. Checked A) [ true ↦ b | false ↦ d ])
  choice_alike t true a b c d e h k = rw e (h tt)
  choice_alike t false a b c d e h k = rw e k

  pub bind_alike : {B : Type 0} {Made : B → B → Type 0} {c d : Checked A} (f g : A → Checked B) → Alike Level Found c d
      → ((a b : A) → Found a b → Alike Level Made (f a) (g b)) → Alike Level Made (c >>= f) (d >>= g)
  bind_alike f g (accept {a} {b} h) k = k a b h
  bind_alike f g (refuse level) k = refuse level

  -- ---- what it tells
  pub accepted_alike : {c d : Checked A} {a : A} → Alike Level Found c d → c ≡ accepted a → (b : A) × (d ≡ accepted b) × Found a b
  accepted_alike (accept {b} h) e = (b, refl, subst (λ x. Found x b) (same_accepted e) h)
  accepted_alike (refuse level) e = absurd (never e)

-- ---- the same is found, or refused at the same place
abbrev pub Same : {A : Type 0} → Checked A → Checked A → Type 0
Same {A} = Alike (λ p q. p ≡ q) (λ (a b : A). a ≡ b)

pub same_checks : {A : Type 0} {c d : Checked A} → Same c d → c ≡ d
same_checks (accept e) = ap accepted e
same_checks (refuse {number} e) = ap (refused number) e
