-- The numbers with which a check can refuse: of a check made of tests and of other checks, by those of its parts.
use mathlib.Core.Path.{◌≡◌, refl, subst}
use mathlib.Core.Bool.{Bool, true, false, cond}
use Prim.Native.Nat.{ℕ}
use lib.Dec.{T, ltb}
use Rattle.checks.specs.Checked.{Checked, accepted, refused, ◌>>=◌, require}

-- every number but that of acceptance
abbrev pub some_number : ℕ → Bool
some_number k = ltb 0 k

pub data Numbered (allowed : ℕ → Bool) {A : Type 0} : Checked A → Type 0 where
  accepts : {a : A} → Numbered allowed (accepted a)
  refuses : {number place : ℕ} → T (allowed number) → Numbered allowed (refused number place)

module _ {allowed : ℕ → Bool} {A : Type 0} where
  pub required : (t : Bool) (number place : ℕ) (next : Checked A) → T (allowed number) → Numbered allowed next → Numbered allowed (require t number place next)
  required true number place next n h = h
  required false number place next n h = refuses n

  -- a test that holds refuses nothing, and what follows a test may rest on it
  pub passed : (t : Bool) (number place : ℕ) (next : Checked A) → T t → Numbered allowed next → Numbered allowed (require t number place next)
  passed true number place next p h = h
  passed false number place next p h = absurd p

  pub onward : (t : Bool) (number place : ℕ) (next : Checked A) → T (allowed number) → (T t → Numbered allowed next) → Numbered allowed (require t number place next)
  onward true number place next n h = h tt
  onward false number place next n h = refuses n

  pub chosen : (t : Bool) (a b : Checked A) → Numbered allowed a → Numbered allowed b → Numbered allowed {A = A} (elim t as (λ _. Checked A) [ true ↦ a | false ↦ b ])
  chosen true a b h k = h
  chosen false a b h k = k

  pub either : (t : Bool) (a b : Checked A) → (t ≡ true → Numbered allowed a) → (t ≡ false → Numbered allowed b) → Numbered allowed (cond t a b)
  either true a b h k = h refl
  either false a b h k = k refl

  -- a larger set of numbers
  pub weakened : {more : ℕ → Bool} {c : Checked A} → ((k : ℕ) → T (allowed k) → T (more k)) → Numbered allowed c → Numbered more c
  weakened wider accepts = accepts
  weakened wider (refuses {number = k} h) = refuses (wider k h)

  refusal_told : {number place : ℕ} → Numbered allowed {A = A} (refused number place) → T (allowed number)
  refusal_told (refuses h) = h

  pub number_told : {c : Checked A} {number place : ℕ} → Numbered allowed c → c ≡ refused number place → T (allowed number)
  number_told numbered e = refusal_told (subst (Numbered allowed) e numbered)

pub bound : {allowed : ℕ → Bool} {A B : Type 0} (c : Checked A) (f : A → Checked B) → Numbered allowed c → ((a : A) → Numbered allowed (f a)) → Numbered allowed (c >>= f)
bound (accepted a) f h k = k a
bound (refused number place) f (refuses n) k = refuses n
