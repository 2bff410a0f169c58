-- Checks one after the other: what a check that accepts, or one that refuses, tells of its parts.
use Prim.Native.Nat.{ℕ, ◌<◌}
use mathlib.Core.Bool.{Bool, true, false}
use mathlib.Core.List.{List}
use mathlib.Core.Path.{◌≡◌, refl, ap}
use native.Mathlib.Omega.{arith}
use lib.Dec.{T, ltb, ltb→lt}
use lib.ListN.{length}
use Rattle.counting.proofs.Tests.{and_l}
use Rattle.checks.specs.Checked.{Checked, accepted, refused, ◌>>=◌, require, is_kind}
use Rattle.checks.specs.Checked.{mapped}
use Rattle.checks.specs.declared.fault.Fault.{Fault}
use Rattle.checks.specs.declared.fault.Refusal.{Refusal}
use Rattle.checks.specs.Faults.{fault_number}

pub never : {A : Type 0} {number place : ℕ} {a : A} → refused number place ≡ accepted a → ⊥
never e = let z : ◌≡◌ {A = ℕ} 0 1 = cc in omega arith

pub same_accepted : {A : Type 0} {a b : A} → accepted a ≡ accepted b → a ≡ b
same_accepted e = cc

pub require_accepted : {A : Type 0} (test : Bool) (number place : ℕ) (next : Checked A) {a : A} → require test number place next ≡ accepted a
    → (test ≡ true) × (next ≡ accepted a)
require_accepted true number place next e = (refl, e)
require_accepted false number place next e = absurd (never e)

pub bind_accepted : {A B : Type 0} (first : Checked A) (f : A → Checked B) {b : B} → (first >>= f) ≡ accepted b
    → (a : A) × (first ≡ accepted a) × (f a ≡ accepted b)
bind_accepted (accepted a) f e = (a, refl, e)
bind_accepted (refused number place) f e = absurd (never e)

pub mapped_accepted : {A B : Type 0} (f : A → B) (first : Checked A) {b : B} → mapped f first ≡ accepted b
    → (a : A) × (first ≡ accepted a) × (f a ≡ b)
mapped_accepted f (accepted a) e = (a, refl, cc)
mapped_accepted f (refused number place) e = absurd (never e)

pub mapped_refused : {A B : Type 0} (f : A → B) (first : Checked A) {number place : ℕ} → mapped f first ≡ refused number place
    → first ≡ refused number place
mapped_refused f (accepted a) e = let z : ◌≡◌ {A = ℕ} 0 1 = cc in absurd (omega arith)
mapped_refused f (refused number place) e = cc

-- a refusal that the code tells, as a check
pub told : {A : Type 0} {r : Refusal} {fault : Fault} {place : ℕ} → r ≡ record { fault = fault; place = place }
    → ◌≡◌ {A = Checked A} (refused (fault_number r.fault) r.place) (refused (fault_number fault) place)
told e = ap (λ (r : Refusal). refused (fault_number r.fault) r.place) e

-- ---- with the test as a fact
pub require_e : {A : Type 0} (t : Bool) (number place : ℕ) (next : Checked A) (a : A) → require t number place next ≡ accepted a → T t × (next ≡ accepted a)
require_e true number place next a e = (tt, e)
require_e false number place next a e = absurd (never e)

-- a word of some kind is there
pub kind_inside : (s : List ℕ) (kind at : ℕ) → T (is_kind kind s at) → at < length s
unfolding is_kind
kind_inside s kind at h = ltb→lt at (length s) (and_l (ltb at (length s)) _ h)
