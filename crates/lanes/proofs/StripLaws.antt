-- Laws of the loops over the lanes of one strip: one lane more is written or compared.
use mathlib.Core.Path.{◌≡◌, refl, sym, subst, ◌∙◌}
use mathlib.Core.Bool.{Bool, true, false, not, ◌||◌, false≢true}
use mathlib.Core.List.{List, [], ◌∷◌}
use Prim.Native.Nat.{ℕ, suc, ◌+◌, ◌<◌}
use native.Mathlib.Nat.{zero-add}
use native.Mathlib.Decide.{ℕ_discrete}
use native.Mathlib.Omega.{arith}
use borrow.Author.Count.{below_more}
use borrow.Author.Tests.{eq-eqb, ne_eqb}
use lib.Dec.{eqb}
use lib.ListN.{length, get_or, set, length-set}
use lib.Seq.{get_or-set_same, get_or-set_other}
use Rattle.std.specs.List.{fold, zip}
use Rattle.lanes.specs.Lanes.{lanes}
use Rattle.lanes.specs.Strips.{Held, StripsApart}
use Rattle.lanes.proofs.RowLaws.{Filled}

-- ---- writing
pub held_none : (f : ℕ → ℕ) (strip : List ℕ) → Held 0 f strip
held_none f strip = record { at = λ lane l. absurd (omega arith) }

module _ {k : ℕ} {f : ℕ → ℕ} {strip : List ℕ} (h : Held k f strip) where
  pub held_more : {v : ℕ} → k < length strip → v ≡ f k → Held (k + 1) f (set strip k v)
  held_more {v} b e = record {
    at = below_more (λ lane. get_or (set strip k v) lane 0 ≡ f lane) k
        (λ lane c. get_or-set_other strip k lane v 0 (λ q. absurd (omega arith)) ∙ h.at lane c)
        (get_or-set_same strip k v 0 b ∙ e);
  }

  pub held_all : {n : ℕ} → k ≡ n → Held n f strip
  held_all e = subst (λ i. Held i f strip) e h

module _ {k : ℕ} {f : ℕ → ℕ} {strip : List ℕ} (w : Filled k f strip) where
  pub writing_more : {v : ℕ} → k < lanes → v ≡ f k → Filled (k + 1) f (set strip k v)
  writing_more {v} b e = record {
    long = length-set strip k v ∙ w.long;
    held = (held_more (record { at = w.held }) (omega (arith, w.long)) e).at;
  }

  pub writing_all : k ≡ lanes → Held lanes f strip
  writing_all e = held_all (record { at = w.held }) e

-- ---- comparing
module _ (h : ℕ → ℕ) where
  -- one pair of lanes more
  abbrev pub apart_or : Bool → ℕ × ℕ → Bool
  apart_or apart p = apart || not (eqb (h p.0) (h p.1))

  pair_same : (r : Bool) (p : ℕ × ℕ) → h p.0 ≡ h p.1 → apart_or r p ≡ r
  pair_same true p q = refl
  pair_same false p q = rw (eq-eqb _ _ q) refl

  pair_other : (r : Bool) (p : ℕ × ℕ) → (h p.0 ≡ h p.1 → ⊥) → apart_or r p ≡ true
  pair_other true p q = refl
  pair_other false p q = rw (ne_eqb _ _ q) refl

module _ (h : ℕ → ℕ) (a b : List ℕ) where
  pub strips_none : StripsApart false h a b 0
  strips_none = record { alike = λ e lane l. absurd (omega arith); apart = λ e. absurd (false≢true e) }

  pub strips_same : (r s : Bool) (k : ℕ) → StripsApart r h a b k → s ≡ r → h (get_or a k 0) ≡ h (get_or b k 0) → StripsApart s h a b (k + 1)
  strips_same r s k w e q = record {
    alike = λ z. below_more (λ lane. h (get_or a lane 0) ≡ h (get_or b lane 0)) k (w.alike (sym e ∙ z)) q;
    apart = λ z. let u = w.apart (sym e ∙ z) in (u.0, omega (arith, u.1), u.2);
  }

  pub strips_other : (s : Bool) (k : ℕ) → s ≡ true → (h (get_or a k 0) ≡ h (get_or b k 0) → ⊥) → StripsApart s h a b (k + 1)
  strips_other s k e q = record { alike = λ z. absurd (false≢true (sym z ∙ e)); apart = λ z. (k, omega arith, q) }

  -- and so a fold over the pairs of lanes tells them apart
  one_pair : (r : Bool) (k : ℕ) → Dec (h (get_or a k 0) ≡ h (get_or b k 0)) → StripsApart r h a b k → StripsApart (apart_or h r (get_or a k 0, get_or b k 0)) h a b (k + 1)
  one_pair r k (yes q) w = strips_same r _ k w (pair_same h r _ q) q
  one_pair r k (no q) w = strips_other _ k (pair_other h r _ q) q

  strips_folded : (xs ys : List ℕ) (k : ℕ) (r : Bool) → length xs ≡ length ys → ((i : ℕ) → i < length xs → (get_or xs i 0 ≡ get_or a (k + i) 0) × (get_or ys i 0 ≡ get_or b (k + i) 0))
      → StripsApart r h a b k → StripsApart (fold (apart_or h) r (zip xs ys)) h a b (k + length xs)
  strips_folded [] ys k r e same w = subst (λ n. StripsApart r h a b n) (omega arith) w
  strips_folded (x ∷ xs) [] k r e same w = absurd (omega (arith, e))
  strips_folded (x ∷ xs) (y ∷ ys) k r e same w =
      let none : k + 0 ≡ k = omega arith in
      let first = same 0 (omega arith) in
      let more = one_pair r k (ℕ_discrete _ _) w in
      let here : StripsApart (apart_or h r (x, y)) h a b (k + 1) = rw (first.0, first.1, none) more in
      let rest = strips_folded xs ys (k + 1) (apart_or h r (x, y)) (omega (arith, e)) (λ i l. let n : k + 1 + i ≡ k + suc i = omega arith in rw n (same (suc i) (omega arith))) here in
      subst (λ n. StripsApart (fold (apart_or h) r (zip (x ∷ xs) (y ∷ ys))) h a b n) (omega arith) rest

  pub strips_told : {r : Bool} → length a ≡ lanes → length b ≡ lanes → r ≡ fold (apart_or h) false (zip a b) → StripsApart r h a b lanes
  strips_told l m e = rw (e, ← l, ← zero-add (length a)) (strips_folded a b 0 false (l ∙ sym m) (λ i _. rw (zero-add i) (refl, refl)) strips_none)
