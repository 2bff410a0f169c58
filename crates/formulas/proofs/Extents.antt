-- The samples of an extent; those of two operands; and that a line which has a sample ends within the recording (M-100: first plus length is at
-- most T).
use Prim.Native.Nat.{ℕ, ◌+◌, ◌≤◌, ◌<◌}
use native.Mathlib.Omega.{arith}
use lib.Dec.{T, leb, leb→le, ltb→lt, le→leb, lt→ltb}
use Rattle.counting.proofs.Tests.{and_i, and_l, and_r}
use Rattle.formulas.specs.Formulas.{Direction, forward, backward, Operator, True, AtLeast, AtMost, Not, And, Until, Somewhere, Surrounded, Or, Eventually, Always, Everywhere, Extent, end_of, has, common, looking, extent_of}

pub record Has (e : Extent) (t : ℕ) : Type 0 where
  pub from : e.first ≤ t
  pub to : t < end_of e

-- by the test
pub has_e : (e : Extent) (t : ℕ) → T (has e t) → Has e t
has_e e t h = record { from = leb→le e.first t (and_l (leb e.first t) _ h); to = ltb→lt t (end_of e) (and_r (leb e.first t) _ h) }

pub has_i : (e : Extent) (t : ℕ) → Has e t → T (has e t)
has_i e t h = and_i (leb e.first t) _ (le→leb e.first t h.from) (lt→ltb t (end_of e) h.to)

-- sample u of an extent is sample first + u of the recording
pub has_row : (e : Extent) (u : ℕ) → u < e.length → Has e (e.first + u)
has_row e u h = record { from = omega arith; to = omega arith }

-- a sample of both extents is one of each
pub has_left : (a b : Extent) (t : ℕ) → Has (common a b) t → Has a t
has_left a b t h = record { from = omega (arith, h.from); to = omega (arith, h.from, h.to) }

pub has_right : (a b : Extent) (t : ℕ) → Has (common a b) t → Has b t
has_right a b t h = record { from = omega (arith, h.from); to = omega (arith, h.from, h.to) }

common_end : (T : ℕ) (a b : Extent) → end_of a ≤ T → end_of b ≤ T → 1 ≤ (common a b).length → end_of (common a b) ≤ T
common_end T a b h k s = omega (arith, h, k, s)

looking_end : (T : ℕ) (side : Direction) (upper : ℕ) (e : Extent) → (1 ≤ e.length → end_of e ≤ T) → 1 ≤ (looking side upper e).length → end_of (looking side upper e) ≤ T
looking_end T forward upper e h s = omega (arith, h (omega (arith, s)), s)
looking_end T backward upper e h s = omega (arith, h (omega (arith, s)), s)

module _ (T : ℕ) (operand : ℕ → Extent) (within : (i : ℕ) → end_of (operand i) ≤ T) where
  both : (i j : ℕ) → 1 ≤ (common (operand i) (operand j)).length → end_of (common (operand i) (operand j)) ≤ T
  both i j = common_end T (operand i) (operand j) (within i) (within j)

  pub extent_end : (o : Operator) → 1 ≤ (extent_of T operand o).length → end_of (extent_of T operand o) ≤ T
  extent_end True s = omega arith
  extent_end (AtLeast x c) s = omega arith
  extent_end (AtMost x c) s = omega arith
  extent_end (Not i) s = within i
  extent_end (And i j) s = both i j s
  extent_end (Until side i j lower upper) s = looking_end T side upper (common (operand i) (operand j)) (both i j) s
  extent_end (Somewhere i lower upper) s = within i
  extent_end (Surrounded islands i j lower upper) s = both i j s
  extent_end (Or i j) s = both i j s
  extent_end (Eventually side i lower upper) s = looking_end T side upper (operand i) (λ _. within i) s
  extent_end (Always side i lower upper) s = looking_end T side upper (operand i) (λ _. within i) s
  extent_end (Everywhere i lower upper) s = within i
