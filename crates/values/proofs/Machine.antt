-- What the machine makes of a verdict (a 1 for a yes) and of small signed numbers: with 2^27 added a number is its code, and nothing leaves 32 bits.
use mathlib.Core.Path.{◌≡◌, refl, ap}
use mathlib.Core.Bool.{Bool, true, false}
use Prim.Native.Nat.{suc, ◌<◌, ◌≤◌, ◌^◌}
use native.Mathlib.Omega.{arith}
use lib.IntN.{ℤ, pos, negsuc, nat_abs, ◌+ℤ◌}
use mir.Syntax.{w32}
use mir.Val.{SFits, bool_byte}
use borrow.Author.Tests.{le-ltb}
use Rattle.counting.specs.Totals.{count}
use Rattle.logic.specs.Margin.{finite}
use Rattle.values.specs.Chain.{margin_code}

pub byte_count : (b : Bool) → (bool_byte b ≡ count b) × (count b ≤ 1)
byte_count true = (refl, omega arith)
byte_count false = (refl, omega arith)

pub small_fits : (x : ℤ) → nat_abs x < 2 ^ 27 → SFits w32 x
small_fits (pos x) h = record { sfits = omega arith }
small_fits (negsuc x) h = record { sfits = omega arith }

pub plus_code : (x : ℤ) → nat_abs x < 2 ^ 27 → x +ℤ pos (2 ^ 27) ≡ pos (margin_code (finite x))
plus_code (pos x) h = ap pos (omega arith)
plus_code (negsuc x) h = let low : suc x ≤ 2 ^ 27 = omega arith in simp (le-ltb (2 ^ 27) (suc x) low)
