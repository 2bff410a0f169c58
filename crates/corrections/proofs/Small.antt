-- Fields of a word and the limits of a sheet are small, and so are their products: the index of a sample fits.
use mathlib.Core.List.{List}
use Prim.Native.Nat.{ℕ, ◌+◌, ◌*◌, ◌<◌, ◌≤◌, ◌^◌}
use native.Mathlib.Nat.{mul-le-mul}
use native.Mathlib.Omega.{arith}
use Rattle.corrections.specs.declared.correction.Grid.{Grid}
use Rattle.corrections.specs.Corrections.{time, place, target}
use Rattle.corrections.specs.Aimed.{GridFits}

module _ (g : Grid) (fits : GridFits g) where
  pub row_small : (t l : ℕ) → t < 2 ^ 12 → l < 2 ^ 16 → t * g.places + l < 2 ^ 23
  row_small t l h b = omega (arith, mul-le-mul {n₁ = t} {n₂ = 4095} (omega arith) fits.few_places)

  pub cells_small : (row : ℕ) → row < 2 ^ 23 → row * g.signals ≤ 2 ^ 27
  cells_small row h = mul-le-mul {n₂ = 2 ^ 23} (omega arith) fits.few_signals

  pub target_small : (c : List ℕ) (k : ℕ) → target c g k < 2 ^ 28
  target_small c k =
      let row = row_small (time c k) (place c k) (omega arith) (omega arith) in
      omega (arith, fits.begins, cells_small (time c k * g.places + place c k) row)
