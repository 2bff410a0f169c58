-- The rows of a line take less than 2^28 words: its samples are a field of 12 bits, and the places have at most 16.
use Prim.Native.Nat.{ℕ, ◌*◌, ◌^◌, ◌<◌, ◌≤◌}
use native.Mathlib.Nat.{mul-le-mul}
use native.Mathlib.Omega.{arith}

pub rows_few : {m n : ℕ} → m < 2 ^ 12 → n < 2 ^ 16 → m * n ≤ 4095 * 65535
rows_few samples places = mul-le-mul {n₂ = 4095} {m₂ = 65535} (omega arith) (omega arith)
