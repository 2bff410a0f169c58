-- Where the distances of a table stand, and what its numbers tell.
use mathlib.Core.Path.{◌≡◌, refl, sym}
use mathlib.Core.Bool.{cond}
use mathlib.Core.List.{List}
use Prim.Native.Nat.{ℕ, ◌+◌, ◌*◌, ◌<◌, ◌≤◌}
use native.Mathlib.Omega.{arith}
use lib.Dec.{eqb, eqb→eq}
use lib.ListN.{length}
use Rattle.std.specs.Prelude.{Some, None, unwrap_or}
use Rattle.words.specs.Bytes.{words_of, numbers_of}
use Rattle.words.proofs.Numbers.{length_numbers}
use Rattle.words.proofs.Rows.{in_table}
use Rattle.network.specs.Distance.{none}
use Rattle.counting.proofs.Tests.{by_test}
use Rattle.distances.specs.Distances.{distance_number, distance_told, HasRoom}

-- the distance from a place to another stands in the table, at an index that is none above the count of the table's bytes
pub distance_there : (bytes : List ℕ) {n from to : ℕ} → HasRoom n bytes → from < n → to < n → (from * n + to < length (numbers_of (words_of bytes))) × (from * n + to ≤ length bytes)
distance_there bytes room b c = let t = in_table b c in (omega arith, omega (arith, length_numbers bytes))

-- what a number tells is the number, where 2^64 - 1 stands for none
pub distance_number_told : (x : ℕ) → unwrap_or (distance_told x) (distance_number none) ≡ x
distance_number_told x = by_test (eqb x (distance_number none)) (λ t. unwrap_or (cond t None (Some x)) (distance_number none) ≡ x) (λ same. sym (eqb→eq x _ same)) (λ _. refl)
