-- The check of samples moves with the words: where at indices that are level two lists both have a word of kind 4, with the same spare bit, or neither has one,
-- the check of so many samples from such indices accepts both, or refuses both with the same number, and again at indices that are level.
use Prim.Native.Nat.{ℕ, zero, suc, ◌+◌}
use mathlib.Core.List.{List}
use mathlib.Core.Path.{◌≡◌}
use lib.Dec.{T, eqb}
use Rattle.words.specs.Word.{bits}
use Rattle.checks.specs.Checked.{word_at, is_kind}
use Rattle.checks.proofs.Alike.{Alike, accept, require_alike}
use Rattle.sheet.specs.Layout.{samples_from}

module _ (X Y : List ℕ) (Level : ℕ → ℕ → Type 0)
    (onward : (i j k : ℕ) → Level i j → Level (i + k) (j + k))
    (kind_same : (i j : ℕ) → Level i j → is_kind 4 X i ≡ is_kind 4 Y j)
    (spare_same : (i j : ℕ) → Level i j → T (is_kind 4 Y j) → eqb (bits 27 1 (word_at X i)) 0 ≡ eqb (bits 27 1 (word_at Y j)) 0) where
  pub samples_move : (count i j : ℕ) → Level i j → Alike Level Level (samples_from X count i) (samples_from Y count j)
  unfolding samples_from
  samples_move zero i j at = accept at
  samples_move (suc count) i j at = let next = samples_move count (i + 1) (j + 1) (onward i j 1 at) in search (require_alike, kind_same, spare_same)
