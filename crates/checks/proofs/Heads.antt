-- How great what the first words tell can be, whatever they are, and the most places of each layout.
use Prim.Native.Nat.{ℕ, ◌^◌, ◌<◌, ◌≤◌}
use mathlib.Core.Bool.{Bool, true, false, cond}
use mathlib.Core.List.{List}
use native.Mathlib.Omega.{arith}
use Rattle.words.specs.Word.{bits}
use Rattle.checks.specs.Limits.{most_places}
use Rattle.checks.specs.Checked.{word_at}
use Rattle.checks.specs.Heads.{head_words, most_of, is_wide, places_of}

pub few_head_words : (wide : Bool) → (1 ≤ head_words wide) × (head_words wide ≤ 2)
few_head_words true = omega arith
few_head_words false = omega arith

-- a field of 16 bits or of 8
pub places_few : (s : List ℕ) → places_of s < 2 ^ 16
unfolding places_of
places_few s = by_width (is_wide s)
  where
    by_width : (wide : Bool) → cond wide (bits 0 16 (word_at s 0)) (bits 20 8 (word_at s 0)) < 2 ^ 16
    by_width true = omega arith
    by_width false = omega arith

pub most_of_any : (wide : Bool) → most_of wide ≤ most_places
most_of_any true = omega arith
most_of_any false = omega arith
