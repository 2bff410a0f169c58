-- The first word of a road laid out anew: it keeps its kind, which ways it runs and its places, its spare bits are zero, and the order of two roads stays.
use mathlib.Core.Path.{◌≡◌, ap}
use mathlib.Core.Bool.{Bool, true, false}
use Prim.Native.Nat.{ℕ, ◌+◌, ◌*◌, ◌/◌, ◌<◌, ◌≤◌, ◌^◌}
use native.Mathlib.Omega.{arith}
use lib.Dec.{eqb}
use Rattle.words.specs.Word.{bits, kind_of}
use Rattle.checks.specs.Heads.{most_of}
use Rattle.roads.specs.Roads.{place_bits, first_place, second_place, spare_bits, runs_forth, runs_back, place_pair}
use Rattle.conversion.specs.Relaid.{laid_out}

-- what the two say alike
pub record SaysSame (from to : Bool) (w v : ℕ) : Type 0 where
  pub above : v / 2 ^ 26 ≡ w / 2 ^ 26
  pub kind : kind_of v ≡ kind_of w
  pub spare : spare_bits to v ≡ 0
  pub first : first_place to v ≡ first_place from w
  pub second : second_place to v ≡ second_place from w
  pub forth : runs_forth v ≡ runs_forth w
  pub back : runs_back v ≡ runs_back w

-- of a word by its parts: what stands above the places, and these
by_parts : (to : Bool) (k a b : ℕ) → a < b → b < most_of to →
    let v : ℕ = k * 2 ^ 26 + a * 2 ^ place_bits to + b in
    (v / 2 ^ 26 ≡ k) × (spare_bits to v ≡ 0) × (first_place to v ≡ a) × (second_place to v ≡ b)
by_parts true k a b order inside = (omega arith, omega arith, omega arith, omega arith)
by_parts false k a b order inside = (omega arith, omega arith, omega arith, omega arith)

-- of a road that passed; which ways it runs is told above the places
pub says_same : (from to : Bool) (w : ℕ) → first_place from w < second_place from w → second_place from w < most_of to → SaysSame from to w (laid_out from to w)
says_same from to w order inside =
    let parts = by_parts to (w / 2 ^ 26) (first_place from w) (second_place from w) order inside in
    let above : laid_out from to w / 2 ^ 26 ≡ w / 2 ^ 26 = parts.0 in
    let only_back : bits 26 1 (laid_out from to w) ≡ bits 26 1 w = omega (arith, above) in
    let only_forth : bits 27 1 (laid_out from to w) ≡ bits 27 1 w = omega (arith, above) in
    record {
      above = above;
      kind = omega (arith, above);
      spare = parts.1;
      first = parts.2;
      second = parts.3;
      forth = ap (λ b. eqb b 0) only_back;
      back = ap (λ b. eqb b 0) only_forth;
    }

-- without spare bits it is the word itself in its own layout
pub laid_out_back : (wide : Bool) (w : ℕ) → spare_bits wide w ≡ 0 → laid_out wide wide w ≡ w
laid_out_back true w spare = omega arith
laid_out_back false w spare = omega arith

-- two numbers that stand for the same pair of places in two layouts
pub record SamePair (n : ℕ) (from to : Bool) (p q : ℕ) : Type 0 where
  pub first : ℕ
  pub second : ℕ
  pub inside : second < n
  pub as_from : p ≡ first * 2 ^ place_bits from + second
  pub as_to : q ≡ first * 2 ^ place_bits to + second

module _ (n : ℕ) where
  pub pair_of : (from to : Bool) (w v : ℕ) → second_place from w < n → SaysSame from to w v → SamePair n from to (place_pair from w) (place_pair to v)
  pair_of from to w v inside same = record {
    first = first_place from w;
    second = second_place from w;
    inside = inside;
    as_from = as_pair from w;
    as_to = rw (← same.first, ← same.second) (as_pair to v);
  }
    where
      as_pair : (wide : Bool) (w : ℕ) → place_pair wide w ≡ first_place wide w * 2 ^ place_bits wide + second_place wide w
      as_pair true w = omega arith
      as_pair false w = omega arith

  -- pairs are ordered alike
  pub order_same : (from to : Bool) → n ≤ most_of from → n ≤ most_of to → (p q p' q' : ℕ) → SamePair n from to p p' → SamePair n from to q q' → p < q → p' < q'
  order_same true true f t p q p' q' a b h = omega (arith, a.as_from, a.as_to, b.as_from, b.as_to, a.inside, b.inside)
  order_same true false f t p q p' q' a b h = omega (arith, a.as_from, a.as_to, b.as_from, b.as_to, a.inside, b.inside)
  order_same false true f t p q p' q' a b h = omega (arith, a.as_from, a.as_to, b.as_from, b.as_to, a.inside, b.inside)
  order_same false false f t p q p' q' a b h = omega (arith, a.as_from, a.as_to, b.as_from, b.as_to, a.inside, b.inside)
