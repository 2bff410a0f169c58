-- What is made of a sheet fits the bytes that it stands in: each word has 32 bits, where those of the sheet have, and there are fewer than 2^28. So a host can
-- read it back. And no refusal of the converter has the number 0.
use mathlib.Core.Path.{◌≡◌, subst, sym}
use mathlib.Core.Bool.{Bool, true, false}
use mathlib.Core.List.{List, [], ◌∷◌, ◌++◌}
use Prim.Native.Nat.{ℕ, ◌+◌, ◌*◌, ◌-◌, ◌<◌, ◌≤◌, ◌^◌}
use native.Mathlib.Omega.{arith}
use lib.Dec.{leb}
use lib.ListN.{length, drop}
use Rattle.words.specs.Word.{word_of}
use Rattle.words.specs.Rows.{concat}
use Rattle.words.proofs.Below.{Below, below_none, below_more, below_append, below_take, below_drop, below_concat}
use Rattle.checks.specs.Checked.{accepted, refused, word_at}
use Rattle.checks.specs.Heads.{most_of, is_wide, head_for}
use Rattle.checks.proofs.Heads.{few_head_words}
use Rattle.checks.proofs.Numbered.{accepts, required, bound, number_told}
use Rattle.roads.specs.Roads.{road_at, weight_at}
use Rattle.sheet.specs.Layout.{Sizes, Layout, validated}
use Rattle.sheet.proofs.Accepted.{SizesWithin}
use Rattle.sheet.proofs.Whole.{AcceptedSheet, accepted_sheet, few_words}
use Rattle.sheet.proofs.RefusalNumbers.{validated_numbered}
use Rattle.conversion.specs.Relaid.{laid_out, road_relaid, unmoved, before_end, relaid, converted}
use Rattle.conversion.proofs.Words.{before_length, relaid_length}
use Rattle.conversion.proofs.Accepted.{inside}
use Rattle.conversion.proofs.Conversion.{most, Made, made_told}

some_words : 0 < 2 ^ 32
some_words = omega arith

-- ---- the words
head_below : (wide : Bool) (z : Sizes) → SizesWithin z → z.places ≤ most_of wide → Below (2 ^ 32) (head_for 1 wide z.places z.signals z.samples)
unfolding head_for
head_below true z within few =
    below_more some_words _ (word_of 1 (z.signals * 2 ^ 12 + z.samples) ∷ []) (omega (arith, few))
    (below_more some_words _ [] (omega (arith, within.signals_most, within.samples_most)) (below_none some_words))
head_below false z within few = below_more some_words _ [] (omega (arith, few, within.signals_most, within.samples_most)) (below_none some_words)

laid_below : (from to : Bool) (w : ℕ) → w < 2 ^ 32 → laid_out from to w < 2 ^ 32
laid_below true true w h = omega arith
laid_below true false w h = omega arith
laid_below false true w h = omega arith
laid_below false false w h = omega arith

module _ (to : Bool) (s : List ℕ) (d : ℕ) (L : Layout) (sheet : AcceptedSheet s d L) (few : L.sizes.places ≤ most_of to) where
  end_bound : length (before_end to s L) < 2 ^ 28
  end_bound =
      let there = inside to s d L sheet few in
      omega (arith, before_length to s L there, there, few_words s d L sheet, few_head_words to, few_head_words (is_wide s))

  relaid_short : length (relaid to s L) < 2 ^ 28
  relaid_short =
      let there = inside to s d L sheet few in
      omega (arith, relaid_length to s L there, there, few_words s d L sheet, few_head_words to, few_head_words (is_wide s))

  module _ (below : Below (2 ^ 32) s) where
    road_below : (r : ℕ) → Below (2 ^ 32) (road_relaid to s r)
    unfolding road_relaid
    road_below r =
        let at : ℕ = road_at (is_wide s) r in
        let weight : ℕ = weight_at (is_wide s) r in
        below_more some_words _ (word_at s weight ∷ []) (laid_below (is_wide s) to (word_at s at) (below at)) (below_more some_words (word_at s weight) [] (below weight) (below_none some_words))

    unmoved_below : Below (2 ^ 32) (unmoved to s L)
    unmoved_below =
        let begin : ℕ = road_at (is_wide s) (L.roads) in
        below_take some_words (length s - 1 - begin) (drop begin s) (below_drop some_words begin s below)

    relaid_below : Below (2 ^ 32) (relaid to s L)
    unfolding relaid
    relaid_below =
        let roads : List ℕ = concat (road_relaid to s) (L.roads) in
        let roads_below : Below (2 ^ 32) roads = below_concat some_words (road_relaid to s) (L.roads) (λ r _. road_below r) in
        let before : Below (2 ^ 32) (before_end to s L) =
        below_append some_words (head_for 1 to (L.sizes.places) (L.sizes.signals) (L.sizes.samples)) (roads ++ unmoved to s L) (head_below to (L.sizes) sheet.sizes few)
        (below_append some_words roads (unmoved to s L) roads_below unmoved_below) in
        below_append some_words (before_end to s L) (word_of 15 (length (before_end to s L)) ∷ []) before (below_more some_words _ [] (omega (arith, end_bound)) (below_none some_words))

module _ (to : Bool) (s made : List ℕ) (e : converted to s ≡ accepted made) where
  abbrev of : Made to s made
  of = made_told to s made e

  abbrev valid : AcceptedSheet s most of.layout
  valid = accepted_sheet s most of.layout of.found

  pub made_short : length made < 2 ^ 28
  made_short = subst (λ (w : List ℕ). length w < 2 ^ 28) (sym of.made_of) (relaid_short to s most of.layout valid of.few)

  pub made_fits : Below (2 ^ 32) s → Below (2 ^ 32) made
  made_fits below = subst (Below (2 ^ 32)) (sym of.made_of) (relaid_below to s most of.layout valid of.few below)

-- ---- the refusals
pub never_0 : (to : Bool) (s : List ℕ) (place : ℕ) → converted to s ≡ refused 0 place → ⊥
unfolding converted
never_0 to s place e = number_told (bound (validated s) _ (validated_numbered s) (λ L. required (leb (L.sizes.places) (most_of to)) 18 0 _ tt accepts)) e
