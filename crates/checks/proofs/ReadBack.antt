-- The words with which a sheet or an answer begins, as they are read back from any list that begins with them: its layout, its places, what its head counts and
-- its samples, and that they pass the tests of a head. A head of kind 10 would be taken for the first word of a wide one.
use mathlib.Core.Path.{◌≡◌, refl}
use mathlib.Core.Bool.{Bool, true, false, cond}
use mathlib.Core.List.{List, ◌++◌}
use Prim.Native.Nat.{ℕ, ◌+◌, ◌*◌, ◌^◌, ◌≤◌}
use native.Mathlib.Omega.{arith}
use lib.Dec.{T}
use lib.ListN.{length}
use Rattle.words.specs.Word.{bits, word_of}
use Rattle.counting.proofs.Tests.{and_i, holds}
use Rattle.checks.specs.Limits.{most_places}
use Rattle.checks.specs.Checked.{between, word_at, is_kind}
use Rattle.checks.specs.Heads.{head_words, head_for, HeadFits, is_wide, head_of, places_of, wide_counted, wide_followed}
use Rattle.checks.proofs.Tests.{equal, in_limits, kind_there, kind_other}

pub head_length : (kind : ℕ) (wide : Bool) (places count samples : ℕ) → length (head_for kind wide places count samples) ≡ head_words wide
unfolding head_for
head_length kind true places count samples = refl
head_length kind false places count samples = refl

module _ (kind places count samples : ℕ) (rest : List ℕ) where
  abbrev begun : Bool → List ℕ
  begun wide = head_for kind wide places count samples ++ rest

  abbrev Fits : Bool → Type 0
  Fits wide = HeadFits kind wide places count samples

  -- ---- of either layout
  layout_by : (wide : Bool) → Fits wide → (kind ≡ 10 → ⊥) → is_wide (begun wide) ≡ wide
  unfolding is_wide head_for
  layout_by true fits other = holds (is_kind 10 (begun true) 0) (kind_there (begun true) 10 places 0 (omega arith) refl (omega (arith, fits.places_fit)))
  layout_by false fits other = kind_other (begun false) 10 0 (λ e. other (omega (arith, e, fits.places_fit, fits.count_fits, fits.samples_fit)))

  places_by : (wide : Bool) → Fits wide → cond wide (bits 0 16 (word_at (begun wide) 0)) (bits 20 8 (word_at (begun wide) 0)) ≡ places
  unfolding head_for
  places_by true fits = omega (arith, fits.places_fit)
  places_by false fits = omega (arith, fits.places_fit, fits.count_fits, fits.samples_fit)

  -- the head's own word
  head_by : (wide : Bool) → Fits wide → (bits 12 8 (word_at (begun wide) (cond wide 1 0)) ≡ count) × (bits 0 12 (word_at (begun wide) (cond wide 1 0)) ≡ samples)
  unfolding head_for
  head_by true fits = omega (arith, fits.count_fits, fits.samples_fit)
  head_by false fits = omega (arith, fits.places_fit, fits.count_fits, fits.samples_fit)

  module _ (wide : Bool) (fits : HeadFits kind wide places count samples) (other : kind ≡ 10 → ⊥) where
    pub layout_read : is_wide (head_for kind wide places count samples ++ rest) ≡ wide
    layout_read = layout_by wide fits other

    pub places_read : places_of (head_for kind wide places count samples ++ rest) ≡ places
    unfolding places_of
    places_read = rw layout_read (places_by wide fits)

    pub count_read : bits 12 8 (head_of (head_for kind wide places count samples ++ rest)) ≡ count
    unfolding head_of
    count_read = rw layout_read (head_by wide fits).0

    pub samples_read : bits 0 12 (head_of (head_for kind wide places count samples ++ rest)) ≡ samples
    unfolding head_of
    samples_read = rw layout_read (head_by wide fits).1

  -- ---- the tests of each
  pub narrow_kind : HeadFits kind false places count samples → T (is_kind kind (head_for kind false places count samples ++ rest) 0)
  unfolding head_for
  narrow_kind fits =
      kind_there (begun false) kind (places * 2 ^ 20 + count * 2 ^ 12 + samples) 0 (omega arith) refl (omega (arith, fits.places_fit, fits.count_fits, fits.samples_fit))

  pub wide_counted_lem : HeadFits kind true places count samples → (1 ≤ places) × (places ≤ most_places) → T (wide_counted (head_for kind true places count samples ++ rest))
  unfolding wide_counted head_for
  wide_counted_lem fits most =
      let field : bits 0 16 (word_of 10 places) ≡ places = omega (arith, fits.places_fit) in
      and_i (between 1 most_places (bits 0 16 (word_of 10 places))) _ (rw field (in_limits 1 most_places places most.0 most.1))
      (equal (bits 16 12 (word_of 10 places)) 0 (omega (arith, fits.places_fit)))

  pub wide_followed_lem : HeadFits kind true places count samples → T (wide_followed (head_for kind true places count samples ++ rest) kind)
  unfolding wide_followed head_for
  wide_followed_lem fits =
      let payload : ℕ = count * 2 ^ 12 + samples in
      and_i (is_kind kind (begun true) 1) _ (kind_there (begun true) kind payload 1 (omega arith) refl (omega (arith, fits.count_fits, fits.samples_fit)))
      (equal (bits 20 8 (word_of kind payload)) 0 (omega (arith, fits.count_fits, fits.samples_fit)))
