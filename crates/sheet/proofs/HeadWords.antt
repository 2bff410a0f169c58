-- The words with which an accepted sheet begins are those that its sizes say, and with such words the head passes.
use mathlib.Core.Path.{◌≡◌, refl, ap, ◌∙◌}
use mathlib.Core.Bool.{Bool, true, false, cond, ◌&&◌}
use mathlib.Core.List.{List, ◌++◌}
use Prim.Native.Nat.{ℕ, zero, suc, ◌*◌, ◌<◌, ◌≤◌, ◌^◌}
use native.Mathlib.Omega.{arith}
use lib.Dec.{T, leb, le→leb, eqb}
use borrow.Author.Tests.{eqb-true}
use Rattle.words.specs.Word.{bits, kind_of}
use Rattle.counting.proofs.Tests.{holds, and_i}
use Rattle.checks.specs.Limits.{most_places, most_narrow, most_signals, most_samples, least_distances}
use Rattle.checks.specs.Checked.{accepted, between, word_at, is_kind}
use Rattle.checks.specs.Heads.{head_words, most_of, is_wide, head_of, places_of, wide_counted, wide_followed, head_for, HeadFits}
use Rattle.checks.proofs.Checks.{require_accepted}
use Rattle.checks.proofs.Tests.{and_true, kind_told, in_limits}
use Rattle.checks.proofs.ReadBack.{layout_read, places_read, count_read, samples_read, narrow_kind, wide_counted_lem, wide_followed_lem}
use Rattle.sheet.specs.Layout.{Sizes, sizes_of, narrow_checked, wide_checked, head_checked}
use Rattle.sheet.proofs.Accepted.{SizesWithin, head_passed}

-- ---- the words of a head that passed
module _ (s : List ℕ) (d : ℕ) where
  -- those of what it says
  abbrev said : Bool → List ℕ
  said wide = head_for 1 wide (sizes_of s).places (sizes_of s).signals (sizes_of s).samples

  narrow_words : {z : Sizes} → is_wide s ≡ false → narrow_checked s d ≡ accepted z → (i : ℕ) → i < 1 → word_at s i ≡ word_at (said false) i
  unfolding narrow_checked sizes_of head_of places_of head_for
  narrow_words narrow e zero h =
      let enough = require_accepted (leb least_distances d) 1 0 _ e in
      let kind = require_accepted (is_kind 1 s 0) 2 0 _ enough.1 in
      rw narrow (omega (arith, (kind_told 1 s 0 kind.0).1))
  narrow_words narrow e (suc i) h = absurd (omega arith)

  first_wide : is_wide s ≡ true → kind_of (word_at s 0) ≡ 10
  unfolding is_wide
  first_wide wide = (kind_told 10 s 0 wide).1

  wide_told : {z : Sizes} → wide_checked s d ≡ accepted z → (bits 16 12 (word_at s 0) ≡ 0) × (kind_of (word_at s 1) ≡ 1) × (bits 20 8 (word_at s 1) ≡ 0)
  unfolding wide_checked wide_counted wide_followed
  wide_told e =
      let counted = require_accepted (between 1 most_places (bits 0 16 (word_at s 0)) && eqb (bits 16 12 (word_at s 0)) 0) 17 0 _ e in
      let followed = require_accepted (is_kind 1 s 1 && eqb (bits 20 8 (word_at s 1)) 0) 17 1 _ counted.1 in
      let spare = (and_true (between 1 most_places (bits 0 16 (word_at s 0))) _ counted.0).1 in
      let next = and_true (is_kind 1 s 1) (eqb (bits 20 8 (word_at s 1)) 0) followed.0 in
      (eqb-true _ 0 spare, (kind_told 1 s 1 next.0).1, eqb-true _ 0 next.1)

  wide_words : {z : Sizes} → is_wide s ≡ true → wide_checked s d ≡ accepted z → (i : ℕ) → i < 2 → word_at s i ≡ word_at (said true) i
  unfolding sizes_of head_of places_of head_for
  wide_words wide e zero h = rw wide (omega (arith, first_wide wide, (wide_told e).0))
  wide_words wide e (suc zero) h = rw wide (omega (arith, (wide_told e).1, (wide_told e).2))
  wide_words wide e (suc (suc i)) h = absurd (omega arith)

  pub head_words_lem : {z : Sizes} → head_checked s d ≡ accepted z → (i : ℕ) → i < head_words (is_wide s)
      → word_at s i ≡ word_at (head_for 1 (is_wide s) z.places z.signals z.samples) i
  unfolding head_checked
  head_words_lem {z} e i h =
      go (is_wide s) refl e h ∙ ap (λ (k : Sizes). word_at (head_for 1 (is_wide s) k.places k.signals k.samples) i) (head_passed s d e).0
    where
      go : (wide : Bool) → is_wide s ≡ wide → cond wide (wide_checked s d) (narrow_checked s d) ≡ accepted z → i < head_words wide → word_at s i ≡ word_at (said wide) i
      go true wide e h = wide_words wide e i h
      go false narrow e h = narrow_words narrow e i h

-- ---- a head with such words
-- each size has room in its field
pub sizes_fit : (z : Sizes) (wide : Bool) → SizesWithin z → z.places ≤ most_of wide → HeadFits 1 wide z.places z.signals z.samples
sizes_fit z wide within few = record {
  kind_fits = omega arith;
  places_fit = by_width wide few;
  count_fits = omega (arith, within.signals_most);
  samples_fit = omega (arith, within.samples_most);
}
  where
    by_width : (wide : Bool) → z.places ≤ most_of wide → z.places < cond wide (2 ^ 16) (2 ^ 8)
    by_width true few = omega arith
    by_width false few = omega arith

module _ (z : Sizes) (rest : List ℕ) (within : SizesWithin z) where
  abbrev begun : Bool → List ℕ
  begun wide = head_for 1 wide z.places z.signals z.samples ++ rest

  fits : (wide : Bool) → z.places ≤ most_of wide → HeadFits 1 wide z.places z.signals z.samples
  fits wide few = sizes_fit z wide within few

  not_ten : ◌≡◌ {A = ℕ} 1 10 → ⊥
  not_ten e = omega arith

  pub head_layout : (wide : Bool) → z.places ≤ most_of wide → is_wide (begun wide) ≡ wide
  head_layout wide few = layout_read 1 z.places z.signals z.samples rest wide (fits wide few) not_ten

  sizes_read : (wide : Bool) → z.places ≤ most_of wide → sizes_of (begun wide) ≡ z
  unfolding sizes_of
  sizes_read wide few i = record {
    places = places_read 1 z.places z.signals z.samples rest wide (fits wide few) not_ten i;
    signals = count_read 1 z.places z.signals z.samples rest wide (fits wide few) not_ten i;
    samples = samples_read 1 z.places z.signals z.samples rest wide (fits wide few) not_ten i;
  }

  abbrev recorded : Bool
  recorded = between 1 most_signals z.signals && between 1 most_samples z.samples

  is_recorded : T recorded
  is_recorded = and_i (between 1 most_signals z.signals) _ (in_limits 1 most_signals z.signals within.signals_some within.signals_most)
      (in_limits 1 most_samples z.samples within.samples_some within.samples_most)

  by_layout : (wide : Bool) (d : ℕ) → z.places ≤ most_of wide → least_distances ≤ d → z.places * z.places ≤ d
      → cond wide (wide_checked (begun wide) d) (narrow_checked (begun wide) d) ≡ accepted z
  unfolding wide_checked narrow_checked
  by_layout true d few least enough =
      rw (sizes_read true few)
      (simp (
        holds (wide_counted (begun true)) (wide_counted_lem 1 z.places z.signals z.samples rest (fits true few) (within.places_some, few)),
        holds (wide_followed (begun true) 1) (wide_followed_lem 1 z.places z.signals z.samples rest (fits true few)),
        holds recorded is_recorded,
        holds (leb (z.places * z.places) d) (le→leb _ _ enough),
      ))
  by_layout false d few least enough =
      rw (sizes_read false few)
      (simp (
        holds (leb least_distances d) (le→leb _ _ least),
        holds (is_kind 1 (begun false) 0) (narrow_kind 1 z.places z.signals z.samples rest (fits false few)),
        holds (between 1 most_narrow z.places && recorded) (and_i (between 1 most_narrow z.places) recorded (in_limits 1 most_narrow z.places within.places_some few) is_recorded),
      ))

  pub head_passes : (wide : Bool) (d : ℕ) → z.places ≤ most_of wide → least_distances ≤ d → z.places * z.places ≤ d → head_checked (begun wide) d ≡ accepted z
  unfolding head_checked
  head_passes wide d few least enough = rw (head_layout wide few) (by_layout wide d few least enough)
