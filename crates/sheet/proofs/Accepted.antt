-- What the acceptance of each part tells: limits, places of the words, and what was found.
use Prim.Native.Nat.{ℕ, zero, suc, ◌+◌, ◌*◌, ◌≤◌, ◌^◌}
use mathlib.Core.Bool.{Bool, true, false, cond, ◌&&◌}
use mathlib.Core.List.{List}
use mathlib.Core.Path.{◌≡◌, refl, subst}
use native.Mathlib.Nat.{mul-le-mul}
use native.Mathlib.Omega.{arith}
use lib.Dec.{leb, eqb}
use lib.ListN.{length}
use borrow.Author.Tests.{leb-true, eqb-true}
use Rattle.words.specs.Word.{bits, payload_of, word_of}
use Rattle.checks.specs.Limits.{most_places, most_narrow, most_signals, most_samples, least_distances}
use Rattle.checks.specs.Checked.{accepted, require, between, word_at, is_kind}
use Rattle.checks.specs.Heads.{most_of, is_wide, places_of, wide_counted, wide_followed}
use Rattle.sheet.specs.Layout.{Sizes, sample_count, sizes_of, narrow_checked, wide_checked, head_checked, samples_from, end_checked}
use Rattle.checks.specs.Checked.{mapped}
use Rattle.checks.proofs.Checks.{same_accepted, require_accepted}
use Rattle.checks.proofs.Tests.{and_true, kind_told}

-- ---- head

pub record SizesWithin (z : Sizes) : Type 0 where
  pub places_some : 1 ≤ z.places
  pub places_most : z.places ≤ most_places
  pub signals_some : 1 ≤ z.signals
  pub signals_most : z.signals ≤ most_signals
  pub samples_some : 1 ≤ z.samples
  pub samples_most : z.samples ≤ most_samples

between_told : (low high x : ℕ) → between low high x ≡ true → (low ≤ x) × (x ≤ high)
between_told low high x e =
    let both = and_true (leb low x) (leb x high) e in
    (leb-true _ _ both.0, leb-true _ _ both.1)

module _ (s : List ℕ) where
  abbrev signals : Bool
  signals = between 1 most_signals (sizes_of s).signals

  abbrev samples : Bool
  samples = between 1 most_samples (sizes_of s).samples

  within : (1 ≤ (sizes_of s).places) × ((sizes_of s).places ≤ most_places) → (signals && samples) ≡ true → SizesWithin (sizes_of s)
  within p e =
      let rest = and_true signals samples e in
      let v = between_told 1 most_signals (sizes_of s).signals rest.0 in
      let t = between_told 1 most_samples (sizes_of s).samples rest.1 in
      record {
        places_some = p.0;
        places_most = p.1;
        signals_some = v.0;
        signals_most = v.1;
        samples_some = t.0;
        samples_most = t.1;
      }

  -- what a head that passed tells: the sizes are those that it says, in their limits, and the distances of all places were lent
  abbrev Passed : ℕ → Sizes → Type 0
  Passed d z = (sizes_of s ≡ z) × SizesWithin (sizes_of s) × ((sizes_of s).places * (sizes_of s).places ≤ d) × ((sizes_of s).places ≤ most_of (is_wide s))

  narrow_passed : (d : ℕ) {z : Sizes} → is_wide s ≡ false → narrow_checked s d ≡ accepted z → Passed d z
  unfolding narrow_checked
  narrow_passed d narrow e =
      let enough = require_accepted (leb least_distances d) 1 0 _ e in
      let kind = require_accepted (is_kind 1 s 0) 2 0 _ enough.1 in
      let places = between 1 most_narrow (sizes_of s).places in
      let limits = require_accepted (places && (signals && samples)) 3 0 _ kind.1 in
      let first = and_true places (signals && samples) limits.0 in
      let p = between_told 1 most_narrow (sizes_of s).places first.0 in
      (same_accepted limits.1, within (p.0, omega arith) first.1, omega (arith, mul-le-mul p.1 p.1, leb-true least_distances d enough.0), rw narrow p.1)

  wide_passed : (d : ℕ) {z : Sizes} → is_wide s ≡ true → wide_checked s d ≡ accepted z → Passed d z
  unfolding wide_checked wide_counted sizes_of places_of
  wide_passed d wide e =
      let n : ℕ = bits 0 16 (word_at s 0) in
      let counted = require_accepted (between 1 most_places n && eqb (bits 16 12 (word_at s 0)) 0) 17 0 _ e in
      let followed = require_accepted (wide_followed s 1) 17 1 _ counted.1 in
      let limits = require_accepted (signals && samples) 3 1 _ followed.1 in
      let enough = require_accepted (leb ((sizes_of s).places * (sizes_of s).places) d) 1 0 _ limits.1 in
      let places : (sizes_of s).places ≡ n = rw wide refl in
      let p = between_told 1 most_places n (and_true (between 1 most_places n) _ counted.0).0 in
      (same_accepted enough.1, within (rw places p) limits.0, leb-true _ _ enough.0, rw wide p.1)

  pub head_passed : (d : ℕ) {z : Sizes} → head_checked s d ≡ accepted z → Passed d z
  unfolding head_checked
  head_passed d {z} = go (is_wide s) refl
    where
      go : (wide : Bool) → is_wide s ≡ wide → cond wide (wide_checked s d) (narrow_checked s d) ≡ accepted z → Passed d z
      go true wide e = wide_passed d wide e
      go false wide e = narrow_passed d wide e

  pub head_accepted : (d : ℕ) {z : Sizes} → head_checked s d ≡ accepted z → SizesWithin z
  head_accepted d e = let passed = head_passed d e in subst SizesWithin passed.0 passed.1

pub sample_count_lem : {z : Sizes} → SizesWithin z → (z.signals * z.places ≤ 2 ^ 14) × (sample_count z ≤ 2 ^ 24)
sample_count_lem within =
    let pairs = mul-le-mul within.signals_most within.places_most in
    (pairs, mul-le-mul pairs within.samples_most)

-- ---- samples

pub samples_end : (s : List ℕ) (count at : ℕ) {next : ℕ} → samples_from s count at ≡ accepted next → next ≡ at + count
unfolding samples_from
samples_end s zero at e = let same = same_accepted e in omega arith
samples_end s (suc count) at e =
    let kind = require_accepted (is_kind 4 s at) 8 at _ e in
    let bit = require_accepted (eqb (bits 27 1 (word_at s at)) 0) 9 at _ kind.1 in
    let rest = samples_end s count (at + 1) bit.1 in
    omega arith

-- ---- end

pub end_accepted : {A : Type 0} (s : List ℕ) (at : ℕ) (found : A) {layout : A} → end_checked s at found ≡ accepted layout
    → (length s ≡ at + 1) × (found ≡ layout) × (word_at s at ≡ word_of 15 at)
unfolding end_checked
end_accepted s at found e =
    let word = require_accepted (is_kind 15 s at && eqb (payload_of (word_at s at)) at) 14 at _ e in
    let last = require_accepted (eqb (length s) (at + 1)) 14 (at + 1) _ word.1 in
    let both = and_true (is_kind 15 s at) (eqb (payload_of (word_at s at)) at) word.0 in
    (eqb-true _ _ last.0, same_accepted last.1, omega (arith, (kind_told 15 s at both.0).1, eqb-true (payload_of (word_at s at)) at both.1))

-- the end is checked alike whatever was found before it
pub end_mapped : {A B : Type 0} (f : A → B) (s : List ℕ) (at : ℕ) (a : A) → mapped f (end_checked s at a) ≡ end_checked s at (f a)
unfolding end_checked
end_mapped f s at a = by (is_kind 15 s at && eqb (payload_of (word_at s at)) at) (eqb (length s) (at + 1))
  where
    by : (word last : Bool) → mapped f (require word 14 at (require last 14 (at + 1) (accepted a)))
        ≡ require word 14 at (require last 14 (at + 1) (accepted (f a)))
    by false last = refl
    by true false = refl
    by true true = refl
