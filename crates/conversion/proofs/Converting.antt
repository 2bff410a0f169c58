-- What the converter's code decides, step by step: what is known of a valid sheet, and what is left in each case.
use mathlib.Core.Path.{◌≡◌, refl, sym, ap, ap₂, subst, ◌∙◌}
use mathlib.Core.Bool.{Bool}
use mathlib.Core.List.{List}
use Prim.Native.Nat.{ℕ, ◌*◌, ◌<◌, ◌≤◌, ◌^◌}
use native.Mathlib.Omega.{arith}
use Rattle.std.specs.Prelude.{Ok}
use lib.ListN.{length, take}
use lib.Dec.{leb}
use borrow.Author.Tests.{le-leb, lt-leb}
use Rattle.words.specs.Bytes.{words_of}
use Rattle.words.proofs.Puts.{front_take}
use Rattle.checks.specs.Limits.{most_places}
use Rattle.checks.specs.Checked.{accepted, refused, require, mapped}
use Rattle.checks.specs.Heads.{most_of, is_wide, HeadFits}
use Rattle.checks.proofs.Checks.{mapped_accepted, mapped_refused}
use Rattle.roads.specs.Roads.{road_at}
use Rattle.sheet.specs.declared.check.Layout as Code
use Rattle.sheet.specs.Layout.{Layout, validated}
use Rattle.sheet.specs.Checking.{layout_of}
use Rattle.sheet.proofs.Whole.{AcceptedSheet, accepted_sheet, few_words}
use Rattle.sheet.proofs.HeadWords.{sizes_fit}
use Rattle.tool.specs.Tool.{refusal, whole, left, Makes}
use Rattle.tool.proofs.Leaving.{room_for, no_room_for, same_words, words_made}
use Rattle.conversion.specs.Relaid.{relaid, converted}
use Rattle.conversion.specs.Lent.{converted_in, spelled, relaid_in, words_in, sheet_put, Ready}
use Rattle.conversion.proofs.Words.{relaid_length}

module _ (to : Bool) (sheet output : List ℕ) where
  abbrev s : List ℕ
  s = words_of sheet

  abbrev room : ℕ
  room = length (words_of output)

  pub turned_back : {number place : ℕ} → mapped (layout_of s) (validated s) ≡ refused number place → converted_in to sheet output ≡ refusal room number place
  unfolding converted left
  turned_back e = simp (mapped_refused (layout_of s) (validated s) e)

  -- a valid sheet, with the layout that the code has found
  module _ (layout : Code.Layout) (e : mapped (layout_of s) (validated s) ≡ accepted layout) where
    abbrev found : (L : Layout) × (validated s ≡ accepted L) × (layout_of s L ≡ layout)
    found = mapped_accepted (layout_of s) (validated s) e

    valid : AcceptedSheet s (most_places * most_places) found.0
    unfolding validated
    valid = accepted_sheet s (most_places * most_places) found.0 found.1

    pub known : (layout.recording ≡ road_at (is_wide s) layout.roads) × (layout.recording < length s) × (length s < 2 ^ 26)
    known = subst (λ (l : Code.Layout). (l.recording ≡ road_at (is_wide s) l.roads) × (l.recording < length s) × (length s < 2 ^ 26)) found.2
        (refl, omega (arith, valid.table_there), few_words s (most_places * most_places) found.0 valid)

    -- what is to be made of it
    pub made_length : length (relaid_in to sheet layout) ≡ words_in to sheet layout
    made_length = relaid_length to s (spelled layout) (omega (arith, known)) ∙ omega (arith, known)

    decided : converted_in to sheet output ≡ left (require (leb layout.places (most_of to)) 18 0 (accepted (relaid_in to sheet layout))) (length s) room
    unfolding converted relaid
    decided = simp found.1 (ap (λ (l : Code.Layout). left (require (leb l.places (most_of to)) 18 0 (accepted (relaid to s (spelled l)))) (length s) room) found.2)

    pub too_many : most_of to < layout.places → converted_in to sheet output ≡ refusal room 18 0
    unfolding left
    too_many many = decided ∙ simp (lt-leb layout.places (most_of to) many)

    module _ (few : layout.places ≤ most_of to) where
      pub too_short : room < words_in to sheet layout → converted_in to sheet output ≡ refusal room 15 (length s)
      too_short short = decided ∙ simp (le-leb layout.places (most_of to) few) (no_room_for (relaid_in to sheet layout) (length s) room (omega (arith, made_length)))

      pub enough : words_in to sheet layout ≤ room → converted_in to sheet output ≡ whole room (relaid_in to sheet layout)
      enough fits = decided ∙ simp (le-leb layout.places (most_of to) few) (room_for (relaid_in to sheet layout) (length s) room (omega (arith, made_length)))

      pub ready : words_in to sheet layout ≤ room → Ready to sheet layout output
      ready fits = record {
        begins = known.0;
        inside = known.1;
        short = known.2;
        fits = subst (λ (l : Code.Layout). l.places ≤ most_of to → HeadFits 1 to l.places l.signals l.samples) found.2 (sizes_fit found.0.sizes to valid.sizes) few;
        room = fits;
      }

      -- the words that were written are those that are to be left
      pub sheet_made : words_in to sheet layout ≤ room → (after : List ℕ) {count : ℕ} → count ≡ words_in to sheet layout → length after ≡ length output → words_of after ≡ sheet_put to sheet layout output
          → Makes (converted_in to sheet output) (Ok count) (words_of after)
      sheet_made fits after {count} counted long written =
          let made = relaid_in to sheet layout in
          let all : count ≡ length made = counted ∙ sym made_length in
          words_made (converted_in to sheet output) made count room (words_of after) (same_words after output long) all (omega (arith, counted))
          (ap₂ take all written ∙ front_take (words_of output) made (length made) refl) (enough fits)

-- by these the code decides
pub ruleset decisions = (turned_back, known, too_many, too_short)
