-- What the tool's code decides, step by step: what is known of a valid sheet and of a list that has passed, and what is left in each case.
use mathlib.Core.Path.{◌≡◌, refl, sym, ap, subst, ◌∙◌}
use Rattle.std.specs.Prelude.{Ok}
use mathlib.Core.List.{List}
use mathlib.Core.Bool.{Bool, true, false, not}
use Prim.Native.Nat.{ℕ, zero, suc, ◌*◌, ◌<◌, ◌≤◌}
use native.Mathlib.Omega.{arith}
use lib.ListN.{length, take}
use Rattle.words.specs.Bytes.{words_of}
use Rattle.words.proofs.Rows.{length-row}
use Rattle.checks.specs.Limits.{most_places}
use Rattle.checks.specs.Checked.{Checked, accepted, refused, ◌>>=◌, require, mapped}
use Rattle.checks.proofs.Checks.{mapped_accepted, mapped_refused}
use Rattle.sheet.specs.declared.check.Layout as Code
use Rattle.sheet.specs.Layout.{Layout, validated}
use Rattle.sheet.specs.Checking.{layout_of}
use Rattle.sheet.proofs.Whole.{AcceptedSheet, accepted_sheet, few_words}
use Rattle.tool.specs.Tool.{refusal, whole, left, Makes}
use Rattle.tool.proofs.Leaving.{room_for, no_room_for, same_words, words_made}
use Rattle.corrections.specs.declared.correction.Grid.{Grid}
use Rattle.corrections.specs.Corrections.{count, well_formed, disagrees_with, agrees, in_turn, list_checked}
use Rattle.corrections.specs.Aimed.{GridFits, AllAimed}
use Rattle.corrections.proofs.Aiming.{all_aimed}
use Rattle.correcting.specs.Corrected.{grid_of, corrected_words, corrected}
use Rattle.correcting.specs.Lent.{corrected_in, applied_in, grid_in, Targets, NoRevisions}
use Rattle.correcting.proofs.Targets.{target_inside, target_sample}

module _ (sheet list output : List ℕ) where
  abbrev s : List ℕ
  s = words_of sheet

  abbrev c : List ℕ
  c = words_of list

  abbrev room : ℕ
  room = length (words_of output)

  -- ---- a list that has passed 19
  module _ (g : Grid) where
    pub clashes : {n number index : ℕ} → n ≡ count c → in_turn (agrees c g) n ≡ refused number index → applied_in sheet list output g ≡ refusal room number index
    unfolding left
    clashes all e = let told = ap (in_turn (agrees c g)) (sym all) ∙ e in simp told

    -- two that disagree are 20: for those who tell the number anew, as must-fail/clash_among_faults
    one_disagrees : (agreed : Bool) (k : ℕ) {number index : ℕ} → ◌≡◌ {A = Checked (Unit {0})} (require agreed 20 k (accepted tt)) (refused number index) → number ≡ 20
    one_disagrees true k e = cc
    one_disagrees false k e = cc

    pub clash_number : (n : ℕ) {number index : ℕ} → in_turn (agrees c g) n ≡ refused number index → number ≡ 20
    unfolding in_turn agrees
    clash_number zero e = cc
    clash_number (suc k) {number} {index} e = by (λ told. clash_number k told) (in_turn (agrees c g) k) refl e
      where
        by : (in_turn (agrees c g) k ≡ refused number index → number ≡ 20) → (before : Checked (Unit {0})) → in_turn (agrees c g) k ≡ before → (before >>= λ _. agrees c g k) ≡ refused number index → number ≡ 20
        by earlier (accepted _) before e = one_disagrees (not (disagrees_with c g k k)) (k * 3) e
        by earlier (refused _ _) before e = earlier (before ∙ e)

    pub corrected_length : length (corrected_words s c g) ≡ length s
    unfolding corrected_words
    corrected_length = length-row _ (length s)

    module _ (agree : in_turn (agrees c g) (count c) ≡ accepted tt) where
      pub too_short : room < length s → applied_in sheet list output g ≡ refusal room 15 (length s)
      too_short short = simp agree (no_room_for (corrected_words s c g) (length s) room (omega (arith, corrected_length)))

      pub enough : length s ≤ room → applied_in sheet list output g ≡ whole room (corrected_words s c g)
      enough fits = simp agree (room_for (corrected_words s c g) (length s) room (omega (arith, corrected_length)))

    -- where no two disagree and there is room, the words that were written are those that are to be left
    pub sheet_made : {n : ℕ} → n ≡ count c → in_turn (agrees c g) n ≡ accepted tt → length s ≤ room → (after : List ℕ) {made : ℕ} → made ≡ length s → length after ≡ length output
        → take (length s) (words_of after) ≡ corrected_words s c g → Makes (applied_in sheet list output g) (Ok made) (words_of after)
    sheet_made all agreed fits after {made} counted long written =
        words_made (applied_in sheet list output g) (corrected_words s c g) made room (words_of after) (same_words after output long)
        (counted ∙ sym corrected_length) (omega (arith, counted)) (ap (λ n. take n (words_of after)) counted ∙ written)
        (enough (ap (in_turn (agrees c g)) (sym all) ∙ agreed) fits)

  -- ---- the sheet first, then 19
  pub turned_back : {number place : ℕ} → mapped (layout_of s) (validated s) ≡ refused number place → corrected_in sheet list output ≡ refusal room number place
  unfolding corrected left
  turned_back e = simp (mapped_refused (layout_of s) (validated s) e)

  -- a valid sheet, with the layout that the code has found
  module _ (layout : Code.Layout) (e : mapped (layout_of s) (validated s) ≡ accepted layout) where
    abbrev found : (L : Layout) × (validated s ≡ accepted L) × (layout_of s L ≡ layout)
    found = mapped_accepted (layout_of s) (validated s) e

    decided : corrected_in sheet list output ≡ left (list_checked c (grid_in layout) >>= λ _. accepted (corrected_words s c (grid_in layout))) (length s) room
    unfolding corrected
    decided =
        ap (λ checked. left (checked >>= λ L. list_checked c (grid_of s L) >>= λ _. accepted (corrected_words s c (grid_of s L))) (length s) room) found.1
        ∙ ap (λ (l : Code.Layout). left (list_checked c (grid_in l) >>= λ _. accepted (corrected_words s c (grid_in l))) (length s) room) found.2

    pub faulty : {number index : ℕ} → in_turn (well_formed c (grid_in layout)) (count c) ≡ refused number index → corrected_in sheet list output ≡ refusal room number index
    unfolding list_checked left
    faulty told = decided ∙ simp told

    valid : AcceptedSheet s (most_places * most_places) found.0
    unfolding validated
    valid = accepted_sheet s (most_places * most_places) found.0 found.1

    abbrev Lists : Code.Layout → Type 0
    Lists l = AllAimed c (grid_in l) (count c) → Targets c (grid_in l) (count c) s × NoRevisions c (grid_in l) s

    -- the samples stand where the grid says
    aimed_targets : Lists (layout_of s found.0)
    aimed_targets aimed = (
      record { all = refl; inside = λ k h. target_inside s (most_places * most_places) found.0 valid c k (aimed k h) },
      λ k h. omega (arith, (target_sample s (most_places * most_places) found.0 valid c k (aimed k h)).kind),
    )

    pub grid_fits : GridFits (grid_in layout)
    grid_fits = subst (λ (l : Code.Layout). GridFits (grid_in l)) found.2 (record {
      begins = omega (arith, valid.table_there, few_words s (most_places * most_places) found.0 valid);
      few_places = valid.sizes.places_most;
      few_signals = valid.sizes.signals_most;
    })

    module _ (passed : in_turn (well_formed c (grid_in layout)) (count c) ≡ accepted tt) where
      pub list_passed : corrected_in sheet list output ≡ applied_in sheet list output (grid_in layout)
      unfolding list_checked
      list_passed = decided ∙ simp passed

      pub list_aimed : AllAimed c (grid_in layout) (count c)
      list_aimed = all_aimed c (grid_in layout) (count c) passed

      pub list_targets : Targets c (grid_in layout) (count c) s × NoRevisions c (grid_in layout) s
      list_targets = subst Lists found.2 aimed_targets list_aimed

    -- the same of the grid and the count that the code has
    pub list_known : {g : Grid} {n : ℕ} → g ≡ grid_in layout → n ≡ count c → in_turn (well_formed c g) (count c) ≡ accepted tt → AllAimed c g n × GridFits g
    list_known same all passed = rw (same, all) (list_aimed (rw same at passed), grid_fits)

-- by these the code decides
pub ruleset decisions = (turned_back, faulty, grid_fits, list_aimed, list_passed, list_targets)
