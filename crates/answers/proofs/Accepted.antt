-- What the number 0 of a result says: the sheet was accepted and answered, and its answer says at every line, sample and place what is meant.
use mathlib.Core.Path.{◌≡◌, refl, sym, ap, subst, ◌∙◌}
use mathlib.Core.Bool.{Bool, true, false, cond}
use mathlib.Core.List.{List}
use Prim.Native.Nat.{ℕ, ◌-◌, ◌^◌, ◌<◌, ◌≤◌}
use native.Mathlib.Omega.{arith}
use lib.Dec.{T, leb}
use lib.ListN.{length}
use Rattle.logic.proofs.Counts.{rounds_at_most_places}
use Rattle.checks.specs.Limits.{most_lines}
use Rattle.checks.specs.Checked.{Checked, accepted, refused}
use Rattle.checks.specs.Heads.{most_of, is_wide}
use Rattle.lines.specs.GoodLines.{GoodLines}
use Rattle.sheet.specs.Layout.{Layout, checked}
use Rattle.roads.specs.Roads.{road_at}
use Rattle.sheet.specs.Recording.{network, recording}
use Rattle.sheet.specs.Checking.{layout_of}
use Rattle.sheet.proofs.Accepted.{SizesWithin}
use Rattle.sheet.proofs.Whole.{AcceptedSheet, accepted_sheet}
use Rattle.lines.proofs.AcceptedLines.{good_end, table_good, good_constants}
use Rattle.sheet.proofs.Samples.{recording_bits}
use Rattle.checks.proofs.Numbered.{Numbered, refuses}
use Rattle.sheet.proofs.RefusalNumbers.{any_number, check_numbered}
use Rattle.answers.specs.Meant.{meant_at}
use Rattle.answers.specs.Answer.{words_needed}
use Rattle.answers.specs.Judged.{Judged, refusal, answered, judged_by, judged}
use Rattle.lookup.specs.Lookup.{verdict_number, whole_answer, said_at, looked_up}
use Rattle.lookup.proofs.Exactly.{whole_looked}
use Rattle.answers.proofs.AnswerHead.{InFields}
use Rattle.answers.proofs.AnswerSays.{answer_says}
use Rattle.answers.proofs.WholeAnswer.{InAnswer, answer_whole}

pub record Answered (s : List ℕ) (distances answer : ℕ) : Type 0 where
  pub layout : Layout
  pub found : checked s distances ≡ accepted layout
  pub left : judged s distances answer ≡ answered s distances answer layout

number_zero : (number : ℕ) → T (any_number number) → number ≡ 0 → ⊥
number_zero number h e = subst (λ k. T (any_number k)) e h

module _ (s : List ℕ) (distances answer : ℕ) where
  -- a sheet that the check accepts is answered where there is room, and refused with 15 otherwise
  pub judged_by_room : {L : Layout} {enough : Bool} → checked s distances ≡ accepted L → leb (words_needed (is_wide s) (L.sizes.places) (L.lines)) answer ≡ enough
      → judged s distances answer ≡ cond enough (answered s distances answer L) (refusal distances answer 15 (length s))
  unfolding judged
  judged_by_room {L} c e = ap (judged_by s distances answer) c ∙ ap (λ (b : Bool). cond b (answered s distances answer L) (refusal distances answer 15 (length s))) e

  by_room : (L : Layout) → checked s distances ≡ accepted L → (judged s distances answer).result.number ≡ 0 → Answered s distances answer
  by_room L c z = go (leb (words_needed (is_wide s) (L.sizes.places) (L.lines)) answer) refl
    where
      go : (t : Bool) → leb (words_needed (is_wide s) (L.sizes.places) (L.lines)) answer ≡ t → Answered s distances answer
      go true e = record { layout = L; found = c; left = judged_by_room c e }
      go false e = absurd (let fifteen : ◌≡◌ {A = ℕ} 15 0 = sym (ap (λ j. j.result.number) (judged_by_room c e)) ∙ z in omega arith)

  pub accepted_answered : (judged s distances answer).result.number ≡ 0 → Answered s distances answer
  unfolding judged
  accepted_answered z = go (checked s distances) refl (check_numbered s distances)
    where
      go : (c : Checked Layout) → checked s distances ≡ c → Numbered any_number c → Answered s distances answer
      go (accepted L) e n = by_room L e z
      go (refused number place) e (refuses n) = absurd (number_zero number n (sym (ap (λ (c : Checked Layout). (judged_by s distances answer c).result.number) e) ∙ z))

-- as many places as a layout may have stand in its field
in_field : (wide : Bool) {n : ℕ} → n ≤ most_of wide → n < cond wide (2 ^ 16) (2 ^ 8)
in_field true h = omega arith
in_field false h = omega arith

module _ (s : List ℕ) (distances : ℕ) (L : Layout) (sheet : AcceptedSheet s distances L) where
  limits : SizesWithin (L.sizes)
  limits = sheet.sizes

  pub table : GoodLines (L.sizes.signals) (L.sizes.samples) most_lines (L.lines)
  table = table_good s (L.sizes.signals) (L.sizes.samples) (layout_of s L).table (L.lines, length s - 1) sheet.table

  pub fields : InFields (is_wide s) (L.sizes.places) (L.sizes.samples) (L.lines)
  fields = record {
    head = record {
      kind_fits = omega arith;
      places_fit = in_field (is_wide s) sheet.few;
      count_fits = omega (arith, table.bound);
      samples_fit = omega (arith, limits.samples_most);
    };
    ends = λ i. omega (arith, good_end (L.sizes.signals) (L.sizes.samples) (L.lines) table.good i, limits.samples_most);
  }

  -- the answer says what is meant, and nothing elsewhere
  pub answered_says : (answer i t l : ℕ) → said_at (answered s distances answer L).answer i t l ≡ meant_at (network s L) (recording s L) (L.lines) i t l
  unfolding answered network recording
  answered_says answer = answer_says (is_wide s) (network s L) (L.sizes.samples) (recording s L) (L.lines) answer fields
      (recording_bits s (road_at (is_wide s) (L.roads)) (L.sizes.places) (L.sizes.signals))
      (good_constants (L.sizes.signals) (L.sizes.samples) (L.lines) table.good)

  pub sizes : InAnswer (is_wide s) (L.sizes.places) (L.sizes.samples) (L.lines)
  sizes = record {
    places = (limits.places_some, sheet.few);
    samples = (limits.samples_some, limits.samples_most);
    count = (table.some, table.bound);
    extents = λ i h. ((table.good i h).some, (table.good i h).ends);
  }

  whole : (answer : ℕ) → T (whole_answer (answered s distances answer L).answer)
  unfolding answered network recording
  whole answer = answer_whole (is_wide s) (network s L) (L.sizes.samples) (recording s L) (L.lines) answer fields
      (recording_bits s (road_at (is_wide s) (L.roads)) (L.sizes.places) (L.sizes.signals))
      (good_constants (L.sizes.signals) (L.sizes.samples) (L.lines) table.good) sizes

  -- so the lookup gives the verdict that is meant, and 0 elsewhere
  pub answered_lookup : (answer i t l : ℕ)
      → looked_up (answered s distances answer L).answer i t l ≡ verdict_number (meant_at (network s L) (recording s L) (L.lines) i t l)
  answered_lookup answer i t l =
      whole_looked (answered s distances answer L).answer i t l (whole answer)
      ∙ ap verdict_number (answered_says answer i t l)

  -- rounds are at most n
  pub answered_rounds : (answer : ℕ) → (answered s distances answer L).result.rounds ≤ L.sizes.places
  unfolding answered network
  answered_rounds answer = rounds_at_most_places (network s L) (recording s L) (L.lines) limits.places_some

-- ---- a sheet that is judged with the number 0
module _ (s : List ℕ) (distances answer : ℕ) (z : (judged s distances answer).result.number ≡ 0) where
  abbrev found : Answered s distances answer
  found = accepted_answered s distances answer z

  pub sheet_found : AcceptedSheet s distances found.layout
  sheet_found = accepted_sheet s distances found.layout found.found

  -- what the check has found
  abbrev pub layout_found : Layout
  layout_found = found.layout

  pub judged_rounds : (judged s distances answer).result.rounds ≤ layout_found.sizes.places
  judged_rounds = subst (λ (j : Judged). j.result.rounds ≤ layout_found.sizes.places) (sym found.left)
      (answered_rounds s distances layout_found sheet_found answer)

  pub judged_lookup : (i t l : ℕ)
      → looked_up (judged s distances answer).answer i t l ≡ verdict_number (meant_at (network s layout_found) (recording s layout_found) layout_found.lines i t l)
  judged_lookup i t l = ap (λ (j : Judged). looked_up j.answer i t l) found.left ∙ answered_lookup s distances layout_found sheet_found answer i t l
