-- Request M-107 on a worked list: example A with three corrections, of which the second exceeds the first; one that disagrees below the highest revision; and
-- which refusal comes first.
use mathlib.Core.Path.{◌≡◌, refl}
use mathlib.Core.List.{List, [], ◌∷◌, ◌++◌}
use Prim.Native.Nat.{ℕ}
use lib.ListN.{take}
use Rattle.words.specs.Rows.{put}
use Rattle.checks.specs.Checked.{accepted, refused}
use Rattle.sheet.specs.Layout.{validated}
use Rattle.answers.proofs.Computing.{answer_of}
use Rattle.answers.proofs.Examples.{sheet_A}
use Rattle.tool.specs.Tool.{refusal, left}
use Rattle.corrections.specs.Corrections.{in_turn, well_formed, disagrees_with, agrees, list_checked}
use Rattle.correcting.specs.Corrected.{word_after, corrected_words, corrected}

-- time 1 at place 0 to 8, and by a higher revision to -8; time 0 at place 1 to 3
pub three : List ℕ
three = 0xB0100001 ∷ 0xC0000000 ∷ 0x40000008 ∷ 0xB0200001 ∷ 0xC0000000 ∷ 0x47FFFFF8 ∷ 0xB0100000 ∷ 0xC0000001 ∷ 0x40000003 ∷ []

-- time 1 at place 0 to 7, by the lower of the revisions that were there
pub fourth : List ℕ
fourth = 0xB0100001 ∷ 0xC0000000 ∷ 0x40000007 ∷ []

pub highest_counts : corrected sheet_A three ≡ accepted (put sheet_A 4 (0x40000003 ∷ 0x47FFFFF8 ∷ []))
unfolding answer_of validated in_turn well_formed disagrees_with agrees list_checked word_after corrected_words corrected put three
highest_counts = refl

-- no correction at all, and one twice
pub as_it_was : (corrected sheet_A [] ≡ accepted sheet_A) × (corrected sheet_A (three ++ three) ≡ corrected sheet_A three)
unfolding answer_of validated in_turn well_formed disagrees_with agrees list_checked word_after corrected_words corrected three
as_it_was = (refl, refl)

pub clash_below : corrected sheet_A (three ++ fourth) ≡ refused 20 9
unfolding answer_of validated in_turn well_formed disagrees_with agrees list_checked word_after corrected_words corrected three fourth
clash_below = refl

-- revision 0; cut off; both after two that disagree
pub faulty_first : (corrected sheet_A (0xB0000001 ∷ 0xC0000000 ∷ 0x40000008 ∷ []) ≡ refused 19 0) × (corrected sheet_A (take 8 three) ≡ refused 19 8)
    × (corrected sheet_A (three ++ fourth ++ (0xB0100001 ∷ [])) ≡ refused 19 13)
unfolding answer_of validated in_turn well_formed disagrees_with agrees list_checked word_after corrected_words corrected three fourth
faulty_first = (refl, refl, refl)

-- the sheet's own fault before the list's, 20 before 15, and 15 at the length of the sheet
pub in_order : (corrected (take 18 sheet_A) fourth ≡ refused 14 18) × (left (corrected sheet_A (three ++ fourth)) 19 0 ≡ refusal 0 20 9) × (left (corrected sheet_A three) 19 18 ≡ refusal 18 15 19)
unfolding answer_of validated in_turn well_formed disagrees_with agrees list_checked word_after corrected_words corrected left three fourth
in_order = (refl, refl, refl)
