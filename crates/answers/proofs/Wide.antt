-- Request M-104: example A laid out wide. The answer is example A's behind the word of the places, a lookup in it gives the same verdicts, and one distance
-- fewer than the places squared is 1.
use mathlib.Core.Path.{◌≡◌, refl}
use mathlib.Core.List.{List, [], ◌∷◌, ◌++◌}
use Prim.Native.Nat.{ℕ}
use Rattle.lookup.specs.Lookup.{whole_places, whole_head, whole_line_at, whole_end, whole_answer, looked_up}
use Rattle.answers.specs.Judged.{refusal, judged}
use Rattle.answers.proofs.Computing.{answer_of}

abbrev pub sheet_wide : List ℕ
sheet_wide = 0xA0000002 ∷ 0x10001002 ∷ 0x20000001 ∷ 0x30000003 ∷ 0x40000005 ∷ 0x47FFFFFE ∷ 0x40000001 ∷ 0x40000004 ∷ 0x50100000 ∷ 0x80000000 ∷ 0x50900000 ∷ 0x60000000 ∷ 0x70000001
    ∷ 0x50600000 ∷ 0x60000001 ∷ 0x70000003 ∷ 0x50700800 ∷ 0x60000000 ∷ 0x70000003 ∷ 0xF0000013 ∷ []

answer_wide : List ℕ
answer_wide = 0xA0000002 ∷ 0xD0004002 ∷ 0xE0000002 ∷ 0x90000005 ∷ 0xAFFFFFFE ∷ 0x90000001 ∷ 0x90000004 ∷ 0xE0000001 ∷ 0x90000005 ∷ 0x90000004
    ∷ 0xE0000002 ∷ 0xAFFFFFFE ∷ 0x90000005 ∷ 0x90000004 ∷ 0x90000001 ∷ 0xE0000002 ∷ 0xAFFFFFFE ∷ 0x90000005 ∷ 0x90000004 ∷ 0x90000001 ∷ 0xF0000014 ∷ []

-- with four distances and a word more than is needed
wide_judged : judged sheet_wide 4 22 ≡ record {
  result = record { number = 0; place = 0; words = 21; rounds = 1; yes = 11 };
  answer = answer_wide ++ (0 ∷ []);
  distances = 0 ∷ 3 ∷ 3 ∷ 0 ∷ [];
}
unfolding answer_of answer_wide
wide_judged = refl

wide_lookup : (looked_up answer_wide 0 0 0 ≡ 1) × (looked_up answer_wide 0 0 1 ≡ 2) × (looked_up answer_wide 3 1 1 ≡ 1) × (looked_up answer_wide 0 0 2 ≡ 0)
unfolding answer_of whole_places whole_head whole_line_at whole_end whole_answer looked_up answer_wide
wide_lookup = (refl, refl, refl, refl)

wide_short : (judged sheet_wide 3 64 ≡ refusal 3 64 1 0) × (judged sheet_wide 4 20 ≡ refusal 4 20 15 20)
unfolding answer_of
wide_short = (refl, refl)
