-- Looking back (request M-100), from the words of a sheet to the words of its answer: three sheets with codes 12 to 14, worked out by hand from
-- document 02.
use mathlib.Core.Path.{◌≡◌, refl}
use mathlib.Core.List.{List, [], ◌∷◌}
use Prim.Native.Nat.{ℕ}
use lib.ListN.{replicate}
use Rattle.checks.specs.Checked.{refused}
use Rattle.sheet.specs.Layout.{checked}
use Rattle.lookup.specs.Lookup.{whole_places, whole_head, whole_line_at, whole_end, whole_answer, looked_up}
use Rattle.answers.specs.Judged.{judged}
use Rattle.answers.proofs.Computing.{answer_of}

-- ---- lines that begin after sample 0
-- One place, samples 3, -1, 4, 5. Line 0 is "at least 0", line 1 once 1..2 and line 2 historically 1..2 of it, both from sample 2 on; line 3, line 0
-- since line 0 in 0..1, is from sample 1 on.
sheet_late : List ℕ
sheet_late =
    0x10101004 ∷ 0x40000003 ∷ 0x47FFFFFF ∷ 0x40000004 ∷ 0x40000005 ∷ 0x50100000 ∷ 0x80000000 ∷ 0x50D00000 ∷ 0x60000001 ∷ 0x70000002
    ∷ 0x50E00000 ∷ 0x60000001 ∷ 0x70000002 ∷ 0x50C00000 ∷ 0x60000000 ∷ 0x70000001 ∷ 0xF0000010 ∷ []

answer_late : List ℕ
answer_late =
    0xD0104004 ∷ 0xE0000004 ∷ 0x90000003 ∷ 0xAFFFFFFF ∷ 0x90000004 ∷ 0x90000005 ∷ 0xE0002002 ∷ 0x90000003 ∷ 0x90000004 ∷ 0xE0002002
    ∷ 0xAFFFFFFF ∷ 0xAFFFFFFF ∷ 0xE0001003 ∷ 0xAFFFFFFF ∷ 0x90000004 ∷ 0x90000005 ∷ 0xF0000010 ∷ []

late_lines : judged sheet_late 4096 17 ≡ record {
  result = record { number = 0; place = 0; words = 17; rounds = 0; yes = 7 };
  answer = answer_late;
  distances = replicate 4096 0;
}
unfolding answer_of sheet_late answer_late
late_lines = refl

-- samples have the recording's numbers: line 1 has none before sample 2
late_lookup : (looked_up answer_late 1 1 0 ≡ 0) × (looked_up answer_late 1 2 0 ≡ 1)
unfolding answer_of whole_places whole_head whole_line_at whole_end whole_answer looked_up answer_late
late_lookup = (refl, refl)

-- ---- lines without a sample in common
-- Two samples: once 0..1 has the last alone, eventually 0..1 the first alone, and their "and", the line word at 11, none.
sheet_apart : List ℕ
sheet_apart =
    0x10101002 ∷ 0x40000000 ∷ 0x40000000 ∷ 0x50100000 ∷ 0x80000000 ∷ 0x50D00000 ∷ 0x60000000 ∷ 0x70000001 ∷ 0x50900000 ∷ 0x60000000
    ∷ 0x70000001 ∷ 0x50400402 ∷ 0xF000000C ∷ []

none_in_common : checked sheet_apart 4096 ≡ refused 13 11
unfolding answer_of sheet_apart
none_in_common = refl

-- ---- which samples count
-- One place and two signals: 5, 4, 6, 7, -2, 3, 8, 1 and 6, -3, -5, 9, 10, 2, -1, 4. The lines:
-- 0  the first signal at least 0
-- 1  the second at least 0
-- 2  0 since 1, in 1..2, so from sample 2 on. At 2 it is yes by sample 0, the earliest that counts. At 3 it is no: line 1 holds at the present
--    sample, which is too late, and at 0, which is too early. At 4 it is no, as line 0 does not hold at the present sample; at 5, as line 0 does
--    not hold at 4, the last sample that counts. At 6 it is yes by sample 5: that line 0 did not hold at 4 does not matter
-- 3  once 1, in 1..2. At 3 it is no, as line 2 is
-- 4  historically 0, in 1..2. At 4 it is yes, though line 0 does not hold at the present sample; at 6 it is no by sample 4; at 7 that is too early
-- 5  always 0, in 0..2, so up to sample 5
-- 6  2 or 5: from sample 2 to 5
-- 7  3 until 6, in 0..1: from sample 2 to 4
sheet_back : List ℕ
sheet_back =
    0x10102008 ∷ 0x40000005 ∷ 0x40000006 ∷ 0x40000004 ∷ 0x47FFFFFD ∷ 0x40000006 ∷ 0x47FFFFFB ∷ 0x40000007 ∷ 0x40000009 ∷ 0x47FFFFFE
    ∷ 0x4000000A ∷ 0x40000003 ∷ 0x40000002 ∷ 0x40000008 ∷ 0x47FFFFFF ∷ 0x40000001 ∷ 0x40000004 ∷ 0x50100000 ∷ 0x80000000 ∷ 0x50100400
    ∷ 0x80000000 ∷ 0x50C00001 ∷ 0x60000001 ∷ 0x70000002 ∷ 0x50D00400 ∷ 0x60000001 ∷ 0x70000002 ∷ 0x50E00000 ∷ 0x60000001 ∷ 0x70000002
    ∷ 0x50A00000 ∷ 0x60000000 ∷ 0x70000002 ∷ 0x50800805 ∷ 0x50500C06 ∷ 0x60000000 ∷ 0x70000001 ∷ 0xF0000025 ∷ []

points_back : judged sheet_back 4096 57 ≡ record {
  result = record { number = 0; place = 0; words = 57; rounds = 0; yes = 31 };
  answer =
      0xD0108008 ∷ 0xE0000008 ∷ 0x90000005 ∷ 0x90000004 ∷ 0x90000006 ∷ 0x90000007 ∷ 0xAFFFFFFE ∷ 0x90000003 ∷ 0x90000008 ∷ 0x90000001
      ∷ 0xE0000008 ∷ 0x90000006 ∷ 0xAFFFFFFD ∷ 0xAFFFFFFB ∷ 0x90000009 ∷ 0x9000000A ∷ 0x90000002 ∷ 0xAFFFFFFF ∷ 0x90000004 ∷ 0xE0002006
      ∷ 0x90000004 ∷ 0xAFFFFFFD ∷ 0xAFFFFFFE ∷ 0xAFFFFFFE ∷ 0x90000002 ∷ 0x90000001 ∷ 0xE0002006 ∷ 0x90000006 ∷ 0xAFFFFFFD ∷ 0x90000009
      ∷ 0x9000000A ∷ 0x9000000A ∷ 0x90000002 ∷ 0xE0002006 ∷ 0x90000004 ∷ 0x90000004 ∷ 0x90000006 ∷ 0xAFFFFFFE ∷ 0xAFFFFFFE ∷ 0x90000003
      ∷ 0xE0000006 ∷ 0x90000004 ∷ 0x90000004 ∷ 0xAFFFFFFE ∷ 0xAFFFFFFE ∷ 0xAFFFFFFE ∷ 0x90000001 ∷ 0xE0002004 ∷ 0x90000004 ∷ 0xAFFFFFFE
      ∷ 0xAFFFFFFE ∷ 0x90000001 ∷ 0xE0002003 ∷ 0x90000004 ∷ 0xAFFFFFFD ∷ 0x90000001 ∷ 0xF0000038 ∷ [];
  distances = replicate 4096 0;
}
unfolding answer_of sheet_back
points_back = refl
