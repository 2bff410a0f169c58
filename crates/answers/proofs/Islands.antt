-- Islands (request M-101), from the words of a sheet to the words of its answer: codes 7 and 15 side by side, worked out by hand from document 02.
use mathlib.Core.Path.{◌≡◌, refl}
use mathlib.Core.List.{List, [], ◌∷◌}
use Prim.Native.Nat.{ℕ}
use lib.ListN.{replicate}
use Rattle.answers.specs.Judged.{judged}
use Rattle.answers.proofs.Computing.{answer_of}

-- Two places with a road of 1 and two signals: 5 and 6, 3 and 4. The lines:
-- 0  the first signal at least 0
-- 1  the second at least 0
-- 2  0 surrounded by 1, in 0..9, with code 7. Both places together have no boundary, so each place alone is its only region: 5 with 4 on the
--    boundary, and 6 with 3. The one run about a place comes there in a step, so it has 2 rounds
-- 3  the same with code 15: both places together are a region of either, with 5. From 5 and 6 a step brings the iteration there, so it has 2 rounds too
sheet_pair : List ℕ
sheet_pair =
    0x10202001 ∷ 0x20000001 ∷ 0x30000001 ∷ 0x40000005 ∷ 0x40000003 ∷ 0x40000006 ∷ 0x40000004 ∷ 0x50100000 ∷ 0x80000000 ∷ 0x50100400
    ∷ 0x80000000 ∷ 0x50700001 ∷ 0x60000000 ∷ 0x70000009 ∷ 0x50F00001 ∷ 0x60000000 ∷ 0x70000009 ∷ 0xF0000011 ∷ []

pair : judged sheet_pair 4096 14 ≡ record {
  result = record { number = 0; place = 0; words = 14; rounds = 2; yes = 8 };
  answer =
      0xD0204001 ∷ 0xE0000001 ∷ 0x90000005 ∷ 0x90000006 ∷ 0xE0000001 ∷ 0x90000003 ∷ 0x90000004 ∷ 0xE0000001 ∷ 0x90000004 ∷ 0x90000003
      ∷ 0xE0000001 ∷ 0x90000005 ∷ 0x90000005 ∷ 0xF000000D ∷ [];
  distances = 0 ∷ 1 ∷ 1 ∷ 0 ∷ replicate 4092 0;
}
unfolding answer_of sheet_pair
pair = refl
