-- One-way roads (request M-106), from the words of a sheet to the words of its answer, worked out by hand from document 02: distances from a row's place, places
-- that are reached one way only, and boundaries to which a road leads out of a region.
use mathlib.Core.Path.{◌≡◌, refl}
use mathlib.Core.List.{List, [], ◌∷◌}
use Prim.Native.Nat.{ℕ}
use lib.ListN.{replicate}
use Rattle.answers.specs.Judged.{judged}
use Rattle.answers.proofs.Computing.{answer_of}

-- Two places with two signals, 5 and 6, 3 and 4, and the road that begins with the given word, of weight 3. The lines:
-- 0  the first signal at least 0
-- 1  the second at least 0
-- 2  somewhere in 1..9, 0
-- 3  0 surrounded by 1, in 0..9, with code 7
-- 4  the same with code 15
sheet_with : ℕ → List ℕ
sheet_with road =
    0x10202001 ∷ road ∷ 0x30000003 ∷ 0x40000005 ∷ 0x40000003 ∷ 0x40000006 ∷ 0x40000004 ∷ 0x50100000 ∷ 0x80000000 ∷ 0x50100400
    ∷ 0x80000000 ∷ 0x50600000 ∷ 0x60000001 ∷ 0x70000009 ∷ 0x50700001 ∷ 0x60000000 ∷ 0x70000009 ∷ 0x50F00001 ∷ 0x60000000 ∷ 0x70000009 ∷ 0xF0000014 ∷ []

-- From 0 to 1 alone: 0 sees 6 somewhere, and 1 nothing. About 0 its region is itself, with 4 on the boundary, or, for code 15, both places, out of which no road
-- leads, with 5. About 1 it is 1 alone, an island with 6. The run about 0 comes to 4 in a step; about 1 there is none.
forth : judged (sheet_with 0x28000001) 4096 17 ≡ record {
  result = record { number = 0; place = 0; words = 17; rounds = 2; yes = 8 };
  answer =
      0xD0205001 ∷ 0xE0000001 ∷ 0x90000005 ∷ 0x90000006 ∷ 0xE0000001 ∷ 0x90000003 ∷ 0x90000004 ∷ 0xE0000001 ∷ 0x90000006 ∷ 0xC0000000
      ∷ 0xE0000001 ∷ 0x90000004 ∷ 0xC0000000 ∷ 0xE0000001 ∷ 0x90000005 ∷ 0x90000006 ∷ 0xF0000010 ∷ [];
  distances = 0 ∷ 3 ∷ 0xFFFFFFFFFFFFFFFF ∷ 0 ∷ replicate 4092 0;
}
unfolding answer_of sheet_with
forth = refl

-- From 1 to 0 alone: about 1 its region is itself, with 3 on the boundary, or both places, with 5; about 0 it is 0 alone, an island with 5.
back : judged (sheet_with 0x24000001) 4096 17 ≡ record {
  result = record { number = 0; place = 0; words = 17; rounds = 2; yes = 8 };
  answer =
      0xD0205001 ∷ 0xE0000001 ∷ 0x90000005 ∷ 0x90000006 ∷ 0xE0000001 ∷ 0x90000003 ∷ 0x90000004 ∷ 0xE0000001 ∷ 0xC0000000 ∷ 0x90000005
      ∷ 0xE0000001 ∷ 0xC0000000 ∷ 0x90000003 ∷ 0xE0000001 ∷ 0x90000005 ∷ 0x90000005 ∷ 0xF0000010 ∷ [];
  distances = 0 ∷ 0xFFFFFFFFFFFFFFFF ∷ 3 ∷ 0 ∷ replicate 4092 0;
}
unfolding answer_of sheet_with
back = refl
