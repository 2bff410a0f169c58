-- Until and since as they are read (request M-102), from the words of a sheet to the words of its answer: the worked example, and the same with time
-- turned round.
use mathlib.Core.Path.{◌≡◌, refl}
use mathlib.Core.List.{List, [], ◌∷◌}
use Prim.Native.Nat.{ℕ}
use lib.ListN.{replicate}
use Rattle.answers.specs.Judged.{judged}
use Rattle.answers.proofs.Computing.{answer_of}

-- One place and two signals, 5 4 2 3 and -3 6 1 9. Line 2 is the first until the second, both at least 0, in 1..3: the samples offer nothing, 4, 1 and 2,
-- so it is yes 4.
sheet_ahead : List ℕ
sheet_ahead =
    0x10102004 ∷ 0x40000005 ∷ 0x47FFFFFD ∷ 0x40000004 ∷ 0x40000006 ∷ 0x40000002 ∷ 0x40000001 ∷ 0x40000003 ∷ 0x40000009 ∷ 0x50100000
    ∷ 0x80000000 ∷ 0x50100400 ∷ 0x80000000 ∷ 0x50500001 ∷ 0x60000001 ∷ 0x70000003 ∷ 0xF0000010 ∷ []

until_read_on : judged sheet_ahead 4096 14 ≡ record {
  result = record { number = 0; place = 0; words = 14; rounds = 0; yes = 8 };
  answer =
      0xD0103004 ∷ 0xE0000004 ∷ 0x90000005 ∷ 0x90000004 ∷ 0x90000002 ∷ 0x90000003 ∷ 0xE0000004 ∷ 0xAFFFFFFD ∷ 0x90000006 ∷ 0x90000001
      ∷ 0x90000009 ∷ 0xE0000001 ∷ 0x90000004 ∷ 0xF000000D ∷ [];
  distances = replicate 4096 0;
}
unfolding answer_of sheet_ahead
until_read_on = refl

-- The signals backwards, 3 2 4 5 and 9 1 6 -3, and since in the place of until: yes 4 at sample 3.
sheet_back : List ℕ
sheet_back =
    0x10102004 ∷ 0x40000003 ∷ 0x40000009 ∷ 0x40000002 ∷ 0x40000001 ∷ 0x40000004 ∷ 0x40000006 ∷ 0x40000005 ∷ 0x47FFFFFD ∷ 0x50100000
    ∷ 0x80000000 ∷ 0x50100400 ∷ 0x80000000 ∷ 0x50C00001 ∷ 0x60000001 ∷ 0x70000003 ∷ 0xF0000010 ∷ []

since_read_on : judged sheet_back 4096 14 ≡ record {
  result = record { number = 0; place = 0; words = 14; rounds = 0; yes = 8 };
  answer =
      0xD0103004 ∷ 0xE0000004 ∷ 0x90000003 ∷ 0x90000002 ∷ 0x90000004 ∷ 0x90000005 ∷ 0xE0000004 ∷ 0x90000009 ∷ 0x90000001 ∷ 0x90000006
      ∷ 0xAFFFFFFD ∷ 0xE0003001 ∷ 0x90000004 ∷ 0xF000000D ∷ [];
  distances = replicate 4096 0;
}
unfolding answer_of sheet_back
since_read_on = refl
