-- A sheet for what the settled examples leave open, worked out by hand from document 01: until's last sample, lower bounds above 0, codes 2, 4, 8 and 10
-- and a negative constant each decide a verdict of its answer.
use mathlib.Core.Path.{◌≡◌, refl}
use mathlib.Core.List.{List, [], ◌∷◌}
use Prim.Native.Nat.{ℕ}
use lib.ListN.{replicate}
use Rattle.answers.specs.Judged.{judged}
use Rattle.answers.proofs.Computing.{answer_of}

-- Two places with a road of 2 and one signal: 1, -5, 4 at place 0 and -4, 0, 6 at place 1. The lines:
-- 0  at least -3
-- 1  at most 2
-- 2  0 and 1
-- 3  0 or 1
-- 4  0 until 1, in 1..1. At sample 0 of place 0 it is no: line 1 holds at the next sample, but line 0 does not there; both hold at the present one,
--    which is too early
-- 5  eventually 0, in 1..1. At sample 0 of place 0 it is no: line 0 holds at the present sample alone
-- 6  always 1, in 0..1
-- 7  somewhere 0, in 1..2: a place does not count for itself
sheet_P : List ℕ
sheet_P =
    0x10201003 ∷ 0x20000001 ∷ 0x30000002 ∷ 0x40000001 ∷ 0x47FFFFFC ∷ 0x47FFFFFB ∷ 0x40000000 ∷ 0x40000004 ∷ 0x40000006 ∷ 0x50100000
    ∷ 0x87FFFFFD ∷ 0x50200000 ∷ 0x80000002 ∷ 0x50400001 ∷ 0x50800001 ∷ 0x50500001 ∷ 0x60000001 ∷ 0x70000001 ∷ 0x50900000 ∷ 0x60000001
    ∷ 0x70000001 ∷ 0x50A00400 ∷ 0x60000000 ∷ 0x70000001 ∷ 0x50600000 ∷ 0x60000001 ∷ 0x70000002 ∷ 0xF000001B ∷ []

points : judged sheet_P 4096 52 ≡ record {
  result = record { number = 0; place = 0; words = 52; rounds = 0; yes = 25 };
  answer =
      0xD0208003 ∷ 0xE0000003 ∷ 0x90000004 ∷ 0xAFFFFFFF ∷ 0xAFFFFFFE ∷ 0x90000003 ∷ 0x90000007 ∷ 0x90000009 ∷ 0xE0000003 ∷ 0x90000001
      ∷ 0x90000006 ∷ 0x90000007 ∷ 0x90000002 ∷ 0xAFFFFFFE ∷ 0xAFFFFFFC ∷ 0xE0000003 ∷ 0x90000001 ∷ 0xAFFFFFFF ∷ 0xAFFFFFFE ∷ 0x90000002
      ∷ 0xAFFFFFFE ∷ 0xAFFFFFFC ∷ 0xE0000003 ∷ 0x90000004 ∷ 0x90000006 ∷ 0x90000007 ∷ 0x90000003 ∷ 0x90000007 ∷ 0x90000009 ∷ 0xE0000002
      ∷ 0xAFFFFFFE ∷ 0xAFFFFFFF ∷ 0xAFFFFFFE ∷ 0xAFFFFFFC ∷ 0xE0000002 ∷ 0xAFFFFFFE ∷ 0x90000003 ∷ 0x90000007 ∷ 0x90000009 ∷ 0xE0000002
      ∷ 0x90000001 ∷ 0x90000002 ∷ 0xAFFFFFFE ∷ 0xAFFFFFFC ∷ 0xE0000003 ∷ 0xAFFFFFFF ∷ 0x90000004 ∷ 0x90000003 ∷ 0xAFFFFFFE ∷ 0x90000009
      ∷ 0x90000007 ∷ 0xF0000033 ∷ [];
  distances = 0 ∷ 2 ∷ 2 ∷ 0 ∷ replicate 4092 0;
}
unfolding answer_of sheet_P
points = refl
