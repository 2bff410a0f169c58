-- Every refusal 1 to 14 and 17 with its number and place, computed on small sheets. They pin how the documents are read where they leave a choice:
-- docs/DECISIONS.md has the reasons.
use mathlib.Core.Path.{◌≡◌, refl}
use mathlib.Core.List.{List, [], ◌∷◌, ◌++◌}
use Prim.Native.Nat.{ℕ}
use lib.ListN.{replicate}
use Rattle.checks.specs.Checked.{Checked, refused, is_kind}
use Rattle.codes.specs.Codes.{codes}
use Rattle.lines.specs.Lines.{line_at, lines_from}
use Rattle.codes.specs.Operators.{constant_at, bounds_at, operator_at}
use Rattle.checks.specs.Heads.{is_wide, head_of, places_of, wide_counted, wide_followed}
use Rattle.sheet.specs.Layout.{Layout, sizes_of, narrow_checked, wide_checked, head_checked, samples_from, end_checked, checked}
use Rattle.roads.specs.Roads.{road_checked, roads_from}

-- the check with enough distances lent
outcome : List ℕ → Checked Layout
unfolding is_kind codes constant_at bounds_at operator_at line_at lines_from is_wide head_of places_of wide_counted wide_followed sizes_of narrow_checked wide_checked head_checked road_checked roads_from samples_from end_checked checked
outcome s = checked s 4096

-- what one place with one signal and one sample begins with, and three places
abbrev one : List ℕ → List ℕ
one rest = 0x10101001 ∷ 0x40000000 ∷ rest

abbrev three : List ℕ → List ℕ
three rest = 0x10301001 ∷ rest

-- too few distances come before the head
refusal_1 : checked [] 4095 ≡ refused 1 0
unfolding outcome
refusal_1 = refl

-- of a wide sheet, after its sizes: one fewer than the places squared
refusal_1_wide : (checked (0xA0000003 ∷ 0x10001001 ∷ []) 8 ≡ refused 1 0) × (checked (0xA0000003 ∷ 0x10001001 ∷ []) 9 ≡ refused 8 2) × (checked (0xA0000003 ∷ 0x10000001 ∷ []) 8 ≡ refused 3 1)
unfolding outcome
refusal_1_wide = (refl, refl, refl)

-- no head; another kind
refusal_2 : (outcome [] ≡ refused 2 0) × (outcome (0x40000000 ∷ []) ≡ refused 2 0)
unfolding outcome
refusal_2 = (refl, refl)

-- no place, no signal, 17 signals, no sample
refusal_3 : (outcome (0x10001001 ∷ []) ≡ refused 3 0) × (outcome (0x10100001 ∷ []) ≡ refused 3 0) × (outcome (0x10111001 ∷ []) ≡ refused 3 0)
    × (outcome (0x10101000 ∷ []) ≡ refused 3 0)
unfolding outcome
refusal_3 = (refl, refl, refl, refl)

-- bit 16; bit 25, before the places are looked at; both of bits 27 and 26 (M-106). Each of them alone passes: what is missing is the weight.
refusal_4 : (outcome (three (0x20010001 ∷ 0x30000001 ∷ [])) ≡ refused 4 1) × (outcome (three (0x22000909 ∷ [])) ≡ refused 4 1) × (outcome (three (0x2C000001 ∷ [])) ≡ refused 4 1)
    × (outcome (three (0x28000001 ∷ [])) ≡ refused 7 2) × (outcome (three (0x24000001 ∷ [])) ≡ refused 7 2)
unfolding outcome
refusal_4 = (refl, refl, refl, refl, refl)

-- equal places, places in the wrong order, a second place that is not there
refusal_5 : (outcome (three (0x20000101 ∷ [])) ≡ refused 5 1) × (outcome (three (0x20000100 ∷ [])) ≡ refused 5 1) × (outcome (three (0x20000003 ∷ [])) ≡ refused 5 1)
unfolding outcome
refusal_5 = (refl, refl, refl)

-- the pair of the road before, also where one runs forth and the other back (M-106); a lower one; told before the weight is looked for
refusal_6 : (outcome (three (0x20000001 ∷ 0x30000001 ∷ 0x20000001 ∷ [])) ≡ refused 6 3) × (outcome (three (0x24000001 ∷ 0x30000001 ∷ 0x28000001 ∷ [])) ≡ refused 6 3)
    × (outcome (three (0x20000102 ∷ 0x30000001 ∷ 0x28000002 ∷ [])) ≡ refused 6 3)
unfolding outcome
refusal_6 = (refl, refl, refl)

-- no weight, another kind, the weight 0
refusal_7 : (outcome (three (0x20000001 ∷ [])) ≡ refused 7 2) × (outcome (three (0x20000001 ∷ 0x40000001 ∷ [])) ≡ refused 7 2) × (outcome (three (0x20000001 ∷ 0x30000000 ∷ [])) ≡ refused 7 2)
unfolding outcome
refusal_7 = (refl, refl, refl)

-- no sample; the first word that is not of kind 2 ends the roads and is looked at as a sample; the third sample is not there
refusal_8 : (outcome (three []) ≡ refused 8 1) × (outcome (three (0x30000001 ∷ [])) ≡ refused 8 1) × (outcome (three (0x40000000 ∷ 0x40000000 ∷ [])) ≡ refused 8 3)
unfolding outcome
refusal_8 = (refl, refl, refl)

refusal_9 : outcome (0x10101001 ∷ 0x48000000 ∷ []) ≡ refused 9 1
unfolding outcome
refusal_9 = refl

-- no line: nothing more, or an end; a sample too many; a 65th line, told before its fields are looked at
refusal_10 : (outcome (one []) ≡ refused 10 2) × (outcome (one (0xF0000002 ∷ [])) ≡ refused 10 2) × (outcome (one (0x40000000 ∷ [])) ≡ refused 10 2)
    × (outcome (one (replicate 64 0x50000000 ++ (0x5FF00000 ∷ []))) ≡ refused 10 66)
unfolding outcome
refusal_10 = (refl, refl, refl, refl)

-- code 16; a signal that is not there; a line that is not earlier; an unused field that is not zero; told before the parameters are looked for
refusal_11 : (outcome (one (0x50000000 ∷ 0x51000000 ∷ [])) ≡ refused 11 3) × (outcome (one (0x50100400 ∷ [])) ≡ refused 11 2) × (outcome (one (0x50300000 ∷ [])) ≡ refused 11 2)
    × (outcome (one (0x50000000 ∷ 0x50400001 ∷ [])) ≡ refused 11 3) × (outcome (one (0x50000001 ∷ [])) ≡ refused 11 2) × (outcome (one (0x50000000 ∷ 0x50600001 ∷ [])) ≡ refused 11 3)
unfolding outcome
refusal_11 = (refl, refl, refl, refl, refl, refl)

-- a constant: absent, another kind, bit 27 set
refusal_12_constant : (outcome (one (0x50100000 ∷ [])) ≡ refused 12 3) × (outcome (one (0x50100000 ∷ 0x40000000 ∷ [])) ≡ refused 12 3) × (outcome (one (0x50100000 ∷ 0x88000000 ∷ [])) ≡ refused 12 3)
unfolding outcome
refusal_12_constant = (refl, refl, refl)

-- bounds: the lower absent, the upper absent, the upper below the lower
refusal_12_bounds : (outcome (one (0x50000000 ∷ 0x50600000 ∷ [])) ≡ refused 12 4) × (outcome (one (0x50000000 ∷ 0x50600000 ∷ 0x60000002 ∷ [])) ≡ refused 12 5)
    × (outcome (one (0x50000000 ∷ 0x50600000 ∷ 0x60000002 ∷ 0x70000001 ∷ [])) ≡ refused 12 5)
unfolding outcome
refusal_12_bounds = (refl, refl, refl)

-- an eventually 0..1 on one sample, told at the line word after its bounds; a fault of the bounds comes first
refusal_13 : (outcome (one (0x50000000 ∷ 0x50900000 ∷ 0x60000000 ∷ 0x70000001 ∷ [])) ≡ refused 13 3) × (outcome (one (0x50000000 ∷ 0x50900000 ∷ 0x60000000 ∷ [])) ≡ refused 12 5)
unfolding outcome
refusal_13 = (refl, refl)

-- no end; another kind; a wrong count, also with a word after it; a right end with a word after it, told at that word
refusal_14 : (outcome (one (0x50000000 ∷ [])) ≡ refused 14 3) × (outcome (one (0x50000000 ∷ 0x80000000 ∷ [])) ≡ refused 14 3) × (outcome (one (0x50000000 ∷ 0xF0000004 ∷ [])) ≡ refused 14 3)
    × (outcome (one (0x50000000 ∷ 0xF0000004 ∷ 0 ∷ [])) ≡ refused 14 3) × (outcome (one (0x50000000 ∷ 0xF0000003 ∷ 0 ∷ [])) ≡ refused 14 4)
unfolding outcome
refusal_14 = (refl, refl, refl, refl, refl)

-- a wide head: no place, 1,025 places, a spare bit; nothing after it, another kind, and a head that has places itself. The places come first.
refusal_17 : (outcome (0xA0000000 ∷ 0x10001001 ∷ []) ≡ refused 17 0) × (outcome (0xA0000401 ∷ 0x10001001 ∷ []) ≡ refused 17 0) × (outcome (0xA0010002 ∷ []) ≡ refused 17 0)
    × (outcome (0xA0000002 ∷ []) ≡ refused 17 1) × (outcome (0xA0000002 ∷ 0x20000001 ∷ []) ≡ refused 17 1) × (outcome (0xA0000002 ∷ 0x10201002 ∷ []) ≡ refused 17 1)
unfolding outcome
refusal_17 = (refl, refl, refl, refl, refl, refl)

-- a wide road: bit 24 is spare, alone and beside bit 27, both of bits 27 and 26 are told, one alone passes, and the second place has twelve bits
refusals_wide_road : (outcome (0xA0000002 ∷ 0x10001002 ∷ 0x21000001 ∷ []) ≡ refused 4 2) × (outcome (0xA0000002 ∷ 0x10001002 ∷ 0x29000001 ∷ []) ≡ refused 4 2)
    × (outcome (0xA0000002 ∷ 0x10001002 ∷ 0x2C000001 ∷ []) ≡ refused 4 2) × (outcome (0xA0000002 ∷ 0x10001002 ∷ 0x24000001 ∷ []) ≡ refused 7 3)
    × (outcome (0xA0000002 ∷ 0x10001002 ∷ 0x20000100 ∷ []) ≡ refused 5 2)
unfolding outcome
refusals_wide_road = (refl, refl, refl, refl, refl)

-- a road between the first and the last of 300 places passes, and one to a place beyond them does not
far_road : (checked (0xA000012C ∷ 0x10001001 ∷ 0x2000012B ∷ 0x30000007 ∷ []) 90000 ≡ refused 8 4) × (checked (0xA000012C ∷ 0x10001001 ∷ 0x2000012C ∷ 0x30000007 ∷ []) 90000 ≡ refused 5 2)
unfolding outcome
far_road = (refl, refl)
