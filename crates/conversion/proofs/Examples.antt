-- Requests M-105 and M-106 on worked sheets: example A to wide and back, a sheet that stays as it is, the refusals 14, 15 and 18, and roads that run one way.
use mathlib.Core.Path.{◌≡◌, refl}
use mathlib.Core.Bool.{true, false}
use mathlib.Core.List.{List, [], ◌∷◌, ◌++◌}
use Prim.Native.Nat.{ℕ}
use lib.ListN.{take, replicate}
use Rattle.checks.specs.Checked.{accepted, refused}
use Rattle.sheet.specs.Layout.{validated}
use Rattle.answers.proofs.Computing.{answer_of}
use Rattle.answers.proofs.Examples.{sheet_A}
use Rattle.answers.proofs.Wide.{sheet_wide}
use Rattle.tool.specs.Tool.{refusal, left}
use Rattle.conversion.specs.Relaid.{road_relaid, relaid, converted}

to_wide : converted true sheet_A ≡ accepted sheet_wide
unfolding answer_of validated road_relaid relaid converted
to_wide = refl

and_back : converted false sheet_wide ≡ accepted sheet_A
unfolding answer_of validated road_relaid relaid converted
and_back = refl

unaltered : (converted false sheet_A ≡ accepted sheet_A) × (converted true sheet_wide ≡ accepted sheet_wide)
unfolding answer_of validated road_relaid relaid converted
unaltered = (refl, refl)

-- room for one word too few, and the fault of the sheet itself before it
short_output : (left (converted true sheet_A) 19 19 ≡ refusal 19 15 19) × (left (converted true (take 18 sheet_A)) 18 0 ≡ refusal 0 14 18)
unfolding answer_of validated road_relaid relaid converted left
short_output = (refl, refl)

-- 65 places without a road, with one sample each, and one line
sheet65 : List ℕ
sheet65 = 0xA0000041 ∷ 0x10001001 ∷ replicate 65 0x40000000 ++ (0x50000000 ∷ 0xF0000044 ∷ [])

-- 18 comes before 15
too_many_places : (converted false sheet65 ≡ refused 18 0) × (left (converted false sheet65) 69 0 ≡ refusal 0 18 0) × (converted true sheet65 ≡ accepted sheet65)
unfolding answer_of validated road_relaid relaid converted left sheet65
too_many_places = (refl, refl, refl)

-- which ways roads run is carried over (M-106): from 2 to 1, and from 3 to 4
behind_roads : List ℕ
behind_roads = replicate 5 0x40000000 ++ (0x50000000 ∷ [])

one_way_narrow : List ℕ
one_way_narrow = 0x10501001 ∷ 0x24000102 ∷ 0x30000003 ∷ 0x28000304 ∷ 0x30000007 ∷ behind_roads ++ (0xF000000B ∷ [])

one_way_wide : List ℕ
one_way_wide = 0xA0000005 ∷ 0x10001001 ∷ 0x24001002 ∷ 0x30000003 ∷ 0x28003004 ∷ 0x30000007 ∷ behind_roads ++ (0xF000000C ∷ [])

directions_carried : (converted true one_way_narrow ≡ accepted one_way_wide) × (converted false one_way_wide ≡ accepted one_way_narrow)
unfolding answer_of validated road_relaid relaid converted behind_roads one_way_narrow one_way_wide
directions_carried = (refl, refl)
