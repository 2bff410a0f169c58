-- Examples on the definitions of the logic alone, so that they are pinned where they stand: K of document 01 for the bounds of a surround, H for its
-- rounds, B and C in both readings and two places for its islands, a road that leads one way, an until, a since, an always and a
-- historically for the samples that they look at, an until and a since as they are read (M-102). All examples on whole sheets are in the crate answers.
use mathlib.Core.Path.{◌≡◌, refl}
use mathlib.Core.Bool.{true, false, cond, ◌&&◌, ◌||◌}
use mathlib.Core.List.{List, [], ◌∷◌}
use Prim.Native.Nat.{ℕ, zero, suc, ◌+◌}
use lib.Dec.{eqb}
use lib.ListN.{get_or}
use lib.IntN.{ℤ, pos, negsuc}
use Rattle.logic.specs.Lattice.{least_over, greatest_over}
use Rattle.logic.specs.Margin.{minus_infinity, finite, plus_infinity}
use Rattle.formulas.specs.Formulas.{Direction, forward, backward, Surrounded, Always, Historically}
use Rattle.network.specs.Distance.{dist, none, direct, distance}
use Rattle.network.specs.Network.{Network, joined, distance_in, within, reached, other}
use Rattle.logic.specs.Iteration.{iterate, masked, except, first, at_rest, rounds}
use Rattle.logic.specs.Surround.{greatest_region, boundary, bounded, allowed, region_value, surround}
use Rattle.logic.specs.Table.{Reading, Signal, verdicts, margins, ever_true, least_so_far, until_so_far, until_at, somewhere_at, surround_at, value}
use Rattle.logic.specs.Counts.{run_rounds, surround_rounds, rounds_at}
use Rattle.counting.specs.Totals.{most_below}

-- places 0-1-2 with weights 1
abbrev path : Network
path = record { places = 3; weight = λ a b. cond (eqb (a + 1) b || eqb (b + 1) a) (dist 1) none }

abbrev signal : List ℤ → Signal margins
signal xs t l = finite (get_or xs l (pos 0))

K : surround_at margins path false (signal (pos 4 ∷ pos 1 ∷ pos 1 ∷ [])) (signal (pos 9 ∷ pos 9 ∷ pos 9 ∷ [])) 2 2 0 0 ≡ finite (pos 1)
unfolding surround_at surround greatest_region allowed bounded region_value boundary least_over greatest_over within distance_in distance direct joined
K = refl

-- a table of two lines
abbrev lines : Signal margins → Signal margins → ℕ → Signal margins
lines left right zero = left
lines left right (suc i) = right

H : rounds_at path (lines (signal (pos 4 ∷ pos 4 ∷ pos 4 ∷ [])) (signal (pos 9 ∷ negsuc 2 ∷ pos 9 ∷ []))) (Surrounded false 0 1 1 1) 0 0 ≡ 3
unfolding rounds_at surround_rounds run_rounds most_below other reached except rounds first at_rest iterate masked least_over within distance_in distance direct joined
H = refl

-- ---- islands (M-101)

abbrev lone : Network
lone = record { places = 1; weight = λ a b. none }

-- B and C: a lone place is an island, and no run is about it
B : surround_at margins lone false (signal (pos 7 ∷ [])) (ever_true margins) 0 0 0 0 ≡ minus_infinity
unfolding surround_at surround greatest_region allowed bounded region_value boundary least_over greatest_over within distance_in distance direct joined
B = refl

B_islands : surround_at margins lone true (signal (pos 7 ∷ [])) (ever_true margins) 0 0 0 0 ≡ finite (pos 7)
unfolding surround_at surround greatest_region allowed bounded region_value boundary least_over greatest_over within distance_in distance direct joined
B_islands = refl

B_rounds : surround_rounds lone 0 0 false (signal (pos 7 ∷ []) 0) (ever_true margins 0) 0 ≡ 0
unfolding surround_rounds most_below other reached distance_in distance direct
B_rounds = refl

C : surround_at margins lone false (ever_true margins) (ever_true margins) 0 0 0 0 ≡ minus_infinity
unfolding surround_at surround greatest_region allowed bounded region_value boundary least_over greatest_over within distance_in distance direct joined
C = refl

C_islands : surround_at margins lone true (ever_true margins) (ever_true margins) 0 0 0 0 ≡ plus_infinity
unfolding surround_at surround greatest_region allowed bounded region_value boundary least_over greatest_over within distance_in distance direct joined
C_islands = refl

-- Two places that a road joins: without islands only the centre alone is a region, with right 4 on the other place; with islands both places are one, with
-- left 5. The one run comes to 4 in a step, so it has 2 rounds.
abbrev pair : Network
pair = record { places = 2; weight = λ a b. cond (eqb a b) none (dist 1) }

abbrev left : Signal margins
left = signal (pos 5 ∷ pos 6 ∷ [])

abbrev right : Signal margins
right = signal (pos 3 ∷ pos 4 ∷ [])

two_places : surround_at margins pair false left right 0 9 0 0 ≡ finite (pos 4)
unfolding surround_at surround greatest_region allowed bounded region_value boundary least_over greatest_over within distance_in distance direct joined
two_places = refl

two_places_islands : surround_at margins pair true left right 0 9 0 0 ≡ finite (pos 5)
unfolding surround_at surround greatest_region allowed bounded region_value boundary least_over greatest_over within distance_in distance direct joined
two_places_islands = refl

two_places_rounds : surround_rounds pair 0 9 false (left 0) (right 0) 0 ≡ 2
unfolding surround_rounds run_rounds most_below other reached except rounds first at_rest iterate masked least_over within distance_in distance direct joined
two_places_rounds = refl

-- With left 5 on both places the plain run rests at once, after 1 round; the one run that counts comes to 4 as before, after 2.
level_rounds : surround_rounds pair 0 9 false (signal (pos 5 ∷ pos 5 ∷ []) 0) (right 0) 0 ≡ 2
unfolding surround_rounds run_rounds most_below other reached except rounds first at_rest iterate masked least_over within distance_in distance direct joined
level_rounds = refl

-- ---- a road that leads from 0 to 1 alone (M-106)

-- About 0 the boundary is where a road leads out: 0 alone has 4 on it, and both places, an island, have 5. About 1 it is 1 alone, out of which no road leads.
abbrev one_way : Network
one_way = record { places = 2; weight = λ a b. cond (eqb a 0 && eqb b 1) (dist 3) none }

leads_out : (surround_at margins one_way false left right 0 9 0 0 ≡ finite (pos 4)) × (surround_at margins one_way true left right 0 9 0 0 ≡ finite (pos 5))
    × (surround_at margins one_way false left right 0 9 0 1 ≡ minus_infinity) × (surround_at margins one_way true left right 0 9 0 1 ≡ finite (pos 6))
unfolding surround_at surround greatest_region allowed bounded region_value boundary least_over greatest_over within distance_in distance direct joined
leads_out = (refl, refl, refl, refl)

-- somewhere looks where roads lead from the centre
ahead : (somewhere_at margins one_way left 1 9 0 0 ≡ finite (pos 6)) × (somewhere_at margins one_way left 1 9 0 1 ≡ minus_infinity)
unfolding somewhere_at greatest_over within distance_in distance direct
ahead = (refl, refl)

-- the run about 0 that leaves 1 out comes to 4 in a step, and about 1 there is none
one_way_rounds : (surround_rounds one_way 0 9 false (left 0) (right 0) 0 ≡ 2) × (surround_rounds one_way 0 9 false (left 0) (right 0) 1 ≡ 0)
unfolding surround_rounds run_rounds most_below other reached except rounds first at_rest iterate masked least_over within distance_in distance direct joined
one_way_rounds = (refl, refl)

-- ---- over time

-- samples one after the other, alike at every place
abbrev over_time : List ℤ → Signal margins
over_time xs t l = finite (get_or xs t (pos 0))

-- Until at 1..1, the present sample and the next: right is 7 at the next, but left is -2 there. With left up to the sample before t' alone it would be 4,
-- and with the present sample in the window 1.
until_next : until_at margins forward (over_time (pos 4 ∷ negsuc 1 ∷ [])) (over_time (pos 1 ∷ pos 7 ∷ [])) 1 1 0 0 ≡ finite (negsuc 1)
unfolding until_at until_so_far least_so_far least_over greatest_over
until_next = refl

-- what has been read of an until or a since with lower bound 1: the least of left so far, and what has been found so far (M-102)
abbrev read_so_far : (R : Reading) → Direction → Signal R → Signal R → ℕ → ℕ → R.lattice.Value × R.lattice.Value
read_so_far R side left right t n = (least_so_far R side left t 0 n, until_so_far R side left right 1 t 0 n)

-- Until at 1..3 of left 5 4 2 3 and right -3 6 1 9: nothing is found at the first sample; the second offers 4, as much as the least of left so far, and no
-- sample behind it changes that.
until_read :
    let so_far = read_so_far margins forward (over_time (pos 5 ∷ pos 4 ∷ pos 2 ∷ pos 3 ∷ [])) (over_time (negsuc 2 ∷ pos 6 ∷ pos 1 ∷ pos 9 ∷ [])) 0 in
    (so_far 0 ≡ (plus_infinity, minus_infinity)) × (so_far 1 ≡ (finite (pos 5), minus_infinity)) × (so_far 2 ≡ (finite (pos 4), finite (pos 4)))
    × (so_far 3 ≡ (finite (pos 2), finite (pos 4))) × (so_far 4 ≡ (finite (pos 2), finite (pos 4)))
unfolding least_so_far until_so_far least_over greatest_over
until_read = (refl, refl, refl, refl, refl)

-- since at 1..2 of verdicts, from sample 2 back: left no yes yes, right yes yes no
since_read :
    let so_far = read_so_far verdicts backward (λ t _. get_or (false ∷ true ∷ true ∷ []) t false) (λ t _. get_or (true ∷ true ∷ false ∷ []) t false) 2 in
    (so_far 1 ≡ (true, false)) × (so_far 2 ≡ (true, true)) × (so_far 3 ≡ (false, true))
unfolding least_so_far until_so_far least_over greatest_over
since_read = (refl, refl, refl)

-- Always at 0..1 is the least of the window: 1, where without the inner not it would be -7.
always_least : value margins path (λ _ _ _. pos 0) (λ _. over_time (pos 1 ∷ pos 7 ∷ [])) (Always forward 0 0 1) 0 0 ≡ finite (pos 1)
unfolding value until_at until_so_far least_so_far least_over greatest_over
always_least = refl

-- Since at 1..2, from two samples back to the sample before: right is 9 two samples back, but left is 1 at the sample between. With the present
-- sample in the window it would be 2.
since_refill : until_at margins backward (over_time (pos 5 ∷ pos 1 ∷ pos 4 ∷ [])) (over_time (pos 9 ∷ negsuc 2 ∷ pos 2 ∷ [])) 1 2 2 0 ≡ finite (pos 1)
unfolding until_at until_so_far least_so_far least_over greatest_over
since_refill = refl

-- Since at 0..2: right is 3 at the sample before, and left is above that from there on. With left asked for from two samples back on, whatever t' is,
-- it would be -5.
since_late : until_at margins backward (over_time (negsuc 4 ∷ pos 6 ∷ pos 4 ∷ [])) (over_time (pos 9 ∷ pos 3 ∷ negsuc 0 ∷ [])) 0 2 2 0 ≡ finite (pos 3)
unfolding until_at until_so_far least_so_far least_over greatest_over
since_late = refl

-- Historically at 1..2 is the least of its window: 1, where the present sample has -3.
historically_least : value margins path (λ _ _ _. pos 0) (λ _. over_time (pos 7 ∷ pos 1 ∷ negsuc 2 ∷ [])) (Historically 0 1 2) 2 0 ≡ finite (pos 1)
unfolding value until_at until_so_far least_so_far least_over greatest_over
historically_least = refl
