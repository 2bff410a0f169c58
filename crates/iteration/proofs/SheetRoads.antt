-- The roads of an accepted sheet are what the iteration asks of its roads; and what is read of one of them.
use mathlib.Core.Path.{◌≡◌, ap, ap₂, ◌∙◌}
use mathlib.Core.Bool.{Bool, true, false}
use mathlib.Core.List.{List}
use Prim.Native.Nat.{ℕ, ◌<◌, ◌^◌}
use native.Mathlib.Omega.{arith}
use Rattle.checks.specs.Checked.{word_at}
use Rattle.checks.specs.Heads.{is_wide}
use Rattle.roads.specs.declared.road.Way.{Way}
use Rattle.roads.specs.Roads.{road_at, way_forth, way_back, first_of, forth_of, back_of, GoodRoad}
use Rattle.checks.proofs.Checks.{kind_inside}
use Rattle.iteration.specs.Steps.{RoadsIn}

pub good_roads : (sheet : List ℕ) (roads n : ℕ) → ((r : ℕ) → r < roads → GoodRoad sheet n r) → RoadsIn sheet roads n
good_roads sheet roads n good = record {
  there = λ r l. kind_inside sheet 2 (road_at (is_wide sheet) r) (good r l).road;
  order = λ r l. (good r l).order;
  inside = λ r l. (good r l).inside;
}

-- the first road stands at a small index
pub first_road_fits : (wide : Bool) → road_at wide 0 < 2 ^ 64
first_road_fits true = omega arith
first_road_fits false = omega arith

-- the two ways of a road, by the word at its index
module _ (sheet : List ℕ) (r : ℕ) {wide : Bool} {at word : ℕ} {way : Way} (layout : wide ≡ is_wide sheet) (here : at ≡ road_at (is_wide sheet) r) (read : word ≡ word_at sheet at) where
  pub forth_read : way ≡ way_forth wide word → way ≡ forth_of sheet r
  forth_read told = told ∙ ap₂ way_forth layout (read ∙ ap (word_at sheet) here)

  pub back_read : way ≡ way_back wide word → way ≡ back_of sheet r
  back_read told = told ∙ ap₂ way_back layout (read ∙ ap (word_at sheet) here)

-- both lead from one of the places to another
module _ {sheet : List ℕ} {roads n r : ℕ} (i : RoadsIn sheet roads n) (h : r < roads) where
  first_inside : first_of sheet r < n
  first_inside = omega (arith, i.order r h, i.inside r h)

  pub forth_inside : {way : Way} → way ≡ forth_of sheet r → (way.from < n) × (way.to < n)
  forth_inside e = rw e (first_inside, i.inside r h)

  pub back_inside : {way : Way} → way ≡ back_of sheet r → (way.from < n) × (way.to < n)
  back_inside e = rw e (i.inside r h, first_inside)
