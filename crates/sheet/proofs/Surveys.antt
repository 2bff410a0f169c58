-- What an accepted sheet gives the distances, and what a survey leaves, by the outcome of the check.
use mathlib.Core.Path.{◌≡◌, sym, ap, subst, ◌∙◌}
use mathlib.Core.List.{List}
use Prim.Native.Nat.{ℕ, ◌*◌, ◌<◌, ◌≤◌, zero-le}
use lib.ListN.{length, replicate}
use Rattle.words.specs.Rows.{padded}
use Rattle.sheet.specs.declared.check.Layout as F
use Rattle.checks.specs.Checked.{accepted, refused, mapped}
use Rattle.sheet.specs.Layout.{Layout, checked}
use Rattle.roads.specs.Roads.{GoodRoad, GoodRoads, network_of}
use Rattle.distances.specs.Distances.{distance_table, numbers_in, room_in, HasRoom}
use Rattle.words.proofs.Zeros.{zero_numbers}
use Rattle.sheet.specs.Recording.{network}
use Rattle.sheet.specs.Checking.{layout_of, layout_checked}
use Rattle.sheet.specs.Survey.{surveyed_by, surveyed}
use Rattle.checks.proofs.Checks.{mapped_accepted, mapped_refused}
use Rattle.roads.proofs.AcceptedRoads.{road_good}
use Rattle.sheet.proofs.Whole.{accepted_sheet}

-- what an accepted sheet gives the distances: good roads, and room for the distances of all places
pub accepted_roads : (s : List ℕ) (distances : ℕ) (L : Layout) → checked s distances ≡ accepted L
    → ((r : ℕ) → r < L.roads → GoodRoad s (L.sizes.places) r) × (L.sizes.places * L.sizes.places ≤ distances)
accepted_roads s distances L e =
    let sheet = accepted_sheet s distances L e in
    (λ r h. road_good s (L.sizes.places) (length s) 0 0 (L.roads) sheet.roads r zero-le h, sheet.distances)

pub record Accepting (s : List ℕ) (room : ℕ) (layout : F.Layout) : Type 0 where
  pub roads : ((r : ℕ) → r < layout.roads → GoodRoad s layout.places r) × (layout.places * layout.places ≤ room)
  pub left : surveyed s room ≡ padded (distance_table (network_of s layout.places layout.roads)) room

pub accepting : (s : List ℕ) (room : ℕ) (layout : F.Layout) → mapped (layout_of s) (checked s room) ≡ accepted layout → Accepting s room layout
unfolding surveyed network
accepting s room layout e =
    let (L, found, same) = mapped_accepted (layout_of s) (checked s room) e in
    subst (Accepting s room) same (record { roads = accepted_roads s room L found; left = ap (surveyed_by s room) found })

pub refusing : (s : List ℕ) (room number place : ℕ) → mapped (layout_of s) (checked s room) ≡ refused number place → surveyed s room ≡ replicate room 0
unfolding surveyed
refusing s room number place e = ap (surveyed_by s room) (mapped_refused (layout_of s) (checked s room) e)

-- ---- the same of a count that was read, and of the bytes b that are lent
module _ (s b : List ℕ) (room : ℕ) (lent : room ≡ room_in b) where
  pub lent_roads : (layout : F.Layout) → accepted layout ≡ layout_checked s room → GoodRoads s layout.places layout.roads × HasRoom layout.places b
  lent_roads layout e = rw lent at (accepting s room layout (sym e)).roads

  pub left_zero : (number place : ℕ) (left : List ℕ) → refused number place ≡ layout_checked s room → left ≡ replicate (length b) 0
      → numbers_in left ≡ surveyed s (room_in b)
  left_zero number place left e zero = ap numbers_in zero ∙ zero_numbers b ∙ sym (rw lent at (refusing s room number place (sym e)))
