-- The number 0 says that a tool has made what it was to make, where no refusal of its inputs has that number; and what it has left then.
use mathlib.Core.Path.{◌≡◌, refl, ap}
use mathlib.Core.Bool.{Bool, true, false, cond}
use mathlib.Core.List.{List}
use Prim.Native.Nat.{ℕ, ◌≤◌}
use native.Mathlib.Omega.{arith}
use lib.Dec.{leb}
use lib.ListN.{length}
use borrow.Author.Tests.{leb-true}
use Rattle.checks.specs.Checked.{Checked, accepted, refused}
use Rattle.tool.specs.Tool.{refusal, whole, left}

module _ (made : Checked (List ℕ)) (first room : ℕ) where
  pub record Whole : Type 0 where
    pub words : List ℕ
    pub accepts : made ≡ accepted words
    pub room_for : length words ≤ room
    pub leaves : left made first room ≡ whole room words

pub whole_told : (made : Checked (List ℕ)) (first room : ℕ) → ((place : ℕ) → made ≡ refused 0 place → ⊥) → (left made first room).told.number ≡ 0 → Whole made first room
unfolding left
whole_told (refused number place) first room never zero = absurd (never place (ap (λ k. refused k place) zero))
whole_told (accepted words) first room never zero = by_room (leb (length words) room) refl zero
  where
    by_room : (t : Bool) → leb (length words) room ≡ t → (cond t (whole room words) (refusal room 15 first)).told.number ≡ 0 → Whole (accepted words) first room
    by_room true e zero = record { words = words; accepts = refl; room_for = leb-true _ _ e; leaves = rw e refl }
    by_room false e zero = absurd (let fifteen : ◌≡◌ {A = ℕ} 15 0 = zero in omega arith)
