-- What a tool leaves (M-105, and so M-107, M-109, M-111 and M-113): three numbers and every word of the lent output, by what is to be made of its inputs.
use Rattle.std.specs.Prelude.{◌≡◌, ℕ, ◌≤◌, ⊤, cond, List, [], ◌∷◌, Result, Ok, Err, leb, length, take, replicate}
use Rattle.words.specs.Rows.{padded}
use Rattle.checks.specs.declared.fault.Refusal.{Refusal}
use Rattle.checks.specs.Faults.{fault_number}
use Rattle.checks.specs.Checked.{Checked, accepted, refused}

-- the refusal's number, 0 for none, and its place; the words that were written
pub record Told : Type 0 where
  pub number : ℕ
  pub place : ℕ
  pub words : ℕ

-- in this order
abbrev pub told_numbers : Told → List ℕ
told_numbers told = told.number ∷ told.place ∷ told.words ∷ []

pub record Left : Type 0 where
  pub told : Told
  pub output : List ℕ

-- a refusal leaves zeros
abbrev pub refusal : (room number place : ℕ) → Left
refusal room number place = record {
  told = record { number = number; place = place; words = 0 };
  output = replicate room 0;
}

-- the words that were made, zeros behind them
abbrev pub whole : (room : ℕ) → List ℕ → Left
whole room words = record {
  told = record { number = 0; place = 0; words = length words };
  output = padded words room;
}

-- 15 comes last: less room than is needed, told at the length of the first input
unfoldable pub left : Checked (List ℕ) → (first room : ℕ) → Left
left (refused number place) first room = refusal room number place
left (accepted words) first room = cond (leb (length words) room) (whole room words) (refusal room 15 first)

-- ---- for contracts alone: a tool of the code answers how many words it has made at the front of the output, or refuses
abbrev pub told_by : Result ℕ Refusal → Told
told_by (Ok words) = record { number = 0; place = 0; words = words }
told_by (Err refusal) = record { number = fault_number refusal.fault; place = refusal.place; words = 0 }

abbrev pub RoomFor : {E : Type 0} → Result ℕ E → (room : ℕ) → Type 0
RoomFor (Ok words) room = words ≤ room
RoomFor (Err _) room = ⊤

-- the output once all behind those words is zero, or all of it
abbrev pub cleared : {E : Type 0} → Result ℕ E → List ℕ → List ℕ
cleared (Ok words) output = padded (take words output) (length output)
cleared (Err _) output = replicate (length output) 0

-- it has made what is to be left, but for the zeros
pub record Makes (l : Left) (made : Result ℕ Refusal) (output : List ℕ) : Type 0 where
  pub told : told_by made ≡ l.told
  pub room : RoomFor made (length output)
  pub words : cleared made output ≡ l.output
