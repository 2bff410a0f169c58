-- What a window of until asks of its operands and of the arrays that are carried, at the places of a group. These are for contracts inside the engine.
use Rattle.std.specs.Prelude.{List, ℕ, ◌+◌, ◌≤◌, length}
use Rattle.words.specs.Bytes.{words_of}
use Rattle.windows.specs.declared.group.Group.{Group}
use Rattle.windows.specs.declared.until.Operands.{Operands}
use Rattle.windows.specs.Reach.{GroupReached}
use Rattle.windows.specs.Rows.{until_in}
use Rattle.windows.specs.Carried.{CarriesGroup}

-- what is carried, of the operands that are read, with room for the group; and what is to come of it
module _ (o : Operands) (t : ℕ) (g : Group) where
  abbrev pub CarriesOf : ℕ → (least best : List ℕ) → Type 0
  CarriesOf = CarriesGroup (words_of o.words.now) o.places o.until t g

  abbrev pub GroupReachedOf : Type 0
  GroupReachedOf = GroupReached (words_of o.words.now) o.places o.until t g

  abbrev pub WindowReady : (least best : List ℕ) → Type 0
  WindowReady least best = GroupReachedOf × (g.count ≤ length least) × (g.count ≤ length best)

  abbrev pub SampleReady : ℕ → (least best : List ℕ) → Type 0
  SampleReady k least best = GroupReachedOf × (k ≤ o.until.bounds.upper) × (g.count ≤ length least) × (g.count ≤ length best)

  abbrev pub until_of : ℕ → ℕ
  until_of lane = until_in (words_of o.words.now) o.places o.until t (g.first + lane)
