-- Places side by side whose windows are read together, and what their loops tell. These are for contracts inside the engine: no promise to a host
-- speaks of them.
use Rattle.std.specs.Prelude.{◌≡◌, Bool, true, false, List, ℕ, ◌+◌, ◌*◌, ◌<◌, ◌≤◌, length, get_or}
use Rattle.values.specs.Chain.{chain_lattice}
use Rattle.words.specs.Bytes.{words_of}
use Rattle.values.specs.Signals.{signal_in}
use Rattle.operators.specs.declared.signals.Operand.{Operand}
use Rattle.windows.specs.declared.group.Group.{Group}

abbrev pub group_size : ℕ
group_size = 16

-- the words of a signal at a sample are there, at all places, and the group is some of these
pub record SampleReached (words : List ℕ) (start places u : ℕ) (g : Group) : Type 0 where
  pub inside : start + (u + 1) * places ≤ length words
  pub among : g.first + g.count ≤ places

-- the least of left with a sample more, and until so far with what a sample of right offers
module _ (words : List ℕ) (start places u : ℕ) (g : Group) where
  abbrev pub lowered : List ℕ → ℕ → ℕ
  lowered least lane = chain_lattice.meet (get_or least lane 0) (signal_in words start places u (g.first + lane))

  abbrev pub raised : (least best : List ℕ) → ℕ → ℕ
  raised least best lane = chain_lattice.join (get_or best lane 0) (chain_lattice.meet (signal_in words start places u (g.first + lane)) (get_or least lane 0))

-- the same of an operand, with room for the group
module _ (o : Operand) (u : ℕ) (g : Group) where
  abbrev pub lowered_of : List ℕ → ℕ → ℕ
  lowered_of = lowered (words_of o.words.now) o.start o.places u g

  abbrev pub raised_of : (least best : List ℕ) → ℕ → ℕ
  raised_of = raised (words_of o.words.now) o.start o.places u g

  abbrev pub LowerReady : List ℕ → Type 0
  LowerReady least = SampleReached (words_of o.words.now) o.start o.places u g × (g.count ≤ length least)

  abbrev pub RaiseReady : (least best : List ℕ) → Type 0
  RaiseReady least best = SampleReached (words_of o.words.now) o.start o.places u g × (g.count ≤ length least) × (g.count ≤ length best)

-- whether the least of left is no more than until so far, at all of the first numbers
pub record Known (r : Bool) (least best : List ℕ) (count : ℕ) : Type 0 where
  pub known : r ≡ true → (lane : ℕ) → lane < count → get_or least lane 0 ≤ get_or best lane 0
  pub unknown : r ≡ false → (lane : ℕ) × (lane < count) × (get_or best lane 0 < get_or least lane 0)

-- a row with so many numbers written from an index on, and no others
pub record PartLeft (first count : ℕ) (f : ℕ → ℕ) (before after : List ℕ) : Type 0 where
  pub written : (lane : ℕ) → lane < count → get_or after (first + lane) 0 ≡ f lane
  pub below : (l : ℕ) → l < first → get_or after l 0 ≡ get_or before l 0
  pub above : (l : ℕ) → first + count ≤ l → get_or after l 0 ≡ get_or before l 0
  pub long : length after ≡ length before
