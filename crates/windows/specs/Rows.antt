-- What the operators over time leave in a row: their values on the signals in the words of an answer, and the duals, the opposite of an operator on
-- opposites. These are for contracts inside the engine: no promise to a host speaks of them.
use Rattle.std.specs.Prelude.{◌≡◌, Bool, List, ℕ, suc, ◌+◌, ◌≤◌, length}
use Rattle.formulas.specs.Formulas.{forward}
use Rattle.logic.specs.Table.{Signal, until_at, ever_true}
use Rattle.values.specs.Chain.{chains}
use Rattle.values.specs.Signals.{signal_in, turned}
use Rattle.codes.specs.declared.operator.Bounds.{Bounds}
use Rattle.codes.specs.declared.operator.Direction.{Direction}
use Rattle.codes.specs.declared.operator.Direction.TheVariants.{Forward, Backward}
use Rattle.codes.specs.Decoding.{side_said}
use Rattle.words.specs.Bytes.{words_of}
use Rattle.operators.specs.declared.signals.Operand.{Operand}
use Rattle.operators.specs.Rows.{Filled}
use Rattle.windows.specs.declared.until.Until.{Until}
use Rattle.windows.specs.Reach.{Window, Reached}

-- a number, and a row, that is what a signal has at the sample before t, if there is one
abbrev pub Former : Signal chains → ℕ → ℕ → ℕ → Type 0
Former signal t l value = (u : ℕ) → t ≡ suc u → value ≡ signal u l

abbrev pub Held : ℕ → Signal chains → ℕ → List ℕ → Type 0
Held n signal t row = (u : ℕ) → t ≡ suc u → Filled n (signal u) row

-- codes 5 and 12: until, or since, which has values from sample `upper` on, row 0 the first of them
abbrev pub present_at : Direction → ℕ → ℕ → ℕ
present_at Forward upper t = t
present_at Backward upper t = t + upper

abbrev pub present_of : Until → ℕ → ℕ
present_of u t = present_at u.direction u.bounds.upper t

-- the greatest value of a window: until with a left signal that is true everywhere
abbrev pub ahead : Signal chains → ℕ → ℕ → Signal chains
ahead right = until_at chains forward (ever_true chains) right

-- codes 9 and 10: eventually, or the dual
abbrev pub eventually_at : Bool → Signal chains → ℕ → ℕ → Signal chains
eventually_at dual right lower upper = turned dual (ahead (turned dual right) lower upper)

-- the same on the signals that begin at an index of the words each
module _ (words : List ℕ) (places : ℕ) where
  abbrev WindowOf : ℕ → Bounds → ℕ → Type 0
  WindowOf start b = Window words start places b.lower b.upper

  abbrev pub until_in : Until → Signal chains
  until_in u t = until_at chains (side_said u.direction) (signal_in words u.left places) (signal_in words u.right places) u.bounds.lower u.bounds.upper (present_of u t)

  abbrev pub ahead_in : Bool → (start lower upper : ℕ) → Signal chains
  ahead_in negated start lower upper = ahead (turned negated (signal_in words start places)) lower upper

  abbrev pub eventually_in : Bool → (start lower upper : ℕ) → Signal chains
  eventually_in dual start lower upper = eventually_at dual (signal_in words start places) lower upper

  -- the windows of an operator are there, and a row with room, which holds eventually's values at the sample before, if there is one
  abbrev pub UntilReady : Until → ℕ → List ℕ → Type 0
  UntilReady u t row = WindowOf u.left u.bounds t × WindowOf u.right u.bounds t × (places ≤ length row)

  abbrev pub EventuallyReady : Bool → (start : ℕ) → Bounds → ℕ → List ℕ → Type 0
  EventuallyReady dual start b t row = WindowOf start b t × (places ≤ length row) × Held places (eventually_in dual start b.lower b.upper) t row

-- ---- of an operand

module _ (o : Operand) (b : Bounds) where
  abbrev pub ahead_of : Bool → Signal chains
  ahead_of negated = ahead_in (words_of o.words.now) o.places negated o.start b.lower b.upper

  abbrev pub eventually_of : Bool → Signal chains
  eventually_of dual = eventually_in (words_of o.words.now) o.places dual o.start b.lower b.upper

  abbrev pub ReachedOf : (t l : ℕ) → Type 0
  ReachedOf = Reached (words_of o.words.now) o.start o.places b

  -- and the greatest of the window of sample t is known, or the value there
  abbrev pub NextReady : Bool → (t l former : ℕ) → Type 0
  NextReady negated t l former = ReachedOf (t + 1) l × (former ≡ ahead_of negated t l)

  abbrev pub PlaceReady : Bool → (t l former : ℕ) → Type 0
  PlaceReady dual t l former = ReachedOf t l × Former (eventually_of dual) t l former

  abbrev pub RowReadyOf : Bool → ℕ → List ℕ → Type 0
  RowReadyOf dual t row = EventuallyReady (words_of o.words.now) o.places dual o.start b t row
