-- What an operator over time reads of a signal lies in the words. This is for contracts inside the engine: no promise to a host speaks of it.
use Rattle.std.specs.Prelude.{List, ℕ, ◌+◌, ◌*◌, ◌≤◌, ◌<◌, length}
use Rattle.codes.specs.declared.operator.Bounds.{Bounds}
use Rattle.windows.specs.declared.group.Group.{Group}
use Rattle.windows.specs.declared.until.Until.{Until}

-- the samples from t to t + upper at all places
pub record Window (words : List ℕ) (start places lower upper t : ℕ) : Type 0 where
  pub bounds : lower ≤ upper
  pub inside : start + (t + upper + 1) * places ≤ length words

-- and l is one of the places
pub record Reached (words : List ℕ) (start places : ℕ) (bounds : Bounds) (t l : ℕ) : Type 0 where
  pub window : Window words start places bounds.lower bounds.upper t
  pub place : l < places

-- both operands of an until, at the places of a group
pub record GroupReached (words : List ℕ) (places : ℕ) (u : Until) (t : ℕ) (g : Group) : Type 0 where
  pub left_window : Window words u.left places u.bounds.lower u.bounds.upper t
  pub right_window : Window words u.right places u.bounds.lower u.bounds.upper t
  pub some : 1 ≤ places
  pub among : g.first + g.count ≤ places
