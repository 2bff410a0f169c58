-- What until and since carry along their window (M-102), said for every reading: margins, verdicts, and the numbers in which the engine has both.
use Rattle.std.specs.Prelude.{◌≡◌, List, ℕ, ◌+◌, ◌<◌, get_or}
use Rattle.formulas.specs.Formulas.{Direction}
use Rattle.logic.specs.Table.{Reading, Signal, least_so_far, until_so_far}
use Rattle.values.specs.Chain.{chains}
use Rattle.values.specs.Signals.{signal_in}
use Rattle.windows.specs.declared.group.Group.{Group}
use Rattle.windows.specs.declared.until.Until.{Until}
use Rattle.codes.specs.Decoding.{side_said}
use Rattle.windows.specs.Rows.{present_of}

-- after n samples read: the least of left so far, and until for the window read so far
pub record Carries (R : Reading) (side : Direction) (left right : Signal R) (lower t l n : ℕ) (least best : R.lattice.Value) : Type 0 where
  pub least_so_far_lem : least ≡ least_so_far R side left t l n
  pub until_so_far_lem : best ≡ until_so_far R side left right lower t l n

-- at every place of a group, on the signals that begin at an index of the words each
abbrev pub CarriesGroup : List ℕ → (places : ℕ) → Until → (t : ℕ) → Group → ℕ → (least best : List ℕ) → Type 0
CarriesGroup words places u t g n least best = (lane : ℕ) → lane < g.count
    → Carries chains (side_said u.direction) (signal_in words u.left places) (signal_in words u.right places) u.bounds.lower (present_of u t) (g.first + lane) n (get_or least lane 0) (get_or best lane 0)
