-- Demand 3 whole, about the words of two answers: X and Y are sheets alike in every word but their samples, these at most d apart, each
-- accepted, whatever was lent to either. At every line, sample and place both answers have a verdict or neither has; the margins are at most
-- d apart or the same infinity; and where X's margin is beyond d, both verdicts are yes if it is positive and both are no if it is negative.
use mathlib.Core.Path.{◌≡◌}
use mathlib.Core.List.{List}
use Prim.Native.Nat.{ℕ, ◌≤◌}
use lib.IntN.{nat_abs, ◌-ℤ◌}
use Rattle.logic.specs.Steadiness.{SteadyVerdicts}
use Rattle.logic.proofs.Steadiness.{values_steady}
use Rattle.sheet.specs.Recording.{network, recording}
use Rattle.sheet.specs.Alike.{SamplesApart}
use Rattle.sheet.proofs.SameNetwork.{recordings_near}
use Rattle.lookup.specs.Lookup.{said_at}
use Rattle.answers.specs.Judged.{judged}
use Rattle.answers.specs.Compared.{Steady}
use Rattle.answers.proofs.Compared.{answers_stand}

pub steadiness : (d : ℕ) (X Y : List ℕ) → SamplesApart d X Y → (dx ax dy ay : ℕ) → (judged X dx ax).result.number ≡ 0 → (judged Y dy ay).result.number ≡ 0
    → (i t l : ℕ) → Steady d (said_at (judged X dx ax).answer i t l) (said_at (judged Y dy ay).answer i t l)
unfolding network
steadiness d X Y apart = answers_stand (λ x y. nat_abs (x -ℤ y) ≤ d) X Y apart (SteadyVerdicts d)
    (λ dx L sheet. values_steady d (network X L) (recording X L) (recording Y L) (recordings_near d X Y apart L) L.lines)
