-- Two sheets compared: what is decided on them, and what their answers say at one line, sample and place. Both have a verdict there or neither has, and the
-- verdicts with their margins stand as demand 3 or request M-103 asks.
use Rattle.std.specs.Prelude.{Bool, ℕ}
use Rattle.logic.specs.Margin.{Margin}
use Rattle.logic.specs.Steadiness.{SteadyVerdicts}
use Rattle.logic.specs.Raising.{RaisedVerdicts}
use Rattle.values.specs.Said.{Said, says, nothing}
use Rattle.answers.specs.Judged.{Judged}

-- what is decided on a sheet: the number, 0 if it is accepted, and the place
abbrev pub decision : Judged → ℕ × ℕ
decision j = (j.result.number, j.result.place)

abbrev pub BothSay : (Bool → Bool → Margin → Margin → Type 0) → Said → Said → Type 0
BothSay Stand (says v m) (says w k) = Stand v w m k
BothSay Stand (says v m) nothing = ⊥
BothSay Stand nothing (says w k) = ⊥
BothSay Stand nothing nothing = Unit {0}

-- demand 3: the margins are at most d apart or the same infinity; where the first is beyond d, both verdicts are yes if it is positive and both are
-- no if it is negative
abbrev pub Steady : ℕ → Said → Said → Type 0
Steady d = BothSay (SteadyVerdicts d)

-- M-103: a yes stays a yes, and the margin is no lower
abbrev pub Raised : Said → Said → Type 0
Raised = BothSay RaisedVerdicts
