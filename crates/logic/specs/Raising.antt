-- Request M-103, "more bikes, no fewer yeses": the lines that it allows, and what becomes of a verdict and its margin where no sample is lower.
use Rattle.std.specs.Prelude.{◌≡◌, Bool, true, T}
use Rattle.formulas.specs.Formulas.{Operator, Asked}
use Rattle.logic.specs.Margin.{Margin, at_most}

-- every line but an "at most" (code 2) and a Not (code 3)
abbrev pub Rising : Operator → Type 0
Rising = Asked (λ _. Unit {0}) (λ _. ⊥) ⊥

-- of a verdict v with its margin m before and a verdict w with its margin k after: a yes stays a yes, and the margin is no lower
pub record RaisedVerdicts (v w : Bool) (m k : Margin) : Type 0 where
  pub stays_yes : v ≡ true → w ≡ true
  pub no_lower : T (at_most m k)
