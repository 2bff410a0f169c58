-- The chain reading of a table has in each place one number, whose margin and verdict are those of the other two readings.
use mathlib.Core.Path.{◌≡◌, ap, ◌∙◌}
use mathlib.Core.Bool.{not}
use mathlib.Core.List.{List}
use Prim.Native.Nat.{ℕ, ◌<◌}
use lib.IntN.{◌-ℤ◌}
use Rattle.logic.specs.Margin.{negate}
use Rattle.network.specs.Network.{Network}
use Rattle.formulas.specs.Formulas.{Line, Recording, InBits}
use Rattle.logic.specs.Table.{verdicts, margins, value_at}
use Rattle.formulas.specs.Formulas.{ConstantIn, ConstantsIn}
use Rattle.logic.proofs.TableKeeps.{value_at_kept}
use Rattle.logic.proofs.Small.{difference_small}
use Rattle.values.specs.Chain.{chain_margin, chain_verdict, chains, Valid}
use Rattle.values.proofs.Valid.{valid_kept, valid_opposite, valid_difference}
use Rattle.values.proofs.Projections.{margin_kept, margin_opposite, margin_difference, verdict_kept, verdict_opposite, verdict_difference}

module _ (N : Network) (x : Recording) (samples : (s t l : ℕ) → InBits 27 (x s t l)) (lines : List Line) (constants : ConstantsIn (InBits 27) lines) where
  pub chains_valid : (i t l : ℕ) → l < N.places → Valid (value_at chains N x lines i t l)
  chains_valid = value_at_kept chains chains N (λ c _. Valid c) valid_kept (λ c _. valid_opposite c) (ConstantIn (InBits 27)) x x
      (λ s t l c fit. valid_difference (x s t l -ℤ c) (difference_small (x s t l) c (samples s t l) fit))
      (λ s t l c fit. valid_difference (c -ℤ x s t l) (difference_small c (x s t l) fit (samples s t l)))
      lines constants

  pub chains_margin : (i t l : ℕ) → l < N.places → chain_margin (value_at chains N x lines i t l) ≡ value_at margins N x lines i t l
  chains_margin = value_at_kept chains margins N (λ c m. chain_margin c ≡ m) margin_kept (λ c m e. margin_opposite c ∙ ap negate e) (ConstantIn (InBits 27)) x x
      (λ s t l c fit. margin_difference (x s t l -ℤ c) (difference_small (x s t l) c (samples s t l) fit))
      (λ s t l c fit. margin_difference (c -ℤ x s t l) (difference_small c (x s t l) fit (samples s t l)))
      lines constants

  pub chains_verdict : (i t l : ℕ) → l < N.places → chain_verdict (value_at chains N x lines i t l) ≡ value_at verdicts N x lines i t l
  chains_verdict = value_at_kept chains verdicts N (λ c v. chain_verdict c ≡ v) verdict_kept (λ c v e. verdict_opposite c ∙ ap not e) (ConstantIn (InBits 27)) x x
      (λ s t l c fit. verdict_difference (x s t l -ℤ c) (difference_small (x s t l) c (samples s t l) fit))
      (λ s t l c fit. verdict_difference (c -ℤ x s t l) (difference_small c (x s t l) fit (samples s t l)))
      lines constants
