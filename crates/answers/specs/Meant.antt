-- What is meant at a line, sample and place: the definition's verdict and margin where the table has one, nothing elsewhere. Every theorem about
-- answers, lookups and calls says it by this.
use Rattle.std.specs.Prelude.{Bool, cond, ◌&&◌, List, ℕ, ltb, length}
use Rattle.network.specs.Network.{Network}
use Rattle.formulas.specs.Formulas.{has, Line, line_in, Recording}
use Rattle.logic.specs.Table.{verdicts, margins, value_at}
use Rattle.values.specs.Said.{Said, says, nothing}

-- the line, the sample and the place are there
abbrev pub present : Network → List Line → ℕ → ℕ → ℕ → Bool
present N lines i t l = ltb i (length lines) && (has (line_in lines i).extent t && ltb l (N.places))

abbrev pub meant_at : Network → Recording → List Line → ℕ → ℕ → ℕ → Said
meant_at N x lines i t l = cond (present N lines i t l) (says (value_at verdicts N x lines i t l) (value_at margins N x lines i t l)) nothing
