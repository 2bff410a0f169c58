-- The number that the lookup tells of a verdict, 0 of none. For contracts alone: what an answer says is in Lookup.antt.
use Rattle.std.specs.Prelude.{ℕ, Option, Some, None}
use Rattle.lookup.specs.declared.Verdict.{Verdict}
use Rattle.lookup.specs.declared.Verdict.TheVariants.{Yes, No}

abbrev pub told : Option Verdict → ℕ
told (Some Yes) = 1
told (Some No) = 2
told None = 0
