-- For contracts alone: the numbers of the kinds that stand in lists of corrections alone, bits 31..28.
use Rattle.std.specs.Prelude.{ℕ}
use Rattle.corrections.specs.declared.naming.Naming.{Naming}
use Rattle.corrections.specs.declared.naming.Naming.TheVariants.{Sample, Place}

abbrev pub naming_number : Naming → ℕ
naming_number Sample = 11
naming_number Place = 12
