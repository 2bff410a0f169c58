-- For inner contracts only: two tallies as one, the greater rounds, and the yes verdicts of both.
use Rattle.std.specs.Prelude.{◌+◌, max}
use Rattle.samples.specs.declared.tally.Tally.{Tally}

abbrev pub together : Tally → Tally → Tally
together a b = record { rounds = max a.rounds b.rounds; yes = a.yes + b.yes }
