-- What an answer of the code without a refusal says of the check that it stands for.
use mathlib.Core.Path.{◌≡◌, sym, ap, ◌∙◌}
use Rattle.std.specs.Prelude.{Result, Ok}
use Rattle.checks.specs.declared.fault.Refusal.{Refusal}
use Rattle.checks.specs.Checked.{Checked, accepted}
use Rattle.checks.specs.Said.{said}

pub said_ok : {A B : Type 0} (f : A → B) {r : Result A Refusal} {found : A} {checked : Checked B} → said f r ≡ checked → r ≡ Ok found → checked ≡ accepted (f found)
said_ok f told was = sym told ∙ ap (said f) was
