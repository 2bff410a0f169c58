-- For contracts alone, with nothing of document 01: what an answer of the code says as a check, given what is said of what it found.
use Rattle.std.specs.Prelude.{Result, Ok, Err}
use Rattle.checks.specs.declared.fault.Refusal.{Refusal}
use Rattle.checks.specs.Faults.{fault_number}
use Rattle.checks.specs.Checked.{Checked, accepted, refused}

abbrev pub said : {A B : Type 0} → (A → B) → Result A Refusal → Checked B
said f (Ok found) = accepted (f found)
said f (Err refusal) = refused (fault_number refusal.fault) refusal.place
