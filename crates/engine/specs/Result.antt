-- The result's five numbers, as a host is told of what the engine answers.
use Rattle.std.specs.Prelude.{Result, Ok, Err}
use Rattle.checks.specs.Faults.{fault_number}
use Rattle.checks.specs.declared.fault.Refusal.{Refusal}
use Rattle.answers.specs.Judged as J
use Rattle.engine.specs.declared.Answered.{Answered}

abbrev pub result_said : Result Answered Refusal → J.Result
result_said (Ok answered) = record { number = 0; place = 0; words = answered.words; rounds = answered.rounds; yes = answered.yes }
result_said (Err refusal) = record { number = fault_number refusal.fault; place = refusal.place; words = 0; rounds = 0; yes = 0 }
