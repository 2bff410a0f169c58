-- Where there is room, the words that are made are those that are to be left: `ready` and `sheet_made`.
use native.Mathlib.Omega.{arith}
use Rattle.checks.proofs.Answered.{said_ok}
use Rattle.conversion.proofs.Converting.{ready, sheet_made}
use Rattle.conversion.proofs.make.Goals as goal

pub write_sheet-requires : goal.write_sheet-requires
write_sheet-requires c = ready _ _ _ _ (said_ok _ c.check_words.ensures c.in_ok-layout.was) (omega arith) (omega arith)

pub returns : goal.returns
returns c = sheet_made _ _ _ _ (said_ok _ c.check_words.ensures c.in_ok-layout.was) (omega arith) (omega arith) _ (omega arith) c.write_sheet.auto.output c.write_sheet.ensures
