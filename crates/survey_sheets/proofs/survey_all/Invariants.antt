-- `survey_all` ends: a count takes four bytes, even of an empty sheet, so each turn leaves fewer.
use Rattle.std.proofs.Common.{length}
use Rattle.survey_sheets.proofs.survey_all.Given as goal

abbrev pub decreases-loop-rest : goal.decreases-loop-rest
decreases-loop-rest g l = length l.rest
