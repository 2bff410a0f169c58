-- An accepted sheet has no more samples than the most.
use Rattle.evaluation.proofs.AcceptedTable.{table_known}
use Rattle.evaluation.proofs.accepted.Accepted.line_at.Goals as goal

pub decode_line-requires-clause-within : goal.decode_line-requires-clause-within
decode_line-requires-clause-within c = ((table_known c.args.self.accepting).sizes.samples.1, c.requires.within)
