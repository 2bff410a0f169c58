-- What the reads before gave, and then what this one gave, is what the reader lost; a read that fails gives nothing.
use Rattle.std.proofs.Common.{rules}
use Rattle.input.proofs.Reading.{read_more, read_failed}
use Rattle.input.proofs.read_full.Goals as goal

pub loop-done-preserved : goal.loop-done-preserved
loop-done-preserved g c = (search rules, read_more _ _ _ c.loop-done.invariant.0 _ _ _ _ c.in_ok-n.ensures.bound.0 c.loop-done.invariant.1 c.in_ok-n.ensures.bytes.0)

pub returns-in_err-n-clause-failed : goal.returns-in_err-n-clause-failed
returns-in_err-n-clause-failed g c = read_failed c.loop-done.buf c.read.new.buf _ c.loop-done.invariant.0 _ _ _ _ (search rules) c.loop-done.invariant.1 c.in_err-n.ensures.bytes
