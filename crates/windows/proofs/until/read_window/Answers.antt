-- Once the least of left is no more than until so far at every place, until so far is until.
use Rattle.windows.proofs.Carried.{enough_read}
use Rattle.windows.proofs.until.read_window.Goals as goal

pub returns-then-is_known : goal.returns-then-is_known
returns-then-is_known c =
    let loop = c.loop-k in
    record { at = λ lane b. enough_read c.args.operands.until.bounds.upper (loop.invariant.3 lane b) loop.invariant.0 (c.is_known.ensures.known c.if-is_known.true lane b) }
