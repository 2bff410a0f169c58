-- Each turn puts one byte more of those that are copied.
use Rattle.words.proofs.Puts.{put-take}
use Rattle.std.proofs.Common.{rules}
use Rattle.words.proofs.copy_bytes.Goals as goal

pub loop-i-preserved : goal.loop-i-preserved
loop-i-preserved c =
    let g = c.args in
    let h = c.loop-i in
    (search rules, search rules, rw h.invariant.2 (put-take g.to.now g.at g.from.now h.i (search rules) (search rules)))
