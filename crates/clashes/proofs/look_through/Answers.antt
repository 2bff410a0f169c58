-- The corrections of the part before the next one are chained, in words as many as were lent: `comes_next`.
use native.Mathlib.Omega.{arith}
use Rattle.words.specs.Bytes.{words_of}
use Rattle.clashes.proofs.Searching.{comes_next}
use Rattle.clashes.proofs.look_through.Goals as goal

pub compare-requires : goal.compare-requires
compare-requires c =
    let g = c.args in
    let h = c.loop-k.invariant in (
      omega (arith, c.requires.0),
      comes_next (words_of g.list.now.words.now) g.list.now.grid g.part c.loop-k.k h.0 g.links.now c.loop-k.links g.end c.requires.1 c.loop-k-test.true h.2 h.3 h.4,
    )
