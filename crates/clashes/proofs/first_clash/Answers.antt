-- Each part begins with no chains, as the words are zero; `Searching` has what one part more tells.
use mathlib.Core.Path.{refl}
use native.Mathlib.Omega.{arith}
use Rattle.words.specs.Bytes.{words_of}
use Rattle.clashes.proofs.Searching.{first_start, begins_anew, first_end}
use Rattle.clashes.proofs.first_clash.Goals as goal

pub loop-from-init : goal.loop-from-init
loop-from-init c = let g = c.args in (refl, first_start (words_of g.list.now.words.now) g.list.now.grid g.list.now.count)

pub look_through-end-requires : goal.look_through-end-requires
look_through-end-requires c =
    let g = c.args in
    let loop = c.loop-from in (
      omega (arith, loop.invariant.1.inside),
      begins_anew (words_of g.list.now.words.now) g.list.now.grid (record { from = loop.from; size = g.first.size; heads = g.first.heads }) loop.end g.links.now loop.links
          c.fill_zero.new.s c.fill_zero.ensures loop.invariant.0 c.requires.linked (omega arith) loop.invariant.1.searched,
    )

pub returns : goal.returns
returns c =
    let g = c.args in
    first_end (words_of g.list.now.words.now) g.list.now.grid c.loop-from.from g.list.now.count c.loop-from.end (omega arith) c.loop-from.invariant.1
