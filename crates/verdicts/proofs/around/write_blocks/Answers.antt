-- Each turn writes the samples of one block more behind those before it; the last block ends where the line does.
use mathlib.Core.Path.{◌≡◌}
use Prim.Native.Nat.{◌+◌, ◌*◌, ◌≤◌, min}
use native.Mathlib.Omega.{arith}
use lib.ListN.{length, length-replicate}
use Rattle.words.specs.Bytes.{words_of}
use Rattle.words.proofs.Words.{words_count}
use Rattle.lanes.specs.Lanes.{lanes}
use Rattle.samples.specs.Tally.{together}
use Rattle.verdicts.specs.Around.{value_in, rounds_in}
use Rattle.verdicts.proofs.Blocks.{block_inside, block_fits, SoFar, none_so_far, more_so_far, yes_small}
use Rattle.std.proofs.Common.{rules}
use Rattle.verdicts.proofs.around.write_blocks.Goals as goal
use Rattle.verdicts.proofs.around.write_blocks.Goals.{After-write_block-here}

-- one block more
longer : (g : _) (c : After-write_block-here g)
    → SoFar (value_in c.args.line) (rounds_in c.args.line) c.args.line.layout.places c.args.own.now (c.loop-k.k * lanes + c.min.result) c.write_block-here.new.own (together c.loop-k.tally c.write_block-here.result)
longer g c =
    let block = block_inside c.div_ceil-k-end.ensures c.loop-k-test.true c.min.ensures in
    more_so_far _ _ _ _ (rw block.3 at c.loop-k.invariant.1) c.min.result c.write_block-here.auto.own c.write_block-here.ensures.written c.write_block-here.ensures.tail

pub loop-k-init : goal.loop-k-init
loop-k-init g c =
    let none : min 0 c.args.samples ≡ 0 = omega arith in
    (length-replicate g.row.N _, rw none (none_so_far _ _ _ _))

pub write_block-here-requires : goal.write_block-here-requires
write_block-here-requires g c =
    let block = block_inside c.div_ceil-k-end.ensures c.loop-k-test.true c.min.ensures in
    let room : c.args.samples * c.args.line.layout.places ≤ length (words_of c.loop-k.own) =
    omega (arith, c.requires.room, c.loop-k.invariant.1.long, words_count c.args.own.now, words_count c.loop-k.own) in
    let fits = block_fits c.requires.ready room block.0 block.1 block.2 in
    (fits.0, omega (arith, c.loop-k.invariant.0, c.requires.fits), c.requires.fits, fits.1)

pub with-tally-requires : goal.with-tally-requires
with-tally-requires g c =
    let block = block_inside c.div_ceil-k-end.ensures c.loop-k-test.true c.min.ensures in
    omega (arith, yes_small _ _ _ _ (longer g (goal.at.with-tally-requires g c).After-write_block-here) (omega (arith, block.2, c.requires.ready.few)) c.requires.ready.few_places.1)

pub loop-k-preserved : goal.loop-k-preserved
loop-k-preserved g c =
    let block = block_inside c.div_ceil-k-end.ensures c.loop-k-test.true c.min.ensures in
    (search rules, rw (block.4, c.with-tally.ensures) (longer g (goal.at.loop-k-preserved g c).After-write_block-here))

pub returns-clause-written : goal.returns-clause-written
returns-clause-written g c =
    let all : min (c.loop-k.k * lanes) c.args.samples ≡ c.args.samples = omega (arith, c.div_ceil-k-end.ensures) in
    rw all at c.loop-k.invariant.1.written
