-- The first word is put, and where the operands stand says which writer goes on behind it; what that writer asks for is what the line reads.
use native.Mathlib.Omega.{arith}
use Rattle.words.proofs.Words.{words_count}
use Rattle.evaluation.proofs.AcceptedTable.{table_known}
use Rattle.evaluation.proofs.OwnWords.{line_here, own_written}
use Rattle.evaluation.proofs.line.write_line.Goals as goal

pub first_word-requires : goal.first_word-requires
first_word-requires c = omega (arith, c.requires.ready.good.ends, (table_known c.args.accepted.accepting).sizes.samples)

pub write_rows-requires : goal.write_rows-requires
write_rows-requires c =
    let g = c.args in
    let table = table_known g.accepted.accepting in (
      record {
        sheet = table.surveyed.sheet;
        few = omega (arith, c.requires.ready.good.ends, table.sizes.samples);
        reads = (line_here g.accepted.accepting g.line c.requires.ready c.requires.places c.locate.ensures c.in-Rows.is).reads;
      },
      omega (arith, c.requires.fits, words_count g.own.now, words_count c.split_at_mut-verdicts.result.1.now, c.put_word.auto.s, c.split_at_mut-verdicts.ensures.back_len),
    )

pub write_around-requires : goal.write_around-requires
write_around-requires c =
    let g = c.args in (
      (line_here g.accepted.accepting g.line c.requires.ready c.requires.places c.locate.ensures c.in-Blocks.is).reads,
      omega (arith, c.requires.fits, words_count g.own.now, words_count c.split_at_mut-verdicts.result.1.now, c.put_word.auto.s, c.split_at_mut-verdicts.ensures.back_len),
    )

pub returns-in-Rows : goal.returns-in-Rows
returns-in-Rows c =
    let g = c.args in
    let put = c.put_word.ensures in
    let split = c.split_at_mut-verdicts.ensures in
    let done = c.write_rows.ensures in
    let own = own_written g.accepted.accepting g.line c.requires.ready c.requires.places c.locate.ensures c.in-Rows.is g.own.now c.requires.fits c.first_word.ensures put.stored put.bytes
    split.front split.back _ done.written done.tail in
    record { written = own.0; tail = own.1 }

pub returns-in-Blocks : goal.returns-in-Blocks
returns-in-Blocks c =
    let g = c.args in
    let put = c.put_word.ensures in
    let split = c.split_at_mut-verdicts.ensures in
    let done = c.write_around.ensures in
    let own = own_written g.accepted.accepting g.line c.requires.ready c.requires.places c.locate.ensures c.in-Blocks.is g.own.now c.requires.fits c.first_word.ensures put.stored put.bytes
    split.front split.back _ done.written done.tail in
    record { written = own.0; tail = own.1 }
