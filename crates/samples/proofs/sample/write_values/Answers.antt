-- Values side by side, as the sample whose stride is 1.
use mathlib.Core.Path.{ap, ◌∙◌}
use native.Mathlib.Omega.{arith}
use Prim.Native.Nat.{ℕ}
use lib.ListN.{length}
use Rattle.words.specs.Bytes.{words_of}
use Rattle.words.specs.Rows.{row, put}
use Rattle.counting.specs.Totals.{count, sum_below}
use Rattle.values.specs.Chain.{chain_word, chain_verdict}
use Rattle.samples.proofs.LineRows.{entry_one, side_by_side}
use Rattle.samples.proofs.sample.write_values.Goals as goal

pub write_sample-requires : goal.write_sample-requires
write_sample-requires c =
    (record { inside = λ l h. omega arith; bound = λ l h. rw (entry_one c.args.values.now l) (c.requires.0 l (omega arith)) }, omega (arith, c.requires.1))

pub returns-clause-written : goal.returns-clause-written
returns-clause-written c =
    c.write_sample.ensures.written
    ∙ ap (λ (f : ℕ → ℕ). put (words_of c.args.line.now) c.args.to (row (λ l. chain_word (f l)) (length c.args.values.now))) (side_by_side c.args.values.now)

pub returns-clause-counted : goal.returns-clause-counted
returns-clause-counted c =
    c.write_sample.ensures.counted ∙ ap (λ (f : ℕ → ℕ). sum_below (λ l. count (chain_verdict (f l))) (length c.args.values.now)) (side_by_side c.args.values.now)

pub returns-clause-tail : goal.returns-clause-tail
returns-clause-tail c = c.write_sample.ensures.tail
