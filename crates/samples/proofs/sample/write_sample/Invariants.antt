-- Each turn puts the word of one place more after those of the sample, and counts its verdict.
use mathlib.Core.Path.{◌≡◌}
use Prim.Native.Nat.{◌-◌, ◌≤◌}
use lib.ListN.{length}
use Rattle.words.specs.Bytes.{words_of, after_words}
use Rattle.words.specs.Rows.{row, put}
use Rattle.counting.specs.Totals.{count, sum_below}
use Rattle.values.specs.Chain.{chain_word, chain_verdict}
use Rattle.samples.specs.Sample.{entry}
use Rattle.samples.proofs.sample.write_sample.Given as goal

abbrev pub invariant-loop-l : goal.invariant-loop-l
invariant-loop-l l = (l.l ≤ l.places) × (length l.line ≡ length l.initial.line)
    × (words_of l.line ≡ put (words_of l.initial.line) l.to (row (λ k. chain_word (entry l.values l.stride l.offset k)) l.l))
    × (l.yes ≡ sum_below (λ k. count (chain_verdict (entry l.values l.stride l.offset k))) l.l)
    × (after_words l.line ≡ after_words l.initial.line)

abbrev pub decreases-loop-l : goal.decreases-loop-l
decreases-loop-l l = l.places - l.l
