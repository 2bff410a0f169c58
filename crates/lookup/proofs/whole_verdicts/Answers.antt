-- The search goes over the words from the start on.
use Rattle.std.proofs.Common.{rules, ◌≡◌, ℕ, ◌+◌, ◌<◌, true, false}
use Rattle.std.proofs.iter.runs.Sources.{ranges}
use lib.Dec.{T}
use Rattle.words.specs.Bytes.{words_of}
use Rattle.checks.specs.Checked.{word_at}
use Rattle.values.specs.Said.{said_by}
use Rattle.lookup.specs.Lookup.{is_said}
use Rattle.lookup.proofs.Walk.{all_told}
use Rattle.lookup.proofs.whole_verdicts.Goals as goal

passes : (c : goal.After-all) → c.all.result ≡ true → (j : ℕ) → j < c.args.count → T true → is_said (said_by (word_at (words_of c.args.answer.now) (c.args.start + j))) ≡ true
passes c e = search (rules, ranges)

fails : (c : goal.After-all) → c.all.result ≡ false → (j : ℕ) × (j < c.args.count) × T true × (is_said (said_by (word_at (words_of c.args.answer.now) (c.args.start + j))) ≡ false)
fails c e = search (rules, ranges)

pub returns : goal.returns
returns c = all_told (λ _. true) (λ j. is_said (said_by (word_at (words_of c.args.answer.now) (c.args.start + j)))) _ c.all.result (passes c) (fails c)
