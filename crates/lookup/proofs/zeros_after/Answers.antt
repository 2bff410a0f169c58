-- The search goes over the words after the index.
use Rattle.std.proofs.Common.{rules, ◌≡◌, ℕ, ◌<◌, true, false, length}
use Rattle.std.proofs.iter.runs.Sources.{ranges}
use lib.Dec.{T, ltb, eqb}
use Rattle.words.specs.Bytes.{words_of}
use Rattle.checks.specs.Checked.{word_at}
use Rattle.lookup.proofs.Walk.{all_told}
use Rattle.lookup.proofs.zeros_after.Goals as goal

passes : (c : goal.After-all) → c.all.result ≡ true → (j : ℕ) → j < length (words_of c.args.answer.now) → T (ltb c.args.at j) → eqb (word_at (words_of c.args.answer.now) j) 0 ≡ true
passes c e = search (rules, ranges)

fails : (c : goal.After-all) → c.all.result ≡ false → (j : ℕ) × (j < length (words_of c.args.answer.now)) × T (ltb c.args.at j) × (eqb (word_at (words_of c.args.answer.now) j) 0 ≡ false)
fails c e = search (rules, ranges)

pub returns : goal.returns
returns c = all_told (ltb c.args.at) (λ k. eqb (word_at (words_of c.args.answer.now) k) 0) _ c.all.result (passes c) (fails c)
