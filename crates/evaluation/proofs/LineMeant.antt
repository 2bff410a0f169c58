-- A line that is made from the earlier lines' signals says what the logic gives it: its words, its yes verdicts and its rounds.
use mathlib.Core.Path.{◌≡◌, refl, sym, ◌∙◌, ap}
use mathlib.Core.List.{List}
use Prim.Native.Nat.{ℕ, ◌+◌, ◌<◌}
use lib.ListN.{length}
use Rattle.words.specs.Rows.{rows}
use Rattle.words.proofs.Rows.{rows_ext}
use Rattle.network.specs.Network.{Network}
use Rattle.formulas.specs.Formulas.{Line, line_in, Recording, InBits}
use Rattle.formulas.proofs.Extents.{Has, has_row}
use Rattle.logic.specs.Table.{Signal, verdicts, margins, value, value_at}
use Rattle.counting.specs.Totals.{count, sum_below, most_below}
use Rattle.logic.specs.Counts.{rounds_at}
use Rattle.formulas.specs.Formulas.{ConstantsIn}
use Rattle.counting.proofs.Totals.{sum_same, most_same}
use Rattle.lines.specs.GoodLines.{extents_of, GoodTable}
use Rattle.values.specs.Chain.{chains, chain_word, chain_verdict, chain_margin}
use Rattle.values.proofs.ChainTable.{chains_margin, chains_verdict}
use Rattle.answers.specs.Answer.{word_for}
use Rattle.answers.proofs.LineValues.{operands_same, operand_rounds_same, value_step}
use Rattle.evaluation.proofs.EarlierLines.{word_meant}

module _ (N : Network) (T : ℕ) (x : Recording) (samples : (s t l : ℕ) → InBits 27 (x s t l)) (lines : List Line) (constants : ConstantsIn (InBits 27) lines)
    (v : ℕ) (good : GoodTable v T lines) (k : ℕ) (inside : k < length lines) (earlier : ℕ → Signal chains)
    (same : (i t l : ℕ) → i < k → Has (extents_of lines i) t → l < N.places → earlier i t l ≡ value_at chains N x lines i t l) where
  abbrev here : Signal chains
  here = value chains N x earlier (line_in lines k).operator

  -- row u of the line is sample first + u
  abbrev first : ℕ
  first = (extents_of lines k).first

  abbrev many : ℕ
  many = (extents_of lines k).length

  value_meant : (u l : ℕ) → u < many → l < N.places → here (first + u) l ≡ value_at chains N x lines k (first + u) l
  value_meant u l h b =
      operands_same N v T lines good k inside chains x x (λ _ _ _ _ _ _. refl) earlier (value_at chains N x lines) same (first + u) l (has_row (extents_of lines k) u h) b
      ∙ sym (value_step N v T lines good k inside chains x (first + u) l (has_row (extents_of lines k) u h) b)

  pub words_meant : rows (λ u l. chain_word (here (first + u) l)) many (N.places) ≡ rows (λ u. word_for N T x lines k (first + u)) many (N.places)
  words_meant = rows_ext _ _ many (N.places) (λ u l h b. ap chain_word (value_meant u l h b) ∙ word_meant N T x samples lines constants k (first + u) l b)

  pub yes_meant : sum_below (λ u. sum_below (λ l. count (chain_verdict (here (first + u) l))) (N.places)) many
      ≡ sum_below (λ u. sum_below (λ l. count (value_at verdicts N x lines k (first + u) l)) (N.places)) many
  yes_meant = sum_same _ _ many (λ u h. sum_same _ _ (N.places)
      (λ l b. ap count (ap chain_verdict (value_meant u l h b) ∙ chains_verdict N x samples lines constants k (first + u) l b)))

  pub rounds_meant : most_below (λ u. most_below (λ l. rounds_at N (λ i t m. chain_margin (earlier i t m)) (line_in lines k).operator (first + u) l) (N.places)) many
      ≡ most_below (λ u. most_below (λ l. rounds_at N (value_at margins N x lines) (line_in lines k).operator (first + u) l) (N.places)) many
  rounds_meant = most_same _ _ many (λ u h. most_same _ _ (N.places)
      (λ l b. operand_rounds_same N v T lines good k inside (λ i t m. chain_margin (earlier i t m)) (value_at margins N x lines)
      (λ i t m h c d. ap chain_margin (same i t m h c d) ∙ chains_margin N x samples lines constants i t m d) (first + u) l (has_row (extents_of lines k) u h)))
