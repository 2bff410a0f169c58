-- The words before a line hold the earlier lines' signals: what is read there are the chain numbers that the logic gives them.
use mathlib.Core.Path.{◌≡◌, sym, ◌∙◌, ap, ap₂}
use mathlib.Core.Bool.{Bool}
use mathlib.Core.List.{List, ◌++◌}
use Prim.Native.Nat.{ℕ, suc, ◌+◌, ◌*◌, ◌<◌, ◌≤◌}
use native.Mathlib.Omega.{arith}
use lib.ListN.{length, get_or, take, drop}
use lib.Seq.{length-take-le, get_or-append-add, take_at}
use Rattle.words.specs.Rows.{concat, put}
use Rattle.words.proofs.Puts.{length_front}
use Rattle.network.specs.Network.{Network}
use Rattle.formulas.specs.Formulas.{Line, line_in, Recording, InBits}
use Rattle.logic.specs.Table.{value_at}
use Rattle.formulas.specs.Formulas.{ConstantsIn}
use Rattle.checks.specs.Heads.{head_words}
use Rattle.values.specs.Said.{verdict_word}
use Rattle.values.specs.Chain.{chains, chain_word, word_chain}
use Rattle.values.specs.Signals.{signal_in}
use Rattle.values.proofs.ChainWords.{word_said, word_back}
use Rattle.values.proofs.ChainTable.{chains_valid, chains_margin, chains_verdict}
use Rattle.answers.specs.Answer.{line_index, word_for, line_words}
use Rattle.answers.proofs.AnswerWords.{sizes, lines_size, verdict_among}

module _ (N : Network) (T : ℕ) (x : Recording) (samples : (s t l : ℕ) → InBits 27 (x s t l)) (lines : List Line) (constants : ConstantsIn (InBits 27) lines) where
  -- the word of the chain number is that of verdict and margin
  pub word_meant : (i t l : ℕ) → l < N.places → chain_word (value_at chains N x lines i t l) ≡ word_for N T x lines i t l
  unfolding word_for
  word_meant i t l b =
      word_said (value_at chains N x lines i t l) (chains_valid N x samples lines constants i t l b)
      ∙ ap₂ verdict_word (chains_verdict N x samples lines constants i t l b) (chains_margin N x samples lines constants i t l b)

  module _ (wide : Bool) (answer : List ℕ) (head : head_words wide ≤ length answer) (k : ℕ) where
    abbrev done : List ℕ
    done = concat (line_words N T x lines) k

    before_line : take (line_index wide (N.places) lines k) (put answer (head_words wide) done) ≡ take (head_words wide) answer ++ done
    unfolding put line_index
    before_line =
        take_at (take (head_words wide) answer ++ done) (drop (head_words wide + length done) answer) (head_words wide + sizes N T x lines k)
        (length_front answer (head_words wide) done head ∙ ap (λ (m : ℕ). head_words wide + m) (lines_size N T x lines k))

    -- u samples after a line's first
    pub signal_before : (i u l : ℕ) → i < k → u < (line_in lines i).extent.length → l < N.places
        → signal_in (take (line_index wide (N.places) lines k) (put answer (head_words wide) done)) (line_index wide (N.places) lines i + 1) (N.places) u l
        ≡ value_at chains N x lines i ((line_in lines i).extent.first + u) l
    unfolding signal_in line_index
    signal_before i u l h among b =
        let t : ℕ = (line_in lines i).extent.first + u in
        let front : List ℕ = take (head_words wide) answer in
        let long : length front ≡ head_words wide = length-take-le (head_words wide) answer head in
        let j : ℕ = sizes N T x lines i + suc (u * N.places + l) in
        let index : line_index wide (N.places) lines i + 1 + (u * N.places + l) ≡ length front + j = omega arith in
        let word : get_or (front ++ done) (line_index wide (N.places) lines i + 1 + (u * N.places + l)) 0 ≡ word_for N T x lines i t l =
        ap (λ (m : ℕ). get_or (front ++ done) m 0) index
        ∙ get_or-append-add front done j 0 ∙ verdict_among N T x lines k i u l h among b in
        ap (λ (w : List ℕ). word_chain (get_or w (line_index wide (N.places) lines i + 1 + (u * N.places + l)) 0)) before_line
        ∙ ap word_chain (word ∙ sym (word_meant i t l b))
        ∙ word_back (value_at chains N x lines i t l) (chains_valid N x samples lines constants i t l b)
