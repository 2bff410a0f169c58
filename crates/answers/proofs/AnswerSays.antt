-- What an answer says: at a line, sample and place that has a verdict, the verdict and margin of the definition; elsewhere nothing.
use mathlib.Core.Path.{◌≡◌, refl, ap, ap₂, ◌∙◌}
use mathlib.Core.Bool.{Bool, true, false, cond, ◌&&◌}
use mathlib.Core.List.{List}
use Prim.Native.Nat.{ℕ, ◌+◌, ◌-◌, ◌*◌, ◌<◌}
use native.Mathlib.Nat.{le_of_lt}
use native.Mathlib.Omega.{arith}
use lib.Dec.{T, ltb, ltb→lt}
use lib.ListN.{length}
use Rattle.network.specs.Network.{Network}
use Rattle.formulas.specs.Formulas.{Extent, has, Line, line_in, Recording, InBits, ConstantsIn}
use Rattle.formulas.proofs.Extents.{has_e}
use Rattle.logic.specs.Table.{verdicts, margins, value_at}
use Rattle.logic.proofs.Agreement.{agreement}
use Rattle.logic.proofs.Small.{margins_small}
use Rattle.checks.specs.Checked.{word_at}
use Rattle.values.specs.Said.{Said, says, nothing, said_by}
use Rattle.answers.specs.Meant.{meant_at}
use Rattle.answers.specs.Answer.{word_for}
use Rattle.checks.specs.Heads.{places_of}
use Rattle.lookup.specs.Lookup.{head_lines, line_start, line_extent, said_at}
use Rattle.lookup.proofs.Exactly.{asked}
use Rattle.values.proofs.ReadBack.{read_back_lem}
use Rattle.answers.proofs.AnswerHead.{InFields, places_read, lines_read}
use Rattle.answers.proofs.AnswerWords.{answer, start_read, extent_read, verdict_word_lem}

-- a choice by three tests in turn
same_choice : (p q r p' q' r' : Bool) (a b c : Said) → p ≡ p' → (T p' → q ≡ q') → r ≡ r' → (T p' → T q' → T r' → a ≡ b)
    → cond (p && (q && r)) a c ≡ cond (p' && (q' && r')) b c
same_choice p q r false q' r' a b c e f g h = rw e refl
same_choice p q r true false r' a b c e f g h = rw (e, f tt) refl
same_choice p q r true true false a b c e f g h = rw (e, f tt, g) refl
same_choice p q r true true true a b c e f g h = rw (e, f tt, g) (h tt tt tt)

module _ (wide : Bool) (N : Network) (horizon : ℕ) (x : Recording) (lines : List Line) (room : ℕ) (fits : InFields wide (N.places) horizon lines)
    (samples : (s t l : ℕ) → InBits 27 (x s t l)) (constants : ConstantsIn (InBits 27) lines) where
  -- verdict and margin of the definition
  abbrev meant : ℕ → ℕ → ℕ → Said
  meant i t l = says (value_at verdicts N x lines i t l) (value_at margins N x lines i t l)

  pub word_says : (i t l : ℕ) → l < N.places → said_by (word_for N horizon x lines i t l) ≡ meant i t l
  unfolding word_for
  word_says i t l b = read_back_lem (value_at verdicts N x lines i t l) (value_at margins N x lines i t l)
      (agreement N x lines i t l b) (margins_small N x samples lines constants i t l b)

  abbrev a : List ℕ
  a = answer wide N horizon x lines room fits

  said_present : (i t l : ℕ) → i < length lines → T (has (line_in lines i).extent t) → l < N.places → said_by (asked a i t l) ≡ meant i t l
  said_present i t l h k b =
      let e : Extent = (line_in lines i).extent in
      let in_line = has_e e t k in
      let row : t - e.first < e.length = omega (arith, in_line.from, in_line.to) in
      let back : e.first + (t - e.first) ≡ t = omega (arith, in_line.from) in
      ap said_by
      (ap (λ (f : Extent). word_at a (line_start a i + 1 + ((t - f.first) * places_of a + l))) (extent_read wide N horizon x lines room fits i h)
      ∙ ap₂ (λ at n. word_at a (at + 1 + ((t - e.first) * n + l))) (start_read wide N horizon x lines room fits i (le_of_lt h)) (places_read N horizon x lines room wide fits)
      ∙ verdict_word_lem wide N horizon x lines room fits i (t - e.first) l h row b
      ∙ ap (λ s. word_for N horizon x lines i s l) back)
      ∙ word_says i t l b

  pub answer_says : (i t l : ℕ) → said_at (answer wide N horizon x lines room fits) i t l ≡ meant_at N x lines i t l
  unfolding said_at
  answer_says i t l =
      same_choice (ltb i (head_lines a)) (has (line_extent a i) t) (ltb l (places_of a)) (ltb i (length lines)) (has (line_in lines i).extent t) (ltb l (N.places)) _ _ nothing
      (ap (ltb i) (lines_read N horizon x lines room wide fits))
      (λ h. ap (λ (e : Extent). has e t) (extent_read wide N horizon x lines room fits i (ltb→lt i (length lines) h)))
      (ap (ltb l) (places_read N horizon x lines room wide fits))
      (λ h k b. said_present i t l (ltb→lt i (length lines) h) k (ltb→lt l (N.places) b))
