-- The lookup gives 0 exactly where document 01 says so ("The answer"), whatever the words are: they are no whole answer, or the line, the sample
-- or the place is not in it. Everywhere else it gives 1 or 2.
use mathlib.Core.Path.{◌≡◌, refl}
use mathlib.Core.Logic.{◌⊎◌, inl, inr, ⊎_elim}
use mathlib.Core.Bool.{Bool, true, false, not, cond, and-false}
use mathlib.Core.List.{List}
use Prim.Native.Nat.{ℕ, ◌+◌, ◌-◌, ◌*◌, ◌<◌, ◌≤◌}
use native.Mathlib.Omega.{arith}
use lib.Dec.{T, leb, eqb}
use borrow.Author.Tests.{lt-ltb, le-ltb}
use Rattle.words.specs.Word.{bits}
use Rattle.words.proofs.Rows.{in_table}
use Rattle.formulas.specs.Formulas.{Extent, end_of, has}
use Rattle.formulas.proofs.Extents.{has_e}
use Rattle.counting.proofs.Tests.{holds, fails, and_l, and_r, dec_T}
use Rattle.logic.proofs.Quantifiers.{all_e}
use Rattle.checks.specs.Checked.{word_at, is_kind}
use Rattle.checks.specs.Heads.{places_of}
use Rattle.values.specs.Said.{Said, says, nothing, said_by}
use Rattle.values.proofs.Naturals.{le_or_lt}
use Rattle.lookup.specs.Lookup.{is_said, verdict_number, all, head_lines, head_samples, line_start, line_extent, whole_head, whole_line_at, whole_line, whole_answer, said_at, looked_up}

-- ---- a test decides between a number and 0
chosen : (b : Bool) (number : ℕ) → T b → cond b number 0 ≡ number
chosen true number h = refl
chosen false number h = absurd h

pub zero_chosen : (b : Bool) (number : ℕ) → T (not b) ⊎ (number ≡ 0) → cond b number 0 ≡ 0
zero_chosen true number h = ⊎_elim (λ k. absurd k) (λ e. e) h
zero_chosen false number h = refl

pub chosen_zero : (b : Bool) (number : ℕ) → cond b number 0 ≡ 0 → T (not b) ⊎ (number ≡ 0)
chosen_zero true number e = inr e
chosen_zero false number e = inl tt

one_or_two : (s : Said) → T (is_said s) → (verdict_number s ≡ 1) ⊎ (verdict_number s ≡ 2)
one_or_two (says true m) some = inl refl
one_or_two (says false m) some = inr refl
one_or_two nothing some = absurd some

module _ (a : List ℕ) (i t l : ℕ) where
  -- the word that is asked for
  abbrev pub asked : ℕ
  asked = word_at a (line_start a i + 1 + ((t - (line_extent a i).first) * places_of a + l))

  pub whole_looked : T (whole_answer a) → looked_up a i t l ≡ verdict_number (said_at a i t l)
  unfolding looked_up
  whole_looked = chosen (whole_answer a) _

  -- ---- a whole answer says something at each line, sample and place that is in it
  whole_line_lem : T (whole_answer a) → i < head_lines a → T (whole_line a i)
  unfolding whole_answer
  whole_line_lem whole line = all_e (λ _. true) (whole_line a) (head_lines a) (and_l (all (whole_line a) (head_lines a)) _ (and_r (whole_head a) _ whole)) i line tt

  line_says : T (whole_line a i) → T (has (line_extent a i) t) → l < places_of a → T (is_said (said_by asked))
  unfolding whole_line_at
  line_says whole sample place =
      let at : ℕ = line_start a i in
      let e : Extent = line_extent a i in
      let good = and_r (eqb (bits 24 4 (word_at a at)) 0) _ (and_r (is_kind 14 a at) _ whole) in
      let verdicts = and_r (leb (end_of e) (head_samples a)) _ (and_r (leb 1 e.length) _ good) in
      let among = has_e e t sample in
      let row : t - e.first < e.length = omega (arith, among.from, among.to) in
      all_e (λ _. true) (λ j. is_said (said_by (word_at a (at + 1 + j)))) (e.length * places_of a) verdicts ((t - e.first) * places_of a + l) (in_table row place) tt

  pub says_there : i < head_lines a → T (has (line_extent a i) t) → l < places_of a → said_at a i t l ≡ said_by asked
  unfolding said_at
  says_there line sample place = simp (lt-ltb i (head_lines a) line, holds (has (line_extent a i) t) sample, lt-ltb l (places_of a) place)

  pub verdict_there : T (whole_answer a) → i < head_lines a → T (has (line_extent a i) t) → l < places_of a → (looked_up a i t l ≡ 1) ⊎ (looked_up a i t l ≡ 2)
  verdict_there whole line sample place = rw (whole_looked whole, says_there line sample place) (one_or_two (said_by asked) (line_says (whole_line_lem whole line) sample place))

  -- ---- no whole answer, or no such line, sample or place
  abbrev pub NotInIt : Type 0
  NotInIt = (head_lines a ≤ i) ⊎ (T (not (has (line_extent a i) t)) ⊎ (places_of a ≤ l))

  pub says_none : NotInIt → verdict_number (said_at a i t l) ≡ 0
  unfolding said_at
  says_none = ⊎_elim (λ line. rw (le-ltb i (head_lines a) line) refl) (⊎_elim
      (λ sample. rw (fails (has (line_extent a i) t) sample, and-false) refl)
      (λ place. rw (le-ltb l (places_of a) place, and-false (has (line_extent a i) t), and-false) refl))

  no_place : looked_up a i t l ≡ 0 → T (whole_answer a) → i < head_lines a → T (has (line_extent a i) t) → places_of a ≤ l
  no_place zero whole line sample = ⊎_elim (λ h. h)
      (λ place. absurd (⊎_elim (λ one. omega (arith, zero, one)) (λ two. omega (arith, zero, two)) (verdict_there whole line sample place)))
      (le_or_lt (places_of a) l)

  pub zero_exactly : (looked_up a i t l ≡ 0 → T (not (whole_answer a)) ⊎ NotInIt) × (T (not (whole_answer a)) ⊎ NotInIt → looked_up a i t l ≡ 0)
  unfolding looked_up
  zero_exactly = (zero_only, λ none. zero_chosen (whole_answer a) _ (⊎_elim inl (λ h. inr (says_none h)) none))
    where
      zero_only : looked_up a i t l ≡ 0 → T (not (whole_answer a)) ⊎ NotInIt
      zero_only zero = ⊎_elim
          (λ whole. inr (⊎_elim inl
          (λ line. inr (⊎_elim (λ sample. inr (no_place zero whole line sample)) inl
          (dec_T (has (line_extent a i) t))))
          (le_or_lt (head_lines a) i)))
          inl
          (dec_T (whole_answer a))
