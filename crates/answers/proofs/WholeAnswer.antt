-- The answer to an accepted sheet is a whole answer, so the lookup gives what the answer says.
use mathlib.Core.Path.{◌≡◌, sym, ap, ◌∙◌}
use mathlib.Core.Bool.{Bool, true, false, cond, ◌&&◌}
use mathlib.Core.List.{List, ◌++◌}
use Prim.Native.Nat.{ℕ, zero, suc, ◌+◌, ◌*◌, ◌/◌, ◌%◌, ◌^◌, ◌<◌, ◌≤◌}
use native.Mathlib.Nat.{le_of_lt, mod-lt, div-add-mod', div-lt_iff_lt-mul, mul-le-mul}
use native.Mathlib.Omega.{arith}
use lib.Dec.{T, leb, ltb, eqb, le→leb, ltb→lt}
use lib.ListN.{length}
use Rattle.words.specs.Word.{bits, payload_of}
use Rattle.logic.specs.Lattice.{verdict_lattice, least_over}
use Rattle.network.specs.Network.{Network}
use Rattle.formulas.specs.Formulas.{Extent, end_of, Line, line_in, Recording, InBits, ConstantsIn}
use Rattle.counting.specs.Totals.{sum_below}
use Rattle.counting.proofs.Tests.{and_i}
use Rattle.logic.proofs.Quantifiers.{all_i}
use Rattle.counting.proofs.Totals.{sum_below_lem}
use Rattle.checks.specs.Limits.{most_places, most_narrow, most_samples, most_lines}
use Rattle.checks.specs.Checked.{between, word_at, is_kind}
use Rattle.checks.specs.Heads.{most_of, places_of, wide_counted, wide_followed}
use Rattle.checks.proofs.Heads.{few_head_words, most_of_any}
use Rattle.checks.proofs.ReadBack as head
use Rattle.checks.proofs.Tests.{equal, in_limits, kind_there}
use Rattle.values.specs.Said.{said_by}
use Rattle.answers.specs.Answer.{line_index, first_word, answer_head}
use Rattle.lookup.specs.Lookup.{is_said, head_lines, head_samples, line_start, line_extent, whole_places, whole_head, whole_line_at, whole_line, whole_end, whole_answer}
use Rattle.answers.proofs.AnswerHead.{InFields, answer_of, after_head, begins, layout_read, places_read, lines_read, samples_read}
use Rattle.answers.proofs.AnswerWords.{answer, word_after, first_word_lem, start_read, extent_read, verdict_word_lem, end_word, zeros_after, end_inside}
use Rattle.answers.proofs.AnswerSays.{word_says}

-- sizes of an accepted sheet
pub record InAnswer (wide : Bool) (n horizon : ℕ) (lines : List Line) : Type 0 where
  pub places : (1 ≤ n) × (n ≤ most_of wide)
  pub samples : (1 ≤ horizon) × (horizon ≤ most_samples)
  pub count : (1 ≤ length lines) × (length lines ≤ most_lines)
  pub extents : (i : ℕ) → i < length lines → (1 ≤ (line_in lines i).extent.length) × (end_of (line_in lines i).extent ≤ horizon)

-- a line's first word and its verdicts
abbrev most_line_words : ℕ
most_line_words = 1 + most_samples * most_places

pub index_bound : (wide : Bool) (n horizon : ℕ) (lines : List Line) → InAnswer wide n horizon lines → (i : ℕ) → i ≤ length lines → line_index wide n lines i ≤ 2 + i * most_line_words
unfolding line_index sum_below
index_bound wide n horizon lines sizes zero h = omega (arith, few_head_words wide)
index_bound wide n horizon lines sizes (suc i) h =
    let most : n ≤ most_places = omega (arith, sizes.places.1, most_of_any wide) in
    let size : (line_in lines i).extent.length * n ≤ most_samples * most_places = mul-le-mul {n₂ = most_samples} (omega (arith, sizes.extents i h, sizes.samples)) most in
    omega (arith, index_bound wide n horizon lines sizes i (le_of_lt h))

-- and the end's fits a payload
pub end_bound : (wide : Bool) (n horizon : ℕ) (lines : List Line) → InAnswer wide n horizon lines → line_index wide n lines (length lines) < 2 ^ 28
end_bound wide n horizon lines sizes = omega (arith, index_bound wide n horizon lines sizes (length lines) (omega arith), sizes.count)

-- the places, in the head of a narrow answer or before that of a wide one
module _ (N : Network) (horizon : ℕ) (x : Recording) (lines : List Line) (room : ℕ) where
  abbrev told : Bool → List ℕ
  told wide = answer_of N horizon x lines room wide

  places_by : (wide : Bool) → InFields wide (N.places) horizon lines → (1 ≤ N.places) × (N.places ≤ most_of wide)
      → T (cond wide (wide_counted (told wide) && wide_followed (told wide) 13) (is_kind 13 (told wide) 0 && between 1 most_narrow (places_of (told wide))))
  places_by true fits most =
      let n : ℕ = N.places in
      let count = length lines in
      let rest = after_head N horizon x lines room true in
      rw (begins N horizon x lines room true)
      (and_i (wide_counted (answer_head true n count horizon ++ rest)) _ (head.wide_counted_lem 13 n count horizon rest fits.head most)
      (head.wide_followed_lem 13 n count horizon rest fits.head))
  places_by false fits most =
      and_i (is_kind 13 (told false) 0) _
      (rw (begins N horizon x lines room false) (head.narrow_kind 13 (N.places) (length lines) horizon (after_head N horizon x lines room false) fits.head))
      (rw (places_read N horizon x lines room false fits) (in_limits 1 most_narrow (N.places) most.0 most.1))

  places_whole : (wide : Bool) → InFields wide (N.places) horizon lines → (1 ≤ N.places) × (N.places ≤ most_of wide) → T (whole_places (told wide))
  unfolding whole_places
  places_whole wide fits most = rw (layout_read N horizon x lines room wide fits) (places_by wide fits most)

module _ (wide : Bool) (N : Network) (horizon : ℕ) (x : Recording) (lines : List Line) (room : ℕ) (fits : InFields wide (N.places) horizon lines)
    (samples : (s t l : ℕ) → InBits 27 (x s t l)) (constants : ConstantsIn (InBits 27) lines) (sizes : InAnswer wide (N.places) horizon lines) where
  abbrev a : List ℕ
  a = answer wide N horizon x lines room fits

  -- every index of a line stands in the answer
  index_below : (i : ℕ) → i < length lines → line_index wide (N.places) lines i < line_index wide (N.places) lines (length lines)
  unfolding line_index
  index_below i h = omega (arith, sum_below_lem (λ k. 1 + (line_in lines k).extent.length * N.places) i (length lines) h)

  -- a verdict stands at every sample and place
  verdict_there : (i : ℕ) → i < length lines → (j : ℕ) → j < (line_in lines i).extent.length * N.places → T (is_said (said_by (word_at a (line_index wide (N.places) lines i + 1 + j))))
  verdict_there i h j k =
      let n : ℕ = N.places in
      let u : j / n < (line_in lines i).extent.length = (div-lt_iff_lt-mul sizes.places.0).1 k in
      let l : j % n < n = mod-lt j sizes.places.0 in
      let word : word_at a (line_index wide n lines i + 1 + j) ≡ word_after N horizon x lines i (j / n) (j % n)
      = ap (λ m. word_at a (line_index wide n lines i + 1 + m)) (sym (div-add-mod' j n)) ∙ verdict_word_lem wide N horizon x lines room fits i (j / n) (j % n) h u l in
      rw (word, word_says wide N horizon x lines room fits samples constants i ((line_in lines i).extent.first + j / n) (j % n) l) tt

  line_whole : (i : ℕ) → i < length lines → T (whole_line a i)
  unfolding whole_line_at
  line_whole i h =
      let at : line_start a i ≡ line_index wide (N.places) lines i = start_read wide N horizon x lines room fits i (le_of_lt h) in
      let e : Extent = (line_in lines i).extent in
      let payload : e.first * 2 ^ 12 + e.length < 2 ^ 24 = omega (arith, fits.ends i) in
      let fits_word : e.first * 2 ^ 12 + e.length < 2 ^ 28 = omega arith in
      let first : word_at a (line_start a i) ≡ first_word (line_in lines i).extent = ap (word_at a) at ∙ first_word_lem wide N horizon x lines room fits i h in
      let spare : bits 24 4 (word_at a (line_start a i)) ≡ 0 = ap (bits 24 4) first ∙ omega arith in
      let read : line_extent a i ≡ e = extent_read wide N horizon x lines room fits i h in
      let samples_there : (line_extent a i).length ≡ e.length = ap (λ (f : Extent). f.length) read in
      let end_there : end_of (line_extent a i) ≡ end_of e = ap end_of read in
      let inside : line_start a i < length a = omega (arith, end_inside wide N horizon x lines room fits, index_below i h) in
      and_i (is_kind 14 a (line_start a i)) _ (kind_there a 14 (e.first * 2 ^ 12 + e.length) (line_start a i) inside first fits_word)
      (and_i (eqb (bits 24 4 (word_at a (line_start a i))) 0) _ (equal _ 0 spare)
      (and_i (leb 1 (line_extent a i).length) _ (rw samples_there (le→leb 1 e.length (sizes.extents i h).0))
      (and_i (leb (end_of (line_extent a i)) (head_samples a)) _ (rw (end_there, samples_read N horizon x lines room wide fits) (le→leb (end_of e) horizon (sizes.extents i h).1))
      (rw (samples_there, places_read N horizon x lines room wide fits, at) (all_i (λ _. true) (λ j. is_said (said_by (word_at a (line_index wide (N.places) lines i + 1 + j)))) (e.length * N.places)
      (λ j k _. verdict_there i h j k))))))

  end_whole : T (whole_end a (line_start a (head_lines a)))
  unfolding whole_end
  end_whole =
      let at : line_start a (head_lines a) ≡ line_index wide (N.places) lines (length lines)
      = ap (line_start a) (lines_read N horizon x lines room wide fits) ∙ start_read wide N horizon x lines room fits (length lines) (omega arith) in
      let word = end_word wide N horizon x lines room fits in
      let last = end_bound wide (N.places) horizon lines sizes in
      let payload : payload_of (word_at a (line_index wide (N.places) lines (length lines))) ≡ line_index wide (N.places) lines (length lines) = ap payload_of word ∙ omega (arith, last) in
      rw at (and_i (is_kind 15 a (line_index wide (N.places) lines (length lines))) _
      (kind_there a 15 (line_index wide (N.places) lines (length lines)) (line_index wide (N.places) lines (length lines)) (end_inside wide N horizon x lines room fits) word last)
      (and_i (eqb (payload_of (word_at a (line_index wide (N.places) lines (length lines)))) (line_index wide (N.places) lines (length lines))) _ (equal _ _ payload)
      (all_i (ltb (line_index wide (N.places) lines (length lines))) (λ j. eqb (word_at a j) 0) (length a)
      (λ j _ b. equal (word_at a j) 0 (zeros_after wide N horizon x lines room fits j (ltb→lt (line_index wide (N.places) lines (length lines)) j b))))))

  -- the limits of the lines and of the samples
  head_whole : T (whole_head a)
  unfolding whole_head
  head_whole =
      and_i (whole_places a) _ (places_whole N horizon x lines room wide fits sizes.places)
      (and_i (between 1 most_lines (head_lines a)) _ (rw (lines_read N horizon x lines room wide fits) (in_limits 1 most_lines (length lines) sizes.count.0 sizes.count.1))
      (rw (samples_read N horizon x lines room wide fits) (in_limits 1 most_samples horizon sizes.samples.0 sizes.samples.1)))

  pub answer_whole : T (whole_answer a)
  unfolding whole_answer
  answer_whole =
      and_i (whole_head a) _ head_whole
      (and_i (least_over verdict_lattice (λ _. true) (whole_line a) (head_lines a)) _
      (rw (lines_read N horizon x lines room wide fits) (all_i (λ _. true) (whole_line a) (length lines) (λ i h _. line_whole i h)))
      end_whole)
