-- Document 01, "The answer", and requests M-100 and M-104: whether words are a whole answer as laid out, and what the lookup in it gives at a line, sample and place.
use Rattle.std.specs.Prelude.{ℕ, zero, suc, ◌+◌, ◌-◌, ◌*◌, Bool, true, false, cond, ◌&&◌, List, leb, ltb, eqb, length}
use Rattle.words.specs.Word.{bits, payload_of}
use Rattle.formulas.specs.Formulas.{Extent, span, end_of, has}
use Rattle.logic.specs.Lattice.{verdict_lattice, least_over}
use Rattle.checks.specs.Limits.{most_narrow, most_samples, most_lines}
use Rattle.checks.specs.Checked.{between, word_at, is_kind}
use Rattle.checks.specs.Heads.{head_words, is_wide, head_of, places_of, wide_counted, wide_followed}
use Rattle.values.specs.Said.{Said, says, nothing, said_by}

abbrev pub is_said : Said → Bool
is_said (says v m) = true
is_said nothing = false

-- 1 yes, 2 no, 0 no verdict
abbrev pub verdict_number : Said → ℕ
verdict_number (says true m) = 1
verdict_number (says false m) = 2
verdict_number nothing = 0

-- every number below n passes
abbrev pub all : (ℕ → Bool) → ℕ → Bool
all test n = least_over verdict_lattice (λ _. true) test n

module _ (a : List ℕ) where
  abbrev pub head_lines : ℕ
  head_lines = bits 12 8 (head_of a)

  abbrev pub head_samples : ℕ
  head_samples = bits 0 12 (head_of a)

  -- the first sample and the length that a line's first word gives
  abbrev pub extent_at : ℕ → Extent
  extent_at at = span (bits 12 12 (word_at a at)) (bits 0 12 (word_at a at))

  -- the index of line i's first word, by the lengths that the earlier lines' words give; of the end, where i is the line count
  unfoldable pub line_start : ℕ → ℕ
  line_start zero = head_words (is_wide a)
  line_start (suc i) = line_start i + 1 + (extent_at (line_start i)).length * places_of a

  abbrev pub line_extent : ℕ → Extent
  line_extent i = extent_at (line_start i)

  -- kind 13, with the places in their limits, or after a word that tells them
  unfoldable pub whole_places : Bool
  whole_places = cond (is_wide a) (wide_counted a && wide_followed a 13) (is_kind 13 a 0 && between 1 most_narrow (places_of a))

  unfoldable pub whole_head : Bool
  whole_head = whole_places && (between 1 most_lines head_lines && between 1 most_samples head_samples)

  -- a line whose first word stands at this index: kind 14, bits 27..24 zero, at least one sample and none beyond T, and a verdict for each sample
  -- and place
  unfoldable pub whole_line_at : ℕ → Bool
  whole_line_at at =
      is_kind 14 a at && (eqb (bits 24 4 (word_at a at)) 0 && (leb 1 (extent_at at).length && (leb (end_of (extent_at at)) head_samples
      && all (λ j. is_said (said_by (word_at a (at + 1 + j)))) ((extent_at at).length * places_of a))))

  abbrev pub whole_line : ℕ → Bool
  whole_line i = whole_line_at (line_start i)

  -- kind 15 with the count of words before it, and only zeros after it
  unfoldable pub whole_end : ℕ → Bool
  whole_end at = is_kind 15 a at && (eqb (payload_of (word_at a at)) at && least_over verdict_lattice (ltb at) (λ j. eqb (word_at a j) 0) (length a))

  unfoldable pub whole_answer : Bool
  whole_answer = whole_head && (all whole_line head_lines && whole_end (line_start head_lines))

  -- what the answer says at a line, sample and place, nothing where it has no such line, sample or place
  unfoldable pub said_at : ℕ → ℕ → ℕ → Said
  said_at i t l = cond (ltb i head_lines && (has (line_extent i) t && ltb l (places_of a)))
      (said_by (word_at a (line_start i + 1 + ((t - (line_extent i).first) * places_of a + l)))) nothing

  unfoldable pub looked_up : ℕ → ℕ → ℕ → ℕ
  looked_up i t l = cond whole_answer (verdict_number (said_at i t l)) 0
