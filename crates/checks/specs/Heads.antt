-- The words with which a sheet or an answer begins ("The sheet", "The answer", request M-104). Narrow: the head alone, bits 27..20 the places. Wide: a word of
-- kind 10, bits 15..0 the places and the rest zero, and then the head, with places 0. The head is of kind 1 in a sheet and of kind 13 in an answer.
use Rattle.std.specs.Prelude.{ℕ, ◌+◌, ◌*◌, ◌<◌, ◌^◌, Bool, true, false, cond, ◌&&◌, List, [], ◌∷◌, eqb}
use Rattle.words.specs.Word.{bits, word_of}
use Rattle.checks.specs.Limits.{most_places, most_narrow}
use Rattle.checks.specs.Checked.{between, word_at, is_kind}

-- so many words they are, and so many places they may tell
abbrev pub head_words : Bool → ℕ
head_words wide = cond wide 2 1

abbrev pub most_of : Bool → ℕ
most_of wide = cond wide most_places most_narrow

-- they themselves, by the head's kind, the places, what the head counts in bits 19..12 (the signals of a sheet, the lines of an answer) and the samples in 11..0
unfoldable pub head_for : ℕ → Bool → ℕ → ℕ → ℕ → List ℕ
head_for kind true places count samples = word_of 10 places ∷ word_of kind (count * 2 ^ 12 + samples) ∷ []
head_for kind false places count samples = word_of kind (places * 2 ^ 20 + count * 2 ^ 12 + samples) ∷ []

-- each has room in its field
pub record HeadFits (kind : ℕ) (wide : Bool) (places count samples : ℕ) : Type 0 where
  pub kind_fits : kind < 2 ^ 4
  pub places_fit : places < cond wide (2 ^ 16) (2 ^ 8)
  pub count_fits : count < 2 ^ 8
  pub samples_fit : samples < 2 ^ 12

module _ (s : List ℕ) where
  -- a first word of kind 10 makes it wide
  unfoldable pub is_wide : Bool
  is_wide = is_kind 10 s 0

  -- the head itself
  unfoldable pub head_of : ℕ
  head_of = word_at s (cond is_wide 1 0)

  unfoldable pub places_of : ℕ
  places_of = cond is_wide (bits 0 16 (word_at s 0)) (bits 20 8 (word_at s 0))

  -- of wide ones: the places are in their limits and no spare bit is set; a head of this kind with places 0 follows
  unfoldable pub wide_counted : Bool
  wide_counted = between 1 most_places (bits 0 16 (word_at s 0)) && eqb (bits 16 12 (word_at s 0)) 0

  unfoldable pub wide_followed : ℕ → Bool
  wide_followed kind = is_kind kind s 1 && eqb (bits 20 8 (word_at s 1)) 0
