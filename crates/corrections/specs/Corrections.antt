-- Request M-107: a list of corrections, each of three words; where one is ill-formed or aimed outside the sheet (19), and where two disagree (20).
use Rattle.std.specs.Prelude.{ℕ, zero, suc, ◌+◌, ◌*◌, ◌/◌, Bool, false, not, ◌&&◌, ◌||◌, List, leb, ltb, eqb, length}
use Rattle.words.specs.Word.{bits}
use Rattle.checks.specs.Checked.{Checked, accepted, ◌>>=◌, require, word_at, is_kind}
use Rattle.corrections.specs.declared.correction.Grid.{Grid}

-- the checks 0, 1, .. below n, one after the other
unfoldable pub in_turn : (ℕ → Checked (Unit {0})) → ℕ → Checked (Unit {0})
in_turn check zero = accepted tt
in_turn check (suc k) = in_turn check k >>= λ _. check k

module _ (c : List ℕ) where
  -- how many there are, an unfinished last one included
  abbrev pub count : ℕ
  count = (length c + 2) / 3

  -- Correction k stands from index 3k on. Kind 11: bits 27..20 the revision, 19..12 the signal, 11..0 the time; kind 12: bits 15..0 the place; kind 4: the value,
  -- a sample as it is to stand in the sheet.
  abbrev pub revision : ℕ → ℕ
  revision k = bits 20 8 (word_at c (k * 3))

  abbrev pub signal : ℕ → ℕ
  signal k = bits 12 8 (word_at c (k * 3))

  abbrev pub time : ℕ → ℕ
  time k = bits 0 12 (word_at c (k * 3))

  abbrev pub place : ℕ → ℕ
  place k = bits 0 16 (word_at c (k * 3 + 1))

  abbrev pub value : ℕ → ℕ
  value k = word_at c (k * 3 + 2)

  module _ (g : Grid) where
    -- ---- 19, word by word
    abbrev pub sample_named : ℕ → Bool
    sample_named k = is_kind 11 c (k * 3) && (leb 1 (revision k) && (ltb (signal k) g.signals && ltb (time k) g.samples))

    abbrev pub place_named : ℕ → Bool
    place_named k = is_kind 12 c (k * 3 + 1) && (eqb (bits 16 12 (word_at c (k * 3 + 1))) 0 && ltb (place k) g.places)

    abbrev pub value_given : ℕ → Bool
    value_given k = is_kind 4 c (k * 3 + 2) && eqb (bits 27 1 (value k)) 0

    unfoldable pub well_formed : ℕ → Checked (Unit {0})
    well_formed k =
        require (sample_named k) 19 (k * 3)
        (require (place_named k) 19 (k * 3 + 1)
        (require (value_given k) 19 (k * 3 + 2)
        (accepted tt)))

    -- ---- 20: one sample, equal revision, unlike values
    -- the index of the sample in the sheet: time outermost, then place, then signal
    abbrev pub target : ℕ → ℕ
    target k = g.start + ((time k * g.places + place k) * g.signals + signal k)

    abbrev pub same_revision : ℕ → ℕ → Bool
    same_revision i k = eqb (target i) (target k) && eqb (revision i) (revision k)

    abbrev pub disagree : ℕ → ℕ → Bool
    disagree i k = same_revision i k && not (eqb (value i) (value k))

    -- correction k disagrees with one of the first
    unfoldable pub disagrees_with : ℕ → ℕ → Bool
    disagrees_with k zero = false
    disagrees_with k (suc i) = disagrees_with k i || disagree i k

    unfoldable pub agrees : ℕ → Checked (Unit {0})
    agrees k = require (not (disagrees_with k k)) 20 (k * 3) (accepted tt)

    -- all of 19 comes before 20
    unfoldable pub list_checked : Checked (Unit {0})
    list_checked = in_turn well_formed count >>= λ _. in_turn agrees count
