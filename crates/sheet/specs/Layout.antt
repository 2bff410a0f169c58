-- The check of a whole sheet, narrow or wide, front to back: head, roads, samples, lines, end ("The sheet", "Where a sheet is turned back", request M-104).
use Rattle.std.specs.Prelude.{ℕ, zero, suc, ◌+◌, ◌*◌, Bool, cond, ◌&&◌, List, [], leb, eqb, length}
use Rattle.words.specs.Word.{bits, payload_of}
use Rattle.formulas.specs.Formulas.{Line}
use Rattle.checks.specs.Limits.{most_places, most_narrow, most_signals, most_samples, most_lines, least_distances}
use Rattle.checks.specs.Checked.{Checked, accepted, ◌>>=◌, require, between, word_at, is_kind}
use Rattle.checks.specs.Heads.{is_wide, head_of, places_of, wide_counted, wide_followed}
use Rattle.lines.specs.Lines.{lines_from}
use Rattle.roads.specs.Roads.{road_at, roads_from}

-- places n, signals v, samples T
pub record Sizes : Type 0 where
  pub places : ℕ
  pub signals : ℕ
  pub samples : ℕ

-- what the check of a sheet finds
pub record Layout : Type 0 where
  pub sizes : Sizes
  pub roads : ℕ
  pub lines : List Line

abbrev pub sample_count : Sizes → ℕ
sample_count z = z.signals * z.places * z.samples

module _ (s : List ℕ) where
  -- the places, and of the head bits 19..12 the signals, 11..0 the samples
  unfoldable pub sizes_of : Sizes
  sizes_of = record { places = places_of s; signals = bits 12 8 (head_of s); samples = bits 0 12 (head_of s) }

  abbrev recorded : Bool
  recorded = between 1 most_signals sizes_of.signals && between 1 most_samples sizes_of.samples

  -- Given how many distances are lent. Narrow: as many as 64 places have, kind 1, each size in its limits. Wide (M-104): the places and a head with none, the
  -- other sizes, and a distance for each two places.
  unfoldable pub narrow_checked : ℕ → Checked Sizes
  narrow_checked distances =
      require (leb least_distances distances) 1 0
      (require (is_kind 1 s 0) 2 0
      (require (between 1 most_narrow sizes_of.places && recorded) 3 0
      (accepted sizes_of)))

  unfoldable pub wide_checked : ℕ → Checked Sizes
  wide_checked distances =
      require (wide_counted s) 17 0
      (require (wide_followed s 1) 17 1
      (require recorded 3 1
      (require (leb (sizes_of.places * sizes_of.places) distances) 1 0
      (accepted sizes_of))))

  unfoldable pub head_checked : ℕ → Checked Sizes
  head_checked distances = cond (is_wide s) (wide_checked distances) (narrow_checked distances)

  -- `count` samples from an index on, and the index after them: kind 4, bit 27 zero
  unfoldable pub samples_from : ℕ → ℕ → Checked ℕ
  samples_from zero at = accepted at
  samples_from (suc count) at =
      require (is_kind 4 s at) 8 at (require (eqb (bits 27 1 (word_at s at)) 0) 9 at (samples_from count (at + 1)))

  -- kind 15, payload the count of words before it; it is the last word
  unfoldable pub end_checked : {A : Type 0} → ℕ → A → Checked A
  end_checked at found =
      require (is_kind 15 s at && eqb (payload_of (word_at s at)) at) 14 at (require (eqb (length s) (at + 1)) 14 (at + 1) (accepted found))

  -- the whole check, given that of the roads among so many places, and how many distances are lent
  abbrev pub checked_by : (ℕ → Checked ℕ) → ℕ → Checked Layout
  checked_by roads_among distances = do
    sizes ← head_checked distances
    roads ← roads_among sizes.places
    lines_at ← samples_from (sample_count sizes) (road_at (is_wide s) roads)
    found ← lines_from s sizes.signals sizes.samples most_lines [] lines_at
    end_checked found.1 (record { sizes = sizes; roads = roads; lines = found.0 })

  unfoldable pub checked : ℕ → Checked Layout
  checked = checked_by (λ places. roads_from s places (length s) 0 0)

  -- for those that ask for no distance: with as many as the most places have, so that no 1 arises (M-105)
  unfoldable pub validated : Checked Layout
  validated = checked (most_places * most_places)
