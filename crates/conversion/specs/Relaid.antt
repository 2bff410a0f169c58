-- Request M-105: a valid sheet in a layout that is asked for, narrow or wide. Head, roads and the end's count are laid out anew, and nothing else; that a sheet
-- which has the layout already stays as it is, is a theorem.
use Rattle.std.specs.Prelude.{ℕ, ◌+◌, ◌-◌, ◌*◌, ◌/◌, ◌^◌, Bool, List, [], ◌∷◌, ◌++◌, leb, length, take, drop}
use Rattle.words.specs.Word.{word_of}
use Rattle.words.specs.Rows.{concat}
use Rattle.checks.specs.Checked.{Checked, accepted, ◌>>=◌, require, word_at}
use Rattle.checks.specs.Heads.{most_of, is_wide, head_for}
use Rattle.roads.specs.Roads.{road_at, weight_at, place_bits, first_place, second_place}
use Rattle.sheet.specs.Layout.{Layout, validated}

-- the first word of a road of one layout in another: what stands above the places, bits 31..26, stays
abbrev pub laid_out : Bool → Bool → ℕ → ℕ
laid_out from to w = w / 2 ^ 26 * 2 ^ 26 + first_place from w * 2 ^ place_bits to + second_place from w

module _ (to : Bool) (s : List ℕ) where
  -- the two words of a road; the weight stays
  unfoldable pub road_relaid : ℕ → List ℕ
  road_relaid r = laid_out (is_wide s) to (word_at s (road_at (is_wide s) r)) ∷ word_at s (weight_at (is_wide s) r) ∷ []

  module _ (L : Layout) where
    -- the words from the first sample to the last line
    abbrev pub unmoved : List ℕ
    unmoved = let begin : ℕ = road_at (is_wide s) (L.roads) in take (length s - 1 - begin) (drop begin s)

    abbrev pub before_end : List ℕ
    before_end = head_for 1 to (L.sizes.places) (L.sizes.signals) (L.sizes.samples) ++ (concat road_relaid (L.roads) ++ unmoved)

    -- the end counts the words before it
    unfoldable pub relaid : List ℕ
    relaid = before_end ++ (word_of 15 (length before_end) ∷ [])

  -- 18: more places than the layout can have
  unfoldable pub converted : Checked (List ℕ)
  converted = validated s >>= λ L. require (leb (L.sizes.places) (most_of to)) 18 0 (accepted (relaid L))
