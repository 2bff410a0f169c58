-- Request M-107: a valid sheet with each corrected sample replaced. For one sample the highest revision counts; all other words are the sheet's.
use Rattle.std.specs.Prelude.{ℕ, zero, suc, ◌<◌, Bool, cond, ◌&&◌, List, T, eqb, ℤ, length}
use Rattle.counting.specs.Totals.{most_over}
use Rattle.words.specs.Word.{sample_of}
use Rattle.words.specs.Rows.{row}
use Rattle.checks.specs.Checked.{Checked, accepted, ◌>>=◌, word_at}
use Rattle.checks.specs.Heads.{is_wide}
use Rattle.roads.specs.Roads.{road_at}
use Rattle.sheet.specs.Layout.{Layout, validated}
use Rattle.corrections.specs.declared.correction.Grid.{Grid}
use Rattle.corrections.specs.Corrections.{count, revision, value, target, list_checked}

-- where the samples of a sheet stand
abbrev pub grid_of : List ℕ → Layout → Grid
grid_of s L = record {
  start = road_at (is_wide s) (L.roads);
  places = L.sizes.places;
  signals = L.sizes.signals;
  samples = L.sizes.samples;
}

-- of the word at an index of the sheet
module _ (c : List ℕ) (g : Grid) (index : ℕ) where
  abbrev pub aimed_here : ℕ → Bool
  aimed_here k = eqb (target c g k) index

  -- the highest revision among the first n corrections of it, 0 for none
  abbrev pub highest : ℕ → ℕ
  highest = most_over aimed_here (revision c)

  -- correction k counts
  abbrev pub counts : ℕ → Bool
  counts k = aimed_here k && eqb (revision c k) (highest (count c))

  -- the value of those among the first n that count, which is one and the same, or the word as it was
  unfoldable pub word_after : (word : ℕ) → ℕ → ℕ
  word_after word zero = word
  word_after word (suc k) = cond (counts k) (value c k) (word_after word k)

-- each correction that counts stands so to the sample that it replaces: for what is known of both sheets' answers
abbrev pub Corrects : (ℤ → ℤ → Type 0) → (s c : List ℕ) → Grid → Type 0
Corrects Related s c g = (k : ℕ) → k < count c → T (counts c g (target c g k) k) → Related (sample_of (word_at s (target c g k))) (sample_of (value c k))

unfoldable pub corrected_words : (s c : List ℕ) → Grid → List ℕ
corrected_words s c g = row (λ index. word_after c g index (word_at s index) (count c)) (length s)

-- a sheet's own fault comes first, then 19 and 20
unfoldable pub corrected : (s c : List ℕ) → Checked (List ℕ)
corrected s c = validated s >>= λ L. list_checked c (grid_of s L) >>= λ _. accepted (corrected_words s c (grid_of s L))
