-- The same words further on, or further back, in another sheet: samples and lines that are accepted in one sheet are accepted in the other, where the words
-- from the samples to the end are the same but for the end itself.
use Prim.Native.Nat.{ℕ, ◌+◌, ◌<◌}
use mathlib.Core.List.{List, []}
use mathlib.Core.Logic.{⊎_elim}
use mathlib.Core.Path.{◌≡◌, refl, sym, ap, ap₂, ◌∙◌}
use native.Mathlib.Omega.{arith}
use native.Mathlib.Decide.{dec_lt}
use lib.Dec.{T, eqb, leb, leb→le}
use lib.ListN.{length, get_or-eq_default}
use Rattle.words.specs.Word.{kind_of, bits}
use Rattle.formulas.specs.Formulas.{Line}
use Rattle.counting.proofs.Tests.{holds, and_l, and_r, below}
use Rattle.checks.specs.Checked.{accepted, between, word_at, is_kind}
use Rattle.checks.proofs.Alike.{accepted_alike}
use Rattle.checks.proofs.Tests.{kind_told, kind_read}
use Rattle.lines.specs.Lines.{lines_from}
use Rattle.lines.proofs.Moved.{lines_move}
use Rattle.sheet.specs.Layout.{samples_from}
use Rattle.sheet.proofs.MovedSamples.{samples_move}

-- a kind that is neither an end's nor that of a missing word
abbrev Inner : ℕ → Type 0
Inner kind = (0 < kind) × (kind < 15)

of_sample : Inner 4
of_sample = omega arith

of_line : (kind : ℕ) → T (between 5 8 kind) → Inner kind
of_line kind inside = omega (arith, leb→le 5 kind (and_l (leb 5 kind) _ inside), leb→le kind 8 (and_r (leb 5 kind) _ inside))

-- `count` words from index a on in X and from index b on in Y; after them stand the ends
module _ (X Y : List ℕ) (a b count : ℕ)
    (same : (i : ℕ) → i < count → word_at Y (b + i) ≡ word_at X (a + i))
    (length_X : length X ≡ a + count + 1) (length_Y : length Y ≡ b + count + 1)
    (end_X : kind_of (word_at X (a + count)) ≡ 15) (end_Y : kind_of (word_at Y (b + count)) ≡ 15) where
  -- as far from a as from b
  abbrev Level : ℕ → ℕ → Type 0
  Level i j = (k : ℕ) × (i ≡ a + k) × (j ≡ b + k)

  onward : (i j k : ℕ) → Level i j → Level (i + k) (j + k)
  onward i j k (l, x, y) = (l + k, omega arith, omega arith)

  -- the ends differ in what they count alone, and beyond them both lists read 0
  kinds : (k : ℕ) → kind_of (word_at X (a + k)) ≡ kind_of (word_at Y (b + k))
  kinds k = go (dec_lt k (count + 1))
    where
      go : Dec (k < count + 1) → kind_of (word_at X (a + k)) ≡ kind_of (word_at Y (b + k))
      go (yes h) = ⊎_elim (λ e. rw e (end_X ∙ sym end_Y)) (λ l. ap kind_of (sym (same k l))) (below (omega arith))
      go (no h) = rw (get_or-eq_default X 0 {n = a + k} (omega arith), get_or-eq_default Y 0 {n = b + k} (omega arith)) refl

  -- so at level indices both have a word of an inner kind, or neither has, and it is the same word
  kind_same : (kind i j : ℕ) → Inner kind → Level i j → is_kind kind X i ≡ is_kind kind Y j
  kind_same kind i j inner (k, x, y) =
      rw (x, y) (sym (kind_read X (a + k) kind inner.0) ∙ ap (λ m. eqb m kind) (kinds k) ∙ kind_read Y (b + k) kind inner.0)

  word_same : (kind i j : ℕ) → Inner kind → Level i j → T (is_kind kind Y j) → word_at X i ≡ word_at Y j
  word_same kind i j inner (k, x, y) h =
      let (there, of_kind) = kind_told kind Y j (holds (is_kind kind Y j) h) in
      rw (x, y) (⊎_elim (λ last. absurd (not_end last of_kind)) (λ l. sym (same k l)) (below (omega arith)))
    where
      not_end : k ≡ count → kind_of (word_at Y j) ≡ kind → ⊥
      not_end last of_kind = let is_end : kind_of (word_at Y j) ≡ 15 = rw (y, last) end_Y in omega (arith, is_end, of_kind, inner)

  pub samples_further : (m : ℕ) → samples_from X m a ≡ accepted (a + m) → samples_from Y m b ≡ accepted (b + m)
  samples_further m e =
      let moved = samples_move X Y Level onward (λ i j. kind_same 4 i j of_sample)
      (λ i j at h. ap (λ w. eqb (bits 27 1 w) 0) (word_same 4 i j of_sample at h)) m a b (0, omega arith, omega arith) in
      let (j, told, (k, x, y)) = accepted_alike moved e in
      told ∙ ap accepted (omega arith)

  pub lines_further : (v T room m : ℕ) (lines : List Line) → lines_from X v T room [] (a + m) ≡ accepted (lines, a + count)
      → lines_from Y v T room [] (b + m) ≡ accepted (lines, b + count)
  lines_further v T room m lines e =
      let moved = lines_move X Y Level onward (λ kind i j inside. kind_same kind i j (of_line kind inside))
      (λ kind i j inside. word_same kind i j (of_line kind inside)) v T room [] (a + m) (b + m) (m, refl, refl) in
      let (found, told, (lines_same, (k, x, y))) = accepted_alike moved e in
      told ∙ ap₂ (λ l end. accepted (l, end)) (sym lines_same) (omega arith)
