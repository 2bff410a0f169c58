-- Two corrections that are aimed have the same sample and revision exactly where their first two words are the same.
use mathlib.Core.Path.{◌≡◌, refl, sym, ◌∙◌}
use mathlib.Core.Bool.{◌&&◌}
use mathlib.Core.List.{List}
use Prim.Native.Nat.{ℕ, ◌+◌, ◌*◌, ◌^◌}
use native.Mathlib.Omega.{arith}
use lib.Dec.{T, eqb}
use borrow.Author.Tests.{eqb-true}
use Rattle.counting.proofs.Tests.{holds, and_i, and_l, and_r, bool_ext}
use Rattle.words.specs.Word.{kind_of, bits}
use Rattle.words.proofs.Rows.{same_index}
use Rattle.checks.specs.Checked.{word_at}
use Rattle.checks.proofs.Tests.{equal}
use Rattle.corrections.specs.declared.correction.Grid.{Grid}
use Rattle.corrections.specs.Corrections.{signal, time, place, target, same_revision}
use Rattle.corrections.specs.Aimed.{Aimed}
use Rattle.clashes.proofs.Disagreeing.{same_told, same_by}

-- a word by its fields
first_fields : (w : ℕ) → w ≡ kind_of w * 2 ^ 28 + bits 20 8 w * 2 ^ 20 + bits 12 8 w * 2 ^ 12 + bits 0 12 w
first_fields w = omega arith

second_fields : (w : ℕ) → w ≡ kind_of w * 2 ^ 28 + bits 16 12 w * 2 ^ 16 + bits 0 16 w
second_fields w = omega arith

-- so two with the same fields are the same
same_first : (v w : ℕ) → kind_of v ≡ kind_of w → bits 20 8 v ≡ bits 20 8 w → bits 12 8 v ≡ bits 12 8 w → bits 0 12 v ≡ bits 0 12 w → v ≡ w
same_first v w kind revised signalled timed = first_fields v ∙ rw (kind, revised, signalled, timed) refl ∙ sym (first_fields w)

same_second : (v w : ℕ) → kind_of v ≡ kind_of w → bits 16 12 v ≡ bits 16 12 w → bits 0 16 v ≡ bits 0 16 w → v ≡ w
same_second v w kind spare placed = second_fields v ∙ rw (kind, spare, placed) refl ∙ sym (second_fields w)

module _ (c : List ℕ) (g : Grid) (i k : ℕ) (here : Aimed c g i) (there : Aimed c g k) where
  -- a sample has one index
  same_sample : target c g i ≡ target c g k → (signal c i ≡ signal c k) × (time c i ≡ time c k) × (place c i ≡ place c k)
  same_sample e =
      let rows = same_index (time c i * g.places + place c i) (signal c i) (time c k * g.places + place c k) (signal c k) g.signals here.signal_inside there.signal_inside (omega (arith, e)) in
      let row = same_index (time c i) (place c i) (time c k) (place c k) g.places here.place_inside there.place_inside rows.0 in
      (rows.1, row.0, row.1)

  pub same_words : (eqb (word_at c (i * 3)) (word_at c (k * 3)) && eqb (word_at c (i * 3 + 1)) (word_at c (k * 3 + 1))) ≡ same_revision c g i k
  same_words = bool_ext _ _ to_fields to_words
    where
      to_fields : T (eqb (word_at c (i * 3)) (word_at c (k * 3)) && eqb (word_at c (i * 3 + 1)) (word_at c (k * 3 + 1))) → T (same_revision c g i k)
      to_fields h =
          let first : word_at c (i * 3) ≡ word_at c (k * 3) = eqb-true _ _ (holds _ (and_l (eqb (word_at c (i * 3)) (word_at c (k * 3))) _ h)) in
          let second : word_at c (i * 3 + 1) ≡ word_at c (k * 3 + 1) = eqb-true _ _ (holds _ (and_r (eqb (word_at c (i * 3)) (word_at c (k * 3))) _ h)) in
          same_by c g i k (rw (first, second) refl) (rw first refl)

      to_words : T (same_revision c g i k) → T (eqb (word_at c (i * 3)) (word_at c (k * 3)) && eqb (word_at c (i * 3 + 1)) (word_at c (k * 3 + 1)))
      to_words h =
          let same = same_told c g i k h in
          let sample = same_sample same.0 in
          and_i (eqb (word_at c (i * 3)) (word_at c (k * 3))) (eqb (word_at c (i * 3 + 1)) (word_at c (k * 3 + 1)))
          (equal _ _ (same_first _ _ (here.first_kind ∙ sym there.first_kind) same.1 sample.0 sample.1))
          (equal _ _ (same_second _ _ (here.second_kind ∙ sym there.second_kind) (here.spare ∙ sym there.spare) sample.2))
