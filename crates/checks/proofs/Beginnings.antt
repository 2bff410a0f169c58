-- The words with which a sheet or an answer begins are written, by what the code writes: one, or two of a wide one. The bytes past the last whole word stay.
use mathlib.Core.Path.{◌≡◌, ap, ap₂, ◌∙◌}
use mathlib.Core.List.{List, [], ◌∷◌}
use mathlib.Core.Bool.{Bool, true, false}
use Prim.Native.Nat.{ℕ, ◌+◌, ◌*◌, ◌<◌, ◌≤◌, ◌^◌}
use native.Mathlib.Omega.{arith}
use lib.ListN.{length, set}
use Rattle.words.specs.Word.{word_of}
use Rattle.words.specs.Bytes.{words_of, after_words, bytes_of}
use Rattle.words.specs.Rows.{put}
use Rattle.words.proofs.Puts.{put_one, put_snoc}
use Rattle.words.proofs.Tails.{word_tail}
use Rattle.words.proofs.Words.{words_count}
use Rattle.checks.specs.declared.beginning.Beginning.{Beginning}
use Rattle.checks.specs.Heads.{head_words, head_for}
use Rattle.checks.proofs.Heads.{few_head_words}

module _ (before : List ℕ) (head : Beginning) (wide : Bool) (room : head_words wide ≤ length (words_of before)) where
  -- ---- narrow
  pub narrow_written : (a : ℕ) (after : List ℕ) → wide ≡ false → a ≡ word_of head.kind (head.places * 2 ^ 20 + head.count * 2 ^ 12 + head.samples) → words_of after ≡ set (words_of before) 0 a
      → words_of after ≡ put (words_of before) 0 (head_for head.kind wide head.places head.count head.samples)
  unfolding head_for
  narrow_written a after narrow told stored = rw narrow (stored ∙ ap (set (words_of before) 0) told ∙ put_one (words_of before) 0 _ (omega (arith, few_head_words wide)))

  pub narrow_tail : (a : ℕ) (after : List ℕ) → after ≡ put before (0 * 4) (bytes_of (a ∷ [])) → after_words after ≡ after_words before
  narrow_tail a after stored = word_tail before after 0 _ (omega (arith, few_head_words wide)) stored

  -- ---- wide
  module _ (is_wide : wide ≡ true) (between after : List ℕ) where
    two : 1 < length (words_of before)
    two = omega (arith, ap head_words is_wide)

    pub wide_written : (a b : ℕ) → a ≡ word_of 10 head.places → b ≡ word_of head.kind (head.count * 2 ^ 12 + head.samples)
        → words_of between ≡ set (words_of before) 0 a → words_of after ≡ set (words_of between) 1 b → words_of after ≡ put (words_of before) 0 (head_for head.kind wide head.places head.count head.samples)
    unfolding head_for
    wide_written a b told sizes first second = rw is_wide
        (second ∙ ap₂ (λ v h. set v 1 h) (first ∙ ap (set (words_of before) 0) told ∙ put_one (words_of before) 0 (word_of 10 head.places) (omega (arith, two))) sizes
        ∙ put_snoc (words_of before) 0 (word_of 10 head.places ∷ []) (word_of head.kind (head.count * 2 ^ 12 + head.samples)) (omega (arith, two)))

    pub wide_tail : (a b : ℕ) → length between ≡ length before → between ≡ put before (0 * 4) (bytes_of (a ∷ [])) → after ≡ put between (1 * 4) (bytes_of (b ∷ [])) → after_words after ≡ after_words before
    wide_tail a b long first second =
        word_tail between after 1 _ (omega (arith, two, long, words_count between, words_count before)) second ∙ word_tail before between 0 _ (omega (arith, two)) first
