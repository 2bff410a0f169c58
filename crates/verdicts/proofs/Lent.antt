-- A line that was lent apart from the words before it and has come back: what was written into it stands in the whole behind those words.
use mathlib.Core.Path.{◌≡◌, sym, ap, ap₂, ◌∙◌}
use mathlib.Core.List.{List, ◌++◌, append_assoc}
use Prim.Native.Nat.{ℕ, ◌+◌, ◌*◌, ◌≤◌}
use native.Mathlib.Omega.{arith}
use lib.ListN.{length, take, drop, length-append, take-append-drop}
use lib.Seq.{length-take-le, drop-append-add, drop-drop}
use Rattle.words.specs.Bytes.{words_of, after_words}
use Rattle.words.specs.Rows.{put}
use Rattle.words.proofs.Words.{length_words, words_append, words_take, words_drop}
use Rattle.samples.specs.declared.tally.Tally.{Tally}
use Rattle.samples.specs.Written.{SamplesWritten}

module _ (bytes : List ℕ) (i : ℕ) {before line : List ℕ} (front : before ≡ take (i * 4) bytes) (back : line ≡ drop (i * 4) bytes) (room : i * 4 ≤ length bytes) where
  front_long : length before ≡ i * 4
  front_long = ap length front ∙ length-take-le (i * 4) bytes room

  pub whole_words : (own v : List ℕ) → words_of own ≡ put (words_of line) 0 v → words_of (before ++ own) ≡ put (words_of bytes) i v
  unfolding put
  whole_words own v e =
      let none : 0 + length v ≡ length v = omega arith in
      let behind : drop (0 + length v) (words_of line) ≡ drop (i + length v) (words_of bytes) =
      ap (λ n. drop n (words_of line)) none ∙ ap (λ s. drop (length v) (words_of s)) back ∙ ap (λ s. drop (length v) s) (words_drop bytes i) ∙ drop-drop (length v) i (words_of bytes) in
      words_append before own i front_long ∙ ap₂ ◌++◌ (ap words_of front ∙ words_take bytes i) (e ∙ ap (λ (s : List ℕ). v ++ s) behind) ∙ sym (append_assoc (take i (words_of bytes)) v _)

  tail_behind : (own : List ℕ) → after_words (before ++ own) ≡ after_words own
  tail_behind own =
      let m = length (words_of own) in
      let count : length (words_of (before ++ own)) * 4 ≡ length before + m * 4 =
      omega (arith, ap length (words_append before own i front_long), length-append (words_of before) (words_of own), length_words before, front_long) in
      rw count (drop-append-add before own (m * 4))

  pub whole_tail : (own : List ℕ) → after_words own ≡ after_words line → after_words (before ++ own) ≡ after_words bytes
  whole_tail own e = tail_behind own ∙ e ∙ sym (tail_behind line) ∙ rw (front, back) (ap after_words (take-append-drop (i * 4) bytes))

  pub whole_written : {value rounds_at : ℕ → ℕ → ℕ} {n samples : ℕ} (own : List ℕ) {tally : Tally} → SamplesWritten value rounds_at n (words_of line) 0 samples (words_of own) tally
      → SamplesWritten value rounds_at n (words_of bytes) i samples (words_of (before ++ own)) tally
  whole_written own w = record { written = whole_words own _ w.written; counted = w.counted; greatest = w.greatest }
