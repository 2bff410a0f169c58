-- The answer is written whole: head, lines and end one after the other from the start; it ends behind the word of the end, and has room up to there.
use mathlib.Core.Path.{◌≡◌, sym, ap, ap₂, ◌∙◌}
use mathlib.Core.List.{List, [], ◌∷◌, ◌++◌, append_assoc}
use Prim.Native.Nat.{ℕ, ◌+◌, ◌*◌, ◌^◌, ◌<◌, ◌≤◌}
use native.Mathlib.Omega.{arith}
use lib.ListN.{length, set, length-append}
use Rattle.words.specs.Word.{word_of}
use Rattle.words.specs.Rows.{concat, put}
use Rattle.words.proofs.Puts.{put-append, put_snoc}
use Rattle.checks.specs.Heads.{head_words, is_wide}
use Rattle.checks.proofs.ReadBack.{head_length}
use Rattle.sheet.specs.Layout.{Layout}
use Rattle.sheet.specs.Recording.{network, recording}
use Rattle.answers.specs.Answer.{line_index, words_needed, line_words, answer_head, answer_words}
use Rattle.engine.proofs.Sizes.{lines_end}

pub three_parts : (w h m : List ℕ) (e : ℕ) → length h + length m < length w
    → set (put (put w 0 h) (length h) m) (length h + length m) e ≡ put w 0 (h ++ (m ++ (e ∷ [])))
three_parts w h m e room =
    let begin : length h ≡ 0 + length h = omega arith in
    let first : put (put w 0 h) (length h) m ≡ put w 0 (h ++ m) = ap (λ i. put (put w 0 h) i m) begin ∙ put-append w 0 h m (omega arith) in
    let index : length h + length m ≡ 0 + length (h ++ m) = omega (arith, length-append h m) in
    ap₂ (λ v i. set v i e) first index ∙ put_snoc w 0 (h ++ m) e (omega (arith, length-append h m)) ∙ ap (put w 0) (append_assoc h m (e ∷ []))

-- the answer to a sheet that is laid out so
module _ (s : List ℕ) (L : Layout) where
  abbrev head : List ℕ
  head = answer_head (is_wide s) L.sizes.places (length L.lines) L.sizes.samples

  abbrev middle : List ℕ
  middle = concat (line_words (network s L) L.sizes.samples (recording s L) L.lines) (length L.lines)

  abbrev end : ℕ
  end = line_index (is_wide s) L.sizes.places L.lines (length L.lines)

  abbrev whole : List ℕ
  whole = answer_words (network s L) L.sizes.samples (recording s L) L.lines (is_wide s)

  head_long : length head ≡ head_words (is_wide s)
  head_long = head_length 13 (is_wide s) L.sizes.places (length L.lines) L.sizes.samples

  -- head and lines end where the end stands
  end_at : length head + length middle ≡ end
  unfolding network
  end_at = omega (arith, head_long, lines_end (network s L) L.sizes.samples (recording s L) L.lines (is_wide s) (length L.lines))

  pub whole_length : length whole ≡ end + 1
  unfolding answer_words network
  whole_length =
      let last : List ℕ = word_of 15 end ∷ [] in
      omega (arith, length-append head (middle ++ last), length-append middle last, end_at)

  -- the lines and the word of the end have room, and so have the words of the head
  pub end_room : {n : ℕ} → words_needed (is_wide s) L.sizes.places L.lines ≤ n → (end < n) × (head_words (is_wide s) ≤ n)
  unfolding words_needed line_index
  end_room enough = (omega arith, omega arith)

  pub whole_put : (w : List ℕ) → end < length w → set (put (put w 0 head) (head_words (is_wide s)) middle) end (15 * 2 ^ 28 + end) ≡ put w 0 whole
  unfolding answer_words network
  whole_put w room =
      ap₂ (λ h e. set (put (put w 0 head) h middle) e (15 * 2 ^ 28 + e)) (sym head_long) (sym end_at)
      ∙ three_parts w head middle _ (omega (arith, end_at))
      ∙ ap (λ e. put w 0 (head ++ (middle ++ ((15 * 2 ^ 28 + e) ∷ [])))) end_at
