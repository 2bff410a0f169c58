-- Where the words of an answer stand: line i's words from `line_index i` on, its verdicts from its first sample on, and the walk
-- over the lines' lengths that finds them again (`line_start`).
use mathlib.Core.Path.{◌≡◌, refl, sym, ap, ap₂, ◌∙◌}
use mathlib.Core.Bool.{Bool}
use mathlib.Core.List.{List, [], ◌∷◌, ◌++◌, append_assoc}
use Prim.Native.Nat.{ℕ, zero, suc, ◌+◌, ◌-◌, ◌*◌, ◌<◌, ◌≤◌}
use native.Mathlib.Omega.{arith}
use lib.ListN.{length, get_or, replicate, length-append, get_or-append}
use lib.Seq.{get_or-append-add, get_or-append_seam}
use Rattle.words.specs.Word.{bits, word_of}
use Rattle.words.specs.Rows.{concat}
use Rattle.words.proofs.Rows.{length-rows, get_or-rows, in_table}
use Rattle.words.proofs.Concat.{concat-length, start_below, concat_at}
use Rattle.words.proofs.Zeros.{zero_at}
use Rattle.network.specs.Network.{Network}
use Rattle.formulas.specs.Formulas.{Extent, Line, line_in, Recording}
use Rattle.counting.specs.Totals.{sum_below}
use Rattle.checks.specs.Checked.{word_at}
use Rattle.checks.proofs.ReadBack.{head_length}
use Rattle.answers.specs.Answer.{line_index, first_word, word_for, line_words, answer_head, answer_words}
use Rattle.checks.specs.Heads.{head_words, places_of}
use Rattle.lookup.specs.Lookup.{extent_at, line_start, line_extent}
use Rattle.answers.proofs.AnswerHead.{InFields, answer_of, layout_read, places_read}

-- a word of the part between the head and the end
behind_head : (h m e z : List ℕ) (k : ℕ) → k < length m → get_or ((h ++ (m ++ e)) ++ z) (length h + k) 0 ≡ get_or m k 0
behind_head h m e z k l =
    rw (append_assoc h (m ++ e) z) (get_or-append-add h ((m ++ e) ++ z) k 0)
    ∙ get_or-append (m ++ e) z 0 k (omega (arith, length-append m e)) ∙ get_or-append m e 0 k l

-- the end, and the zeros after it
at_end : (h m z : List ℕ) (e : ℕ) → get_or ((h ++ (m ++ (e ∷ []))) ++ z) (length h + length m) 0 ≡ e
at_end h m z e = rw (append_assoc h (m ++ (e ∷ [])) z, append_assoc m (e ∷ []) z) (get_or-append-add h (m ++ (e ∷ z)) (length m) 0 ∙ get_or-append_seam m e z 0)

whole_length : (h m : List ℕ) (e : ℕ) → length (h ++ (m ++ (e ∷ []))) ≡ length h + length m + 1
whole_length h m e = omega (arith, length-append h (m ++ (e ∷ [])), length-append m (e ∷ []))

after_end : (h m : List ℕ) (e k j : ℕ) → length h + length m < j → get_or ((h ++ (m ++ (e ∷ []))) ++ replicate k 0) j 0 ≡ 0
after_end h m e k j b =
    let w : List ℕ = h ++ (m ++ (e ∷ [])) in
    let i : ℕ = j - length w in
    let index : j ≡ length w + i = omega (arith, whole_length h m e) in
    ap (λ (a : ℕ). get_or (w ++ replicate k 0) a 0) index ∙ get_or-append-add w (replicate k 0) i 0 ∙ zero_at k i

end_below : (h m : List ℕ) (e : ℕ) (z : List ℕ) → length h + length m < length ((h ++ (m ++ (e ∷ []))) ++ z)
end_below h m e z = omega (arith, length-append (h ++ (m ++ (e ∷ []))) z, whole_length h m e)

-- ---- the lines alone, one after the other: how long they are, and where the words of line i stand among those of the first k
module _ (N : Network) (T : ℕ) (x : Recording) (lines : List Line) where
  -- line i's word u samples after its first
  abbrev pub word_after : ℕ → ℕ → ℕ → ℕ
  word_after i u = word_for N T x lines i ((line_in lines i).extent.first + u)

  line_size : (i : ℕ) → length (line_words N T x lines i) ≡ 1 + (line_in lines i).extent.length * N.places
  unfolding line_words
  line_size i = ap suc (length-rows _ (line_in lines i).extent.length (N.places)) ∙ omega arith

  abbrev pub sizes : ℕ → ℕ
  sizes i = sum_below (λ k. 1 + (line_in lines k).extent.length * N.places) i

  sizes_next : (i : ℕ) → sizes (suc i) ≡ sizes i + length (line_words N T x lines i)
  unfolding sum_below
  sizes_next i = ap (λ m. sizes i + m) (sym (line_size i))

  sizes_first : sizes 0 ≡ 0
  unfolding sum_below
  sizes_first = refl

  pub lines_size : (k : ℕ) → length (concat (line_words N T x lines) k) ≡ sizes k
  lines_size = concat-length (line_words N T x lines) sizes sizes_first sizes_next

  pub sizes_below : (i k : ℕ) → i < k → sizes i + (1 + (line_in lines i).extent.length * N.places) ≤ sizes k
  sizes_below i k h = omega (arith, start_below (line_words N T x lines) sizes sizes_first sizes_next i k h, line_size i)

  line_among : (k i j : ℕ) → i < k → j < 1 + (line_in lines i).extent.length * N.places → get_or (concat (line_words N T x lines) k) (sizes i + j) 0 ≡ get_or (line_words N T x lines i) j 0
  line_among k i j h b = concat_at (line_words N T x lines) sizes sizes_first sizes_next k i j 0 h (rw (line_size i) b)

  pub verdict_among : (k i u l : ℕ) → i < k → u < (line_in lines i).extent.length → l < N.places
      → get_or (concat (line_words N T x lines) k) (sizes i + suc (u * N.places + l)) 0 ≡ word_after i u l
  unfolding line_words
  verdict_among k i u l h a b =
      line_among k i (suc (u * N.places + l)) h (omega (arith, in_table a b))
      ∙ get_or-rows (word_after i) (line_in lines i).extent.length (N.places) u l 0 a b

module _ (wide : Bool) (N : Network) (T : ℕ) (x : Recording) (lines : List Line) (room : ℕ) (fits : InFields wide (N.places) T lines) where
  abbrev pub answer : List ℕ
  answer = answer_of N T x lines room wide

  abbrev head : List ℕ
  head = answer_head wide (N.places) (length lines) T

  long : length head ≡ head_words wide
  long = head_length 13 wide (N.places) (length lines) T

  -- ---- a line's words
  line_word : (i j : ℕ) → i < length lines → j < 1 + (line_in lines i).extent.length * N.places → word_at answer (line_index wide (N.places) lines i + j) ≡ get_or (line_words N T x lines i) j 0
  unfolding answer_words line_index
  line_word i j h k =
      let below = sizes_below N T x lines i (length lines) h in
      let all = lines_size N T x lines (length lines) in
      let index : line_index wide (N.places) lines i + j ≡ length head + (sizes N T x lines i + j) = omega (arith, long) in
      rw index (behind_head head (concat (line_words N T x lines) (length lines)) _ _ (sizes N T x lines i + j) (omega arith))
      ∙ line_among N T x lines (length lines) i j h k

  pub first_word_lem : (i : ℕ) → i < length lines → word_at answer (line_index wide (N.places) lines i) ≡ first_word (line_in lines i).extent
  unfolding line_words
  first_word_lem i h =
      let z : line_index wide (N.places) lines i ≡ line_index wide (N.places) lines i + 0 = omega arith in
      ap (word_at answer) z ∙ line_word i 0 h (omega arith)

  -- ---- the walk
  extent_field : (i : ℕ) → i < length lines → extent_at answer (line_index wide (N.places) lines i) ≡ (line_in lines i).extent
  extent_field i h =
      ap₂ (λ (first length : ℕ). record { first = first; length = length })
      (ap (bits 12 12) (first_word_lem i h) ∙ omega (arith, fits.ends i))
      (ap (bits 0 12) (first_word_lem i h) ∙ omega (arith, fits.ends i))

  pub start_read : (i : ℕ) → i ≤ length lines → line_start answer i ≡ line_index wide (N.places) lines i
  unfolding line_start line_index sum_below
  start_read zero h = let first : head_words wide ≡ head_words wide + 0 = omega arith in ap head_words (layout_read N T x lines room wide fits) ∙ first
  start_read (suc i) h =
      ap (λ at. at + 1 + (extent_at answer at).length * places_of answer) (start_read i (omega arith))
      ∙ ap₂ (λ (e : Extent) (p : ℕ). line_index wide (N.places) lines i + 1 + e.length * p) (extent_field i h) (places_read N T x lines room wide fits)
      ∙ omega arith

  pub extent_read : (i : ℕ) → i < length lines → line_extent answer i ≡ (line_in lines i).extent
  extent_read i h = ap (extent_at answer) (start_read i (omega arith)) ∙ extent_field i h

  -- the word of line i at place l, u samples after its first
  pub verdict_word_lem : (i u l : ℕ) → i < length lines → u < (line_in lines i).extent.length → l < N.places
      → word_at answer (line_index wide (N.places) lines i + 1 + (u * N.places + l)) ≡ word_after N T x lines i u l
  unfolding line_words
  verdict_word_lem i u l h k b =
      let index : line_index wide (N.places) lines i + 1 + (u * N.places + l) ≡ line_index wide (N.places) lines i + suc (u * N.places + l) = omega arith in
      let inside : suc (u * N.places + l) < 1 + (line_in lines i).extent.length * N.places = omega (arith, in_table k b) in
      ap (word_at answer) index
      ∙ line_word i (suc (u * N.places + l)) h inside
      ∙ get_or-rows (word_after N T x lines i) (line_in lines i).extent.length (N.places) u l 0 k b

  -- ---- the end
  abbrev middle : List ℕ
  middle = concat (line_words N T x lines) (length lines)

  abbrev ending : ℕ
  ending = word_of 15 (line_index wide (N.places) lines (length lines))

  -- how many words are left over
  abbrev spare : ℕ
  spare = room - length (head ++ (middle ++ (ending ∷ [])))

  middle_length : length middle ≡ sizes N T x lines (length lines)
  middle_length = lines_size N T x lines (length lines)

  pub end_word : word_at answer (line_index wide (N.places) lines (length lines)) ≡ ending
  unfolding answer_words line_index
  end_word =
      let index : line_index wide (N.places) lines (length lines) ≡ length head + length middle = omega (arith, middle_length, long) in
      ap (word_at answer) index ∙ at_end head middle (replicate spare 0) ending

  pub zeros_after : (j : ℕ) → line_index wide (N.places) lines (length lines) < j → word_at answer j ≡ 0
  unfolding answer_words line_index
  zeros_after j b = after_end head middle ending spare j (omega (arith, middle_length, long))

  pub end_inside : line_index wide (N.places) lines (length lines) < length answer
  unfolding answer_words line_index
  end_inside = omega (arith, middle_length, long, end_below head middle ending (replicate spare 0))
