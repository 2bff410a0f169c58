-- What is left for an accepted sheet fits the bytes that it stands in: each word of the answer has 32 bits, each distance and each number of the
-- result 64. So a host can read all of it back.
use mathlib.Core.Path.{◌≡◌, refl, sym, subst}
use mathlib.Core.Bool.{Bool, true, false}
use mathlib.Core.List.{List, [], ◌∷◌, ◌++◌}
use Prim.Native.Nat.{ℕ, zero, suc, ◌+◌, ◌*◌, ◌^◌, ◌<◌, ◌≤◌}
use native.Mathlib.Nat.{mul-le-mul}
use native.Mathlib.Omega.{arith}
use lib.IntN.{pos, negsuc}
use lib.ListN.{length}
use Rattle.words.specs.Word.{word_of}
use Rattle.words.specs.Rows.{concat, row}
use Rattle.words.proofs.Below.{Below, below_none, below_more, below_append, below_padded, below_concat, below_row}
use Rattle.network.specs.Distance.{Distance, dist, none, distance}
use Rattle.network.specs.Network.{Network, distance_in}
use Rattle.network.proofs.Reach.{distance_bound}
use Rattle.formulas.specs.Formulas.{Extent, Line, line_in, Recording, InBits, ConstantsIn}
use Rattle.counting.specs.Totals.{sum_below, count}
use Rattle.counting.proofs.Totals.{sum_bound, table_yes_bound}
use Rattle.logic.specs.Margin.{Margin, minus_infinity, finite, plus_infinity}
use Rattle.logic.specs.Table.{verdicts, margins, value_at}
use Rattle.logic.specs.Counts.{yes_count}
use Rattle.logic.proofs.Small.{Small, margins_small}
use Rattle.checks.specs.Limits.{most_places, most_samples, most_lines}
use Rattle.checks.specs.Heads.{is_wide, head_for}
use Rattle.checks.proofs.Heads.{most_of_any}
use Rattle.roads.specs.Roads.{road_at}
use Rattle.distances.specs.Distances.{distance_number, distance_table}
use Rattle.distances.proofs.StartTable.{light}
use Rattle.sheet.specs.Layout.{Layout}
use Rattle.sheet.specs.Recording.{network, recording}
use Rattle.sheet.proofs.Whole.{AcceptedSheet}
use Rattle.sheet.proofs.Samples.{recording_bits}
use Rattle.lines.proofs.AcceptedLines.{good_constants}
use Rattle.values.specs.Said.{verdict_word}
use Rattle.answers.specs.Answer.{line_index, words_needed, word_for, line_words, answer_head, answer_words}
use Rattle.answers.specs.Judged.{Result, result_numbers, Judged, answered, judged}
use Rattle.answers.proofs.AnswerHead.{InFields}
use Rattle.answers.proofs.AnswerWords.{word_after}
use Rattle.answers.proofs.WholeAnswer.{InAnswer, end_bound}
use Rattle.answers.proofs.Accepted.{accepted_answered, table, fields, sizes, answered_rounds, sheet_found}

pub record Fits (j : Judged) : Type 0 where
  pub result : Below (2 ^ 64) (result_numbers j.result)
  pub answer : Below (2 ^ 32) j.answer
  pub distances : Below (2 ^ 64) j.distances

-- ---- the answer
word_below : (v : Bool) (m : Margin) → Small m → verdict_word v m < 2 ^ 32
word_below true minus_infinity s = omega arith
word_below true (finite (pos x)) s = omega arith
word_below true (finite (negsuc x)) s = omega arith
word_below true plus_infinity s = omega arith
word_below false minus_infinity s = omega arith
word_below false (finite (pos x)) s = omega arith
word_below false (finite (negsuc x)) s = omega arith
word_below false plus_infinity s = omega arith

some_words : 0 < 2 ^ 32
some_words = omega arith

head_below : (wide : Bool) {n T : ℕ} {lines : List Line} → InFields wide n T lines → Below (2 ^ 32) (answer_head wide n (length lines) T)
unfolding head_for
head_below true {T = T} {lines = lines} fits =
    below_more some_words _ (word_of 13 (length lines * 2 ^ 12 + T) ∷ []) (omega (arith, fits.head.places_fit))
    (below_more some_words _ [] (omega (arith, fits.head.count_fits, fits.head.samples_fit)) (below_none some_words))
head_below false fits = below_more some_words _ [] (omega (arith, fits.head.places_fit, fits.head.count_fits, fits.head.samples_fit)) (below_none some_words)

module _ (wide : Bool) (N : Network) (T : ℕ) (x : Recording) (lines : List Line) (fits : InFields wide (N.places) T lines)
    (samples : (s t l : ℕ) → InBits 27 (x s t l)) (constants : ConstantsIn (InBits 27) lines) (sizes : InAnswer wide (N.places) T lines) where
  line_below : (i : ℕ) → Below (2 ^ 32) (line_words N T x lines i)
  unfolding line_words word_for
  line_below i =
      let word : ℕ → ℕ → ℕ = word_after N T x lines i in
      let e : Extent = (line_in lines i).extent in
      below_more some_words _ (concat (λ u. row (word u) (N.places)) e.length) (omega (arith, fits.ends i))
      (below_concat some_words (λ u. row (word u) (N.places)) e.length
      (λ u _. below_row some_words (word u) (N.places)
      (λ l b. let t : ℕ = e.first + u in word_below (value_at verdicts N x lines i t l) (value_at margins N x lines i t l) (margins_small N x samples lines constants i t l b))))

  abbrev end : List ℕ
  end = word_of 15 (line_index wide (N.places) lines (length lines)) ∷ []

  answer_below : Below (2 ^ 32) (answer_words N T x lines wide)
  unfolding answer_words
  answer_below =
      let lines_below = below_concat some_words (line_words N T x lines) (length lines) (λ i _. line_below i) in
      let end_below : Below (2 ^ 32) end = below_more some_words _ [] (omega (arith, end_bound wide (N.places) T lines sizes)) (below_none some_words) in
      below_append some_words (answer_head wide (N.places) (length lines) T) (concat (line_words N T x lines) (length lines) ++ end) (head_below wide fits)
      (below_append some_words (concat (line_words N T x lines) (length lines)) end lines_below end_below)

-- ---- the distances
distance_below : (N : Network) (W : ℕ) → ((a c x : ℕ) → N.weight a c ≡ dist x → x ≤ W) → N.places * W < 2 ^ 64 → (a b : ℕ) → a < N.places → b < N.places
    → distance_number (distance_in N a b) < 2 ^ 64
unfolding distance_in
distance_below N W light h a b l k = go (distance (N.weight) (N.places) a b) refl
  where
    go : (d : Distance) → distance (N.weight) (N.places) a b ≡ d → distance_number d < 2 ^ 64
    go none e = omega arith
    go (dist z) e = omega (arith, distance_bound (N.weight) (N.places) W light b (N.places) (omega arith) a l k z e)

-- ---- the count of yes verdicts: no line has more of them than samples at places
module _ (wide : Bool) (N : Network) (T : ℕ) (x : Recording) (lines : List Line) (sizes : InAnswer wide (N.places) T lines) where
  line_yes : (i : ℕ) → i < length lines
      → let e : Extent = (line_in lines i).extent in
      sum_below (λ u. sum_below (λ l. count (value_at verdicts N x lines i (e.first + u) l)) (N.places)) e.length ≤ most_samples * most_places
  line_yes i h =
      let e : Extent = (line_in lines i).extent in
      let most : N.places ≤ most_places = omega (arith, sizes.places.1, most_of_any wide) in
      omega (
        arith,
        table_yes_bound (λ u. value_at verdicts N x lines i (e.first + u)) e.length (N.places),
        mul-le-mul {n₁ = e.length} {n₂ = most_samples} (omega (arith, sizes.extents i h, sizes.samples)) most,
      )

  yes_few : yes_count N x lines ≤ most_lines * (most_samples * most_places)
  unfolding yes_count
  yes_few = omega (arith, sizes.count, sum_bound _ (length lines) (most_samples * most_places) line_yes)

-- ---- all of it
some_numbers : 0 < 2 ^ 64
some_numbers = omega arith

numbers_below : (r : Result) → (r.number < 2 ^ 64) × (r.place < 2 ^ 64) × (r.words < 2 ^ 64) × (r.rounds < 2 ^ 64) × (r.yes < 2 ^ 64) → Below (2 ^ 64) (result_numbers r)
numbers_below r h zero = h.0
numbers_below r h (suc zero) = h.1
numbers_below r h (suc (suc zero)) = h.2
numbers_below r h (suc (suc (suc zero))) = h.3
numbers_below r h (suc (suc (suc (suc zero)))) = h.4
numbers_below r h (suc (suc (suc (suc (suc i))))) = some_numbers

module _ (s : List ℕ) (distances : ℕ) (L : Layout) (sheet : AcceptedSheet s distances L) (answer : ℕ) where
  within : InAnswer (is_wide s) (L.sizes.places) (L.sizes.samples) (L.lines)
  within = sizes s distances L sheet

  result_fits : Below (2 ^ 64) (result_numbers (answered s distances answer L).result)
  unfolding answered words_needed network
  result_fits = numbers_below (answered s distances answer L).result (omega (
    arith,
    end_bound (is_wide s) (L.sizes.places) (L.sizes.samples) (L.lines) within,
    answered_rounds s distances L sheet answer,
    within.places,
    most_of_any (is_wide s),
    yes_few (is_wide s) (network s L) (L.sizes.samples) (recording s L) (L.lines) within,
  ))

  answer_fits : Below (2 ^ 32) (answered s distances answer L).answer
  unfolding answered network recording
  answer_fits = below_padded some_words (answer_words (network s L) (L.sizes.samples) (recording s L) (L.lines) (is_wide s)) answer
      (answer_below (is_wide s) (network s L) (L.sizes.samples) (recording s L) (L.lines) (fields s distances L sheet)
      (recording_bits s (road_at (is_wide s) (L.roads)) (L.sizes.places) (L.sizes.signals))
      (good_constants (L.sizes.signals) (L.sizes.samples) (L.lines) (table s distances L sheet).good) within)

  distances_fit : Below (2 ^ 64) (answered s distances answer L).distances
  unfolding answered network distance_table
  distances_fit =
      let n : ℕ = L.sizes.places in
      let number : ℕ → ℕ → ℕ = λ a b. distance_number (distance_in (network s L) a b) in
      below_padded some_numbers (distance_table (network s L)) distances
      (below_concat some_numbers (λ a. row (number a) n) n (λ a h. below_row some_numbers (number a) n
      (λ b k. distance_below (network s L) (2 ^ 28) (light s (L.roads)) (omega (arith, within.places, most_of_any (is_wide s))) a b h k)))

-- of a sheet that is judged with the number 0
pub judged_fits : (s : List ℕ) (distances answer : ℕ) → (judged s distances answer).result.number ≡ 0 → Fits (judged s distances answer)
judged_fits s distances answer z =
    let found = accepted_answered s distances answer z in
    let sheet = sheet_found s distances answer z in
    subst Fits (sym found.left) (record {
      result = result_fits s distances found.layout sheet answer;
      answer = answer_fits s distances found.layout sheet answer;
      distances = distances_fit s distances found.layout sheet answer;
    })
