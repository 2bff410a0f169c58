-- A line written sample after sample into the answer: the next row of words is put after those before it, and its yes verdicts are added.
use mathlib.Core.Path.{◌≡◌, refl, sym, ap, ap₂, fun_ext, ◌∙◌}
use mathlib.Core.List.{List}
use Prim.Native.Nat.{ℕ, ◌+◌, ◌*◌, ◌<◌, ◌≤◌}
use native.Mathlib.Nat.{mul-le-mul_right, suc-mul}
use native.Mathlib.Numerals.{add-one}
use native.Mathlib.Omega.{arith}
use lib.ListN.{length, get_or, take}
use Rattle.words.specs.Bytes.{words_of, after_words}
use Rattle.words.specs.Rows.{row, concat, rows, put}
use Rattle.words.proofs.Puts.{put_nil, put-append, take-put}
use Rattle.words.proofs.Rows.{length-rows}
use Rattle.words.proofs.Words.{words_count}
use Rattle.counting.specs.Totals.{count, sum_below}
use Rattle.counting.proofs.Totals.{sum_more, yes_bound, table_yes_bound, most_none}
use Rattle.values.specs.Chain.{chain_word, chain_verdict}
use Rattle.samples.specs.Sample.{entry}
use Rattle.samples.specs.Written.{SamplesWritten}

put-row : (s : List ℕ) (begin : ℕ) (f : ℕ → ℕ → ℕ) (t m : ℕ) → begin ≤ length s → put (put s begin (rows f t m)) (begin + t * m) (row (f t) m) ≡ put s begin (rows f (t + 1) m)
unfolding concat
put-row s begin f t m h = rw (add-one t, ← length-rows f t m) (put-append s begin (rows f t m) (row (f t) m) h)

-- a line by the chain number of each point, with n places, in the bytes of an answer from index `begin` on
module _ (value : ℕ → ℕ → ℕ) (n : ℕ) (answer : List ℕ) (begin : ℕ) where
  abbrev yes_at : ℕ → ℕ
  yes_at t = sum_below (λ l. count (chain_verdict (value t l))) n

  -- its first t samples are written, the next goes to index `to`, and so many verdicts are yes
  pub record RowsDone (t : ℕ) (after : List ℕ) (to many : ℕ) : Type 0 where
    pub long : length after ≡ length answer
    pub next : to ≡ begin + t * n
    pub written : words_of after ≡ put (words_of answer) begin (rows (λ u l. chain_word (value u l)) t n)
    pub counted : many ≡ sum_below yes_at t
    pub tail : after_words after ≡ after_words answer

  pub none_done : RowsDone 0 answer begin 0
  unfolding concat sum_below
  none_done = record { long = refl; next = omega arith; written = sym (put_nil (words_of answer) begin); counted = refl; tail = refl }

  module _ {t : ℕ} {after : List ℕ} {to many : ℕ} (done : RowsDone t after to many) where
    -- its index, said by its number
    pub next_at : {at : ℕ} → at ≡ begin + t * n → RowsDone t after at many
    next_at here = record { long = done.long; next = here; written = done.written; counted = done.counted; tail = done.tail }

    pub few_yes : many ≤ t * n
    few_yes = rw done.counted (table_yes_bound (λ u l. chain_verdict (value u l)) t n)

    pub row_room : {samples : ℕ} → begin + samples * n ≤ length (words_of answer) → t < samples → to + n ≤ length (words_of after)
    row_room room h = omega (arith, done.long, done.next, words_count answer, words_count after, mul-le-mul_right n h, suc-mul t n)

    -- one more sample has no more yes verdicts than places
    pub yes_fits : (f : ℕ → ℕ) {more : ℕ} → more ≡ sum_below (λ l. count (chain_verdict (f l))) n → many + more ≤ to + n
    yes_fits f counts = omega (arith, few_yes, done.next, counts, yes_bound (λ l. chain_verdict (f l)) n)

    -- all samples of the line, which has no rounds
    pub all_done : {samples : ℕ} → t ≡ samples → SamplesWritten value (λ _ _. 0) n (words_of answer) begin samples (words_of after) (record { rounds = 0; yes = many })
    all_done e = rw (← e) (record { written = done.written; counted = done.counted; greatest = most_none t n })

    -- the words before the line stay as they are
    pub before_kept : begin ≤ length (words_of answer) → take begin (words_of after) ≡ take begin (words_of answer)
    before_kept begins = ap (take begin) done.written ∙ take-put (words_of answer) begin _ begins

    -- the numbers f of sample t are written
    pub one_more : {f : ℕ → ℕ} {later : List ℕ} {more : ℕ} → f ≡ value t → begin ≤ length (words_of answer) → length later ≡ length after
        → words_of later ≡ put (words_of after) to (row (λ l. chain_word (f l)) n) → more ≡ sum_below (λ l. count (chain_verdict (f l))) n → after_words later ≡ after_words after
        → RowsDone (t + 1) later (to + n) (many + more)
    one_more same begins kept put_one counts tail = record {
      long = kept ∙ done.long;
      next = rw (add-one t, suc-mul t n) (omega (arith, done.next));
      written = put_one ∙ ap (λ g. put (words_of after) to (row (λ l. chain_word (g l)) n)) same
          ∙ ap₂ (λ w i. put w i (row (λ l. chain_word (value t l)) n)) done.written done.next ∙ put-row (words_of answer) begin (λ u l. chain_word (value u l)) t n begins;
      counted = ap₂ ◌+◌ done.counted (counts ∙ ap (λ g. sum_below (λ l. count (chain_verdict (g l))) n) same) ∙ sym (sum_more yes_at t);
      tail = tail ∙ done.tail;
    }

-- a row of one sample alone: its values stand side by side
pub entry_one : (values : List ℕ) (l : ℕ) → entry values 1 0 l ≡ get_or values l 0
entry_one values l = ap (λ (i : ℕ). get_or values i 0) (omega arith)

pub side_by_side : (values : List ℕ) → entry values 1 0 ≡ (λ l. get_or values l 0)
side_by_side values = fun_ext (entry_one values)
