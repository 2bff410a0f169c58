-- A line over space in blocks of samples: what a + b samples are of the first a and the b after them, and what a block leaves.
use mathlib.Core.Path.{◌≡◌, refl, sym, ap, ap₂, ◌∙◌}
use mathlib.Core.Bool.{Bool, true, false}
use mathlib.Core.List.{List, ◌++◌, append_assoc, append-nil}
use Prim.Native.Nat.{ℕ, zero, suc, ◌+◌, ◌*◌, ◌-◌, ◌/◌, ◌%◌, ◌<◌, ◌≤◌, min, max}
use native.Mathlib.Nat.{add-zero, add-suc, mul-le-mul, mul-le-mul_right}
use native.Mathlib.Omega.{arith}
use lib.ListN.{length, get_or, take}
use Rattle.words.specs.Bytes.{words_of, after_words}
use Rattle.words.specs.Rows.{concat, row, rows, put}
use Rattle.words.proofs.Puts.{put_nil, put-append}
use Rattle.words.proofs.Rows.{length-rows, rows_ext}
use Rattle.counting.specs.Totals.{count, sum_below, most_below}
use Rattle.counting.proofs.Totals.{sum_parts, sum_same, table_yes_bound, most_parts, most_swap, most_none}
use Rattle.sheet.specs.declared.check.Layout.{Layout}
use Rattle.checks.specs.Limits.{most_places, most_samples}
use Rattle.values.specs.Chain.{highest, chain_word, chain_verdict}
use Rattle.values.specs.Signals.{signal_in}
use Rattle.values.proofs.ChainWords.{signal_bound}
use Rattle.operators.specs.Rows.{Filled}
use Rattle.operators.proofs.Bounds.{greatest_bound}
use Rattle.lanes.specs.declared.Place.{Place}
use Rattle.lanes.specs.Lanes.{lanes}
use Rattle.lanes.specs.Rows.{Room}
use Rattle.lanes.specs.declared.rows.Block.{Block}
use Rattle.surrounds.specs.Surround.{surround_rounds_in, block_rounds}
use Rattle.surrounds.specs.Blocks.{BlockReady, BlockDone}
use Rattle.ranges.specs.Ranges.{somewhere_in, RangeReady, RangeDone}
use Rattle.ranges.specs.declared.Range as Within
use Rattle.surrounds.specs.declared.surround.Surround as Asked
use Rattle.samples.specs.declared.tally.Tally.{Tally}
use Rattle.samples.specs.Tally.{together}
use Rattle.locating.specs.declared.Around.{Around}
use Rattle.locating.specs.declared.Around.TheVariants.{Surround, Range}
use Rattle.samples.specs.Written.{SamplesWritten}
use Rattle.samples.proofs.LineRows.{RowsDone, one_more}
use Rattle.verdicts.specs.Around.{sheet_network, LanesBounded, LanesWritten, AroundReads, AroundReady, BlockFits, around_value, around_rounds, BlockFilled}
use Rattle.verdicts.proofs.Points.{surround_bound, row_words, row_yes}

-- ---- a + b samples

concat_parts : {A : Type 0} (f : ℕ → List A) (a b : ℕ) → concat f (a + b) ≡ concat f a ++ concat (λ i. f (a + i)) b
unfolding concat
concat_parts f a zero = rw (add-zero a) (sym (append-nil (concat f a)))
concat_parts f a (suc b) = rw (add-suc a b) (ap (λ s. s ++ f (a + b)) (concat_parts f a b) ∙ append_assoc (concat f a) (concat (λ i. f (a + i)) b) (f (a + b)))

module _ (value rounds_at : ℕ → ℕ → ℕ) (n : ℕ) (answer : List ℕ) (begin : ℕ) where
  pub no_samples : SamplesWritten value rounds_at n answer begin 0 answer (record { rounds = 0; yes = 0 })
  unfolding concat sum_below most_below
  no_samples = record { written = sym (put_nil answer begin); counted = refl; greatest = refl }

  pub more_samples : (a b : ℕ) (middle after : List ℕ) (first more : Tally) → begin ≤ length answer → SamplesWritten value rounds_at n answer begin a middle first
      → SamplesWritten (λ t. value (a + t)) (λ t. rounds_at (a + t)) n middle (begin + a * n) b after more
      → SamplesWritten value rounds_at n answer begin (a + b) after (together first more)
  more_samples a b middle after first more h front back = record {
    written = back.written ∙ ap (λ w. put w (begin + a * n) (rows (λ t. words (a + t)) b n)) front.written ∙ put_after;
    counted = ap₂ ◌+◌ front.counted back.counted ∙ sym (sum_parts _ a b);
    greatest = ap₂ max front.greatest back.greatest ∙ sym (most_parts _ a b);
  }
    where
      words : ℕ → ℕ → ℕ
      words t l = chain_word (value t l)

      put_after : put (put answer begin (rows words a n)) (begin + a * n) (rows (λ t. words (a + t)) b n) ≡ put answer begin (rows words (a + b) n)
      put_after = rw (← length-rows words a n) (put-append answer begin (rows words a n) _ h) ∙ ap (put answer begin) (sym (concat_parts _ a b))

pub few_yes : {value rounds_at : ℕ → ℕ → ℕ} {n : ℕ} {answer : List ℕ} {begin samples : ℕ} {after : List ℕ} {tally : Tally}
    → SamplesWritten value rounds_at n answer begin samples after tally → tally.yes ≤ samples * n
few_yes {value} w = rw w.counted (table_yes_bound (λ t l. chain_verdict (value t l)) _ _)

-- ---- lane after lane

-- the numbers of one lane more are written
module _ {value : ℕ → ℕ → ℕ} {n : ℕ} {line : List ℕ} {begin t : ℕ} {after : List ℕ} {to many : ℕ} (done : RowsDone value n line begin t after to many) {values : List ℕ} (filled : Filled n (value t) values)
    (room : n ≤ length values) where
  pub one_lane : {later : List ℕ} {more : ℕ} → begin ≤ length (words_of line) → length later ≡ length after
      → words_of later ≡ put (words_of after) to (row (λ l. chain_word (get_or (take n values) l 0)) (length (take n values)))
      → more ≡ sum_below (λ l. count (chain_verdict (get_or (take n values) l 0))) (length (take n values))
      → after_words later ≡ after_words after → RowsDone value n line begin (t + 1) later (to + n) (many + more)
  one_lane begins kept put_one counts tail =
      one_more _ _ _ _ done refl begins kept (put_one ∙ ap (put (words_of after) to) (row_words filled room)) (counts ∙ row_yes filled room) tail

-- ---- a block

reads_fewer : (words : List ℕ) (L : Layout) (sheet distances : List ℕ) (around : Around) (samples k : ℕ) → AroundReads words L sheet distances around samples → k ≤ samples
    → AroundReads words L sheet distances around k
reads_fewer words L sheet distances (Surround a) samples k reads h =
    let m = mul-le-mul_right L.places h in
    record {
      left_there = omega (arith, reads.left_there);
      right_there = omega (arith, reads.right_there);
      roads_in = reads.roads_in;
      measured = reads.measured;
      small = reads.small;
      left_valid = λ t l b. reads.left_valid t l (omega arith);
      right_valid = λ t l b. reads.right_valid t l (omega arith);
    }
reads_fewer words L sheet distances (Range a) samples k reads h = omega (arith, mul-le-mul_right L.places h)

range_small : (dual : Bool) (words : List ℕ) (left n : ℕ) (distances : List ℕ) (lower upper t l : ℕ) → somewhere_in dual distances n (signal_in words left n) lower upper t l ≤ highest
range_small true words left n distances lower upper t l = omega arith
range_small false words left n distances lower upper t l = greatest_bound _ _ n (λ k _. signal_bound words left n t k)

around_small : (words : List ℕ) (L : Layout) (sheet distances : List ℕ) (around : Around) (t l : ℕ) → around_value words L sheet distances around t l ≤ highest
around_small words L sheet distances (Surround a) t l = surround_bound words a (sheet_network sheet L) t l
around_small words L sheet distances (Range a) t l = range_small a.dual words a.left L.places distances a.bounds.lower a.bounds.upper t l

module _ {words : List ℕ} {L : Layout} {sheet distances : List ℕ} where
  pub fewer_ready : {around : Around} {samples k : ℕ} → AroundReady words L sheet distances around samples → k ≤ samples → AroundReady words L sheet distances around k
  fewer_ready {around} {samples} {k} ready h = record {
    few_places = ready.few_places;
    few = omega (arith, ready.few);
    distances_there = ready.distances_there;
    reads = reads_fewer words L sheet distances around samples k ready.reads h;
  }

  pub block_ready : {a : Asked.Surround} {b : Block} → BlockFits words L sheet distances (Surround a) b
      → BlockReady words a L.places sheet L.roads b.first b.count distances
  block_ready fits = record {
    few_places = fits.ready.few_places.1;
    some = fits.some;
    few = fits.few;
    left_there = fits.ready.reads.left_there;
    right_there = fits.ready.reads.right_there;
    roads_in = fits.ready.reads.roads_in;
    measured = fits.ready.reads.measured;
    small = fits.ready.reads.small;
    left_valid = λ t l _. fits.ready.reads.left_valid t l;
    right_valid = λ t l _. fits.ready.reads.right_valid t l;
  }

  pub range_ready : {a : Within.Range} {b : Block} → BlockFits words L sheet distances (Range a) b
      → RangeReady words a.left L.places distances b.first b.count
  range_ready fits = record { few_places = fits.ready.few_places.1; few = fits.few; there = fits.ready.reads }

  pub surround_filled : {a : Asked.Surround} (b : Block) {before after : List Place} {r : ℕ}
      → BlockDone words a L.places sheet L.roads b.first b.count before after r
      → BlockFilled words L sheet distances (Surround a) b after r
  unfolding block_rounds
  surround_filled {a} b done = record {
    values = done.values;
    rounds = done.rounds ∙ most_swap (λ centre lane. surround_rounds_in words a (sheet_network sheet L) (b.first + lane) centre) L.places b.count;
  }

  pub somewhere_filled : {a : Within.Range} (b : Block) {before after : List Place}
      → RangeDone words a.left L.places distances b.first b.count a.bounds.lower a.bounds.upper a.dual before after
      → BlockFilled words L sheet distances (Range a) b after 0
  somewhere_filled b done = record { values = done.values; rounds = most_none b.count L.places }

  module _ {around : Around} {b : Block} {buffer : List Place} {r : ℕ} (done : BlockFilled words L sheet distances around b buffer r) where
    pub lanes_bounded : L.places ≤ most_places → b.count ≤ lanes → Room L.places buffer → LanesBounded buffer L.places b.count
    lanes_bounded places few room = record {
      few_places = places;
      few = few;
      room = room;
      bound = λ place lane c d. rw (done.values place lane c d) (around_small words L sheet distances around (b.first + lane) place);
    }

    -- the lanes of a block are its samples
    pub block_written : (answer : List ℕ) (to : ℕ) (after : List ℕ) (y : ℕ) → LanesWritten buffer L.places b.count answer to after y
        → SamplesWritten (λ t. around_value words L sheet distances around (b.first + t)) (λ t. around_rounds words L sheet distances around (b.first + t))
        L.places answer to b.count after (record { rounds = r; yes = y })
    block_written answer to after y w = record {
      written = w.written ∙ ap (put answer to) (rows_ext _ _ b.count L.places (λ lane l c d. ap chain_word (done.values l lane d c)));
      counted = w.counted ∙ sum_same _ _ b.count (λ lane c. sum_same _ _ L.places (λ l d. ap (λ v. count (chain_verdict v)) (done.values l lane d c)));
      greatest = done.rounds;
    }

-- ---- block after block

-- so many blocks cover the samples, and here one of them begins and ends
pub block_inside : {k blocks samples size : ℕ} → blocks ≡ samples / lanes + min 1 (samples % lanes) → k < blocks → size ≡ min lanes (samples - k * lanes)
    → (1 ≤ size) × (size ≤ lanes) × (k * lanes + size ≤ samples) × (min (k * lanes) samples ≡ k * lanes) × (min ((k + 1) * lanes) samples ≡ k * lanes + size)
block_inside all h size = (omega arith, omega arith, omega arith, omega arith, omega arith)

-- the first samples of a line are written
module _ (value rounds_at : ℕ → ℕ → ℕ) (n : ℕ) (line : List ℕ) where
  pub record SoFar (samples : ℕ) (after : List ℕ) (tally : Tally) : Type 0 where
    pub long : length after ≡ length line
    pub written : SamplesWritten value rounds_at n (words_of line) 0 samples (words_of after) tally
    pub tail : after_words after ≡ after_words line

  pub none_so_far : SoFar 0 line (record { rounds = 0; yes = 0 })
  none_so_far = record { long = refl; written = no_samples value rounds_at n (words_of line) 0; tail = refl }

  module _ {first : ℕ} {middle : List ℕ} {tally : Tally} (so_far : SoFar first middle tally) where
    pub more_so_far : (size : ℕ) {after : List ℕ} {here : Tally} → length after ≡ length middle
        → SamplesWritten (λ t. value (first + t)) (λ t. rounds_at (first + t)) n (words_of middle) (first * n) size (words_of after) here
        → after_words after ≡ after_words middle → SoFar (first + size) after (together tally here)
    more_so_far size {after} {here} long block tail =
        let at_line : 0 + first * n ≡ first * n = omega arith in record {
          long = long ∙ so_far.long;
          written = more_samples value rounds_at n (words_of line) 0 first size (words_of middle) (words_of after) tally here (omega arith) so_far.written (rw at_line block);
          tail = tail ∙ so_far.tail;
        }

  pub yes_small : {samples : ℕ} {after : List ℕ} {tally : Tally} → SoFar samples after tally → samples ≤ most_samples → n ≤ most_places → tally.yes ≤ most_samples * most_places
  yes_small so_far few places = omega (arith, few_yes so_far.written, mul-le-mul few places)

-- a block of the samples can be evaluated and written
pub block_fits : {words : List ℕ} {L : Layout} {sheet distances : List ℕ} {around : Around} {samples first size room : ℕ} → AroundReady words L sheet distances around samples → samples * L.places ≤ room
    → 1 ≤ size → size ≤ lanes → first + size ≤ samples → BlockFits words L sheet distances around (record { first = first; count = size }) × ((first + size) * L.places ≤ room)
block_fits {L = L} ready fits some few inside = (record { ready = fewer_ready ready inside; some = some; few = few }, omega (arith, fits, mul-le-mul_right L.places inside))
