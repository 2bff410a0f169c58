-- What stands after the first k lines are written; that line k can be written on it, and what it then becomes.
use mathlib.Core.Path.{◌≡◌, refl, sym, ◌∙◌, ap, ap₂, subst}
use mathlib.Core.Logic.{⊎_elim}
use mathlib.Core.List.{List, ◌∷◌}
use Prim.Native.Nat.{ℕ, ◌+◌, ◌-◌, ◌*◌, ◌<◌, ◌≤◌, ◌^◌, max}
use native.Mathlib.Decide.{dec_lt}
use native.Mathlib.Nat.{not-suc-le-zero, mul-le-mul}
use native.Mathlib.Numerals.{add-one}
use native.Mathlib.Omega.{arith}
use lib.ListN.{length, get_or, set, take, replicate, length-set, length-replicate, get_or-eq_default}
use lib.Seq.{length-take-le, get_or-take, get_or-set_same, get_or-set_other}
use Rattle.words.specs.Rows.{concat, put}
use Rattle.words.proofs.Puts.{put_nil, length-put, put-append}
use Rattle.formulas.specs.Formulas.{Extent, Line, line_in, no_line, InBits}
use Rattle.formulas.proofs.Extents.{Has}
use Rattle.logic.specs.Table.{verdicts, margins, value_at}
use Rattle.counting.specs.Totals.{count, sum_below, most_below}
use Rattle.logic.specs.Counts.{rounds_at, greatest_rounds, yes_count}
use Rattle.counting.proofs.Tests.{below}
use Rattle.formulas.specs.Formulas.{ConstantsIn}
use Rattle.counting.proofs.Totals.{sum_more, sum_bound, table_yes_bound, most_more}
use Rattle.sheet.specs.declared.check.Layout as Code
use Rattle.checks.specs.Limits.{most_places, most_samples, most_lines}
use Rattle.checks.specs.Heads.{head_words, is_wide}
use Rattle.checks.proofs.Heads.{most_of_any}
use Rattle.lines.specs.declared.extent.Extent as Read
use Rattle.lines.specs.Decoding.{extent_in}
use Rattle.lines.specs.GoodLines.{extents_of, GoodLine}
use Rattle.sheet.specs.Layout.{Layout}
use Rattle.sheet.specs.Recording.{network, recording}
use Rattle.lines.proofs.AcceptedLines.{good_end, extent_same, good_constants}
use Rattle.lines.proofs.Lines.{Extents}
use Rattle.values.specs.Chain.{chains, Valid}
use Rattle.values.specs.Signals.{signal_in}
use Rattle.values.proofs.ChainTable.{chains_valid}
use Rattle.samples.specs.declared.tally.Tally.{Tally}
use Rattle.samples.specs.Tally.{together}
use Rattle.answers.specs.Answer.{line_index, first_word, line_words}
use Rattle.locating.specs.Starts.{StartsLow}
use Rattle.verdicts.specs.Rows.{sheet_recording}
use Rattle.verdicts.specs.Around.{sheet_network}
use Rattle.answers.proofs.AnswerWords.{lines_size, sizes_below}
use Rattle.verdicts.proofs.Points.{sheet_bits}
use Rattle.evaluation.specs.Writing.{earlier, line_value, line_rounds}
use Rattle.evaluation.specs.Line.{LineReady, LineWritten, value_here, rounds_here}
use Rattle.evaluation.specs.Lines.{found, Accepting, LinesWritten}
use Rattle.evaluation.proofs.AcceptedTable.{Table, line_ends}
use Rattle.evaluation.proofs.EarlierLines.{signal_before}
use Rattle.evaluation.proofs.LineMeant.{words_meant, yes_meant, rounds_meant}

module _ (s : List ℕ) (layout : Code.Layout) (lines : List Line) where
  -- the words, the greatest rounds and the yes verdicts of one line
  abbrev pub words_of_line : ℕ → List ℕ
  words_of_line = line_words (sheet_network s layout) layout.samples (sheet_recording s layout) lines

  abbrev pub rounds_of_line : ℕ → ℕ
  rounds_of_line i =
      let e : Extent = (line_in lines i).extent in
      most_below (λ u. most_below (λ l.
      rounds_at (sheet_network s layout) (value_at margins (sheet_network s layout) (sheet_recording s layout) lines) (line_in lines i).operator (e.first + u) l) layout.places) e.length

  abbrev pub yes_of_line : ℕ → ℕ
  yes_of_line i =
      let e : Extent = (line_in lines i).extent in
      sum_below (λ u. sum_below (λ l. count (value_at verdicts (sheet_network s layout) (sheet_recording s layout) lines i (e.first + u) l)) layout.places) e.length

  pub record LinesDone (answer : List ℕ) (k : ℕ) (words starts : List ℕ) (to : ℕ) (tally : Tally) : Type 0 where
    -- where the signal of each line begins, and where the next line will
    pub room : length starts ≡ most_lines
    pub begins : (i : ℕ) → i < k → get_or starts i 0 ≡ line_index (is_wide s) layout.places lines i + 1
    pub ends : to ≡ line_index (is_wide s) layout.places lines k
    pub written : words ≡ put answer (head_words (is_wide s)) (concat words_of_line k)
    pub greatest : tally.rounds ≡ most_below rounds_of_line k
    pub counted : tally.yes ≡ sum_below yes_of_line k

  pub none_done : (answer : List ℕ) → LinesDone answer 0 answer (replicate most_lines 0) (head_words (is_wide s)) (record { rounds = 0; yes = 0 })
  unfolding line_index concat sum_below most_below
  none_done answer = record {
    room = length-replicate {A = ℕ} most_lines 0;
    begins = λ i h. absurd (not-suc-le-zero h);
    ends = omega arith;
    written = sym (put_nil answer (head_words (is_wide s)));
    greatest = refl;
    counted = refl;
  }

-- all lines done is what the contract says
pub all_done : (s : List ℕ) (layout : Code.Layout) (distances answer words starts : List ℕ) (k to : ℕ) (tally : Tally) → Accepting s layout distances
    → k ≡ length (found s (length distances)).lines → LinesDone s layout (found s (length distances)).lines answer k words starts to tally
    → LinesWritten s (found s (length distances)) answer words to tally
unfolding network recording sheet_recording greatest_rounds yes_count
all_done s layout distances answer words starts k to tally accepting last done =
    let L : Layout = found s (length distances) in
    let all = subst (λ (y : Code.Layout). LinesDone s y L.lines answer (length L.lines) words starts to tally) accepting.laid (rw last at done) in
    record { written = all.written; ends = all.ends; greatest = all.greatest; counted = all.counted }

module _ (s : List ℕ) (layout : Code.Layout) (distances : List ℕ) (lines : List Line) (table : Table s layout distances lines) where
  constants : ConstantsIn (InBits 27) lines
  constants = good_constants layout.signals layout.samples lines table.good

  -- no line has more verdicts than the most samples at the most places
  pub yes_few : (k : ℕ) → k < most_lines → sum_below (yes_of_line s layout lines) (k + 1) ≤ most_lines * (most_samples * most_places)
  yes_few k h = omega (arith, sum_bound (yes_of_line s layout lines) (k + 1) (most_samples * most_places) (λ i _. one i))
    where
      one : (i : ℕ) → yes_of_line s layout lines i ≤ most_samples * most_places
      one i =
          let n : ℕ = layout.places in
          let e : Extent = (line_in lines i).extent in
          let long : e.length ≤ most_samples = omega (arith, good_end layout.signals layout.samples lines table.good i, table.sizes.samples) in
          let wide : n ≤ most_places = omega (arith, table.sizes.places, most_of_any (is_wide s)) in
          omega (arith, table_yes_bound (λ u. value_at verdicts (sheet_network s layout) (sheet_recording s layout) lines i (e.first + u)) e.length n, mul-le-mul long wide)

  module _ (answer : List ℕ) (enough : line_index (is_wide s) layout.places lines layout.lines ≤ length answer)
      (k : ℕ) (inside : k < length lines) (words starts : List ℕ) (to : ℕ) (tally : Tally) (done : LinesDone s layout lines answer k words starts to tally)
      (extents : List Read.Extent) (known : Extents (take k lines) (take k extents)) (many : length extents ≡ most_lines) where
    abbrev n : ℕ
    n = layout.places

    before : List ℕ
    before = take to words

    -- where the signals of the earlier lines begin, and their extents
    passed : length (take k extents) ≡ k
    passed = length-take-le k extents (omega (arith, many, table.sizes.count))

    start_known : (i : ℕ) → i < k → get_or (take k starts) i 0 ≡ line_index (is_wide s) n lines i + 1
    start_known i h = get_or-take k starts i 0 h ∙ done.begins i h

    extent_known : (i : ℕ) → i < k → extent_in (take k extents) i ≡ (line_in lines i).extent
    extent_known i h = known i ∙ ap (λ (line : Line). line.extent) (get_or-take k lines i no_line h)

    -- no start is too far for the samples behind it
    pub starts_low : StartsLow (take k starts) n
    unfolding line_index
    starts_low = record { few_places = omega (arith, table.sizes.places, most_of_any (is_wide s)); low = λ i. go i (dec_lt i k) }
      where
        go : (i : ℕ) → Dec (i < k) → get_or (take k starts) i 0 < 2 ^ 62
        go i (yes h) = omega (arith, start_known i h, sizes_below (sheet_network s layout) layout.samples (sheet_recording s layout) lines i k h, line_ends (is_wide s) n layout.samples lines k inside table.sizes refl)
        go i (no h) = let none = get_or-eq_default (take k starts) 0 {n = i} (omega (arith, length-take-le k starts (omega (arith, done.room, table.sizes.count)))) in omega arith

    -- the words of the lines up to k fit
    fits : line_index (is_wide s) n lines k + (1 + (line_in lines k).extent.length * n) ≤ length answer
    unfolding line_index
    fits = omega (arith, enough, ap (line_index (is_wide s) n lines) table.counted, sizes_below (sheet_network s layout) layout.samples (sheet_recording s layout) lines k (length lines) inside)

    length_done : head_words (is_wide s) + length (concat (words_of_line s layout lines) k) ≡ line_index (is_wide s) n lines k
    unfolding line_index
    length_done = omega (arith, lines_size (sheet_network s layout) layout.samples (sheet_recording s layout) lines k)

    length_kept : length words ≡ length answer
    length_kept = ap length done.written ∙ length-put answer (head_words (is_wide s)) (concat (words_of_line s layout lines) k) (omega (arith, fits, length_done))

    room_left : to + (1 + (line_in lines k).extent.length * n) ≤ length words
    room_left = omega (arith, fits, length_kept, done.ends)

    -- u samples after a line's first, and by the recording's own samples
    signal_after : (i u l : ℕ) → i < k → u < (line_in lines i).extent.length → l < n
        → signal_in before (get_or (take k starts) i 0) n u l ≡ value_at chains (sheet_network s layout) (sheet_recording s layout) lines i ((line_in lines i).extent.first + u) l
    unfolding before
    signal_after i u l h among b =
        rw (start_known i h, done.ends, done.written)
        (signal_before (sheet_network s layout) layout.samples (sheet_recording s layout) (sheet_bits s layout) lines constants (is_wide s) answer (omega (arith, fits, length_done)) k i u l h among b)

    signal_here : (i t l : ℕ) → i < k → Has (extents_of lines i) t → l < n → earlier layout before (take k starts) (take k extents) i t l ≡ value_at chains (sheet_network s layout) (sheet_recording s layout) lines i t l
    signal_here i t l h among b =
        let first : ℕ = (line_in lines i).extent.first in
        let back : first + (t - first) ≡ t = omega (arith, among.from) in
        ap (λ (e : Extent). signal_in before (get_or (take k starts) i 0) n (t - e.first) l) (extent_known i h)
        ∙ signal_after i (t - first) l h (omega (arith, among.from, among.to)) b
        ∙ ap (λ (u : ℕ). value_at chains (sheet_network s layout) (sheet_recording s layout) lines i u l) back

    good : GoodLine layout.signals layout.samples (extents_of lines) k (line_in lines k)
    good = table.good k inside

    ready : LineReady layout (take to words) (take k starts) (take k extents) (line_in lines k)
    unfolding before line_index
    ready = record {
      good = rw passed (record {
        some = good.some;
        ends = good.ends;
        extent = good.extent
            ∙ extent_same layout.samples layout.signals k (extents_of lines) (extent_in (take k extents)) (λ i h. sym (extent_known i h)) (line_in lines k).operator good.sound;
        sound = good.sound;
      });
      written = λ i h. omega (
        arith,
        start_known i (omega (arith, passed)),
        ap (λ (e : Extent). e.length * n) (extent_known i (omega (arith, passed))),
        done.ends,
        length-take-le to words (omega (arith, room_left)),
        sizes_below (sheet_network s layout) layout.samples (sheet_recording s layout) lines i k (omega (arith, passed)),
      );
      valid = λ i u l h among b.
          let before_k : i < k = omega (arith, passed) in
          subst Valid (sym (signal_after i u l before_k (omega (arith, ap (λ (e : Extent). e.length) (extent_known i before_k))) b))
          (chains_valid (sheet_network s layout) (sheet_recording s layout) (sheet_bits s layout) lines constants i ((line_in lines i).extent.first + u) l b);
    }

    -- the line's words go behind those before it
    joined : put words to (words_of_line s layout lines k) ≡ put answer (head_words (is_wide s)) (concat (words_of_line s layout lines) (k + 1))
    unfolding concat
    joined =
        let at : to ≡ head_words (is_wide s) + length (concat (words_of_line s layout lines) k) = omega (arith, done.ends, length_done) in
        ap₂ (λ (w : List ℕ) (a : ℕ). put w a (words_of_line s layout lines k)) done.written at
        ∙ rw (add-one k) (put-append answer (head_words (is_wide s)) (concat (words_of_line s layout lines) k) (words_of_line s layout lines k) (omega (arith, fits, length_done)))

    begun : (i : ℕ) → i < k + 1 → get_or (set starts k (to + 1)) i 0 ≡ line_index (is_wide s) n lines i + 1
    begun i h = ⊎_elim
        (λ e. rw e (get_or-set_same starts k (to + 1) 0 (omega (arith, done.room, table.sizes.count)) ∙ ap (λ a. a + 1) done.ends))
        (λ l. get_or-set_other starts k i (to + 1) 0 (λ e. omega arith) ∙ done.begins i l)
        (below (omega arith))

    more_done : (after : List ℕ) (more : Tally) → LineWritten s layout (take to words) (take k starts) (take k extents) (line_in lines k) words to after more
        → LinesDone s layout lines answer (k + 1) after (set starts k (to + 1)) (to + (1 + (line_in lines k).extent.length * n)) (together tally more)
    unfolding before value_here rounds_here line_value line_rounds line_words
    more_done after more here =
        let N = sheet_network s layout in
        let x = sheet_recording s layout in
        let T : ℕ = layout.samples in
        let meant = words_meant N T x (sheet_bits s layout) lines constants layout.signals table.good k inside (earlier layout before (take k starts) (take k extents)) signal_here in
        let many = yes_meant N T x (sheet_bits s layout) lines constants layout.signals table.good k inside (earlier layout before (take k starts) (take k extents)) signal_here in
        let most = rounds_meant N T x (sheet_bits s layout) lines constants layout.signals table.good k inside (earlier layout before (take k starts) (take k extents)) signal_here in
        record {
          room = length-set starts k (to + 1) ∙ done.room;
          begins = begun;
          ends = omega (arith, done.ends, line_ends (is_wide s) n T lines k inside table.sizes refl);
          written = here.written ∙ ap (λ (w : List ℕ). put words to (first_word (line_in lines k).extent ∷ w)) meant ∙ joined;
          greatest = ap₂ max done.greatest (here.greatest ∙ most) ∙ sym (most_more (rounds_of_line s layout lines) k);
          counted = ap₂ ◌+◌ done.counted (here.counted ∙ many) ∙ sym (sum_more (yes_of_line s layout lines) k);
        }

    -- the same of the line as it was decoded
    module _ (line : Line) (said : line ≡ line_in lines k) where
      pub line_fits : to + (1 + line.extent.length * n) ≤ length words
      line_fits = rw said room_left

      pub line_ready : LineReady layout (take to words) (take k starts) (take k extents) line
      line_ready = rw said ready

      pub line_done : (after : List ℕ) (more : Tally) → LineWritten s layout (take to words) (take k starts) (take k extents) line words to after more
          → LinesDone s layout lines answer (k + 1) after (set starts k (to + 1)) (to + (1 + line.extent.length * n)) (together tally more)
      line_done after more here = rw said (more_done after more (rw said at here))
