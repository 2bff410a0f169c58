-- The value of a line at one sample and place is at most `highest`; the samples of an atom, where they stand in the sheet; and the row of one sample, by
-- the operator that a line has, and as words.
use mathlib.Core.Path.{◌≡◌, sym, ap, subst, ◌∙◌}
use mathlib.Core.Bool.{true, false}
use mathlib.Core.List.{List}
use Prim.Native.Nat.{ℕ, ◌+◌, ◌-◌, ◌*◌, ◌≤◌, ◌<◌}
use native.Mathlib.Nat.{mul_comm, mul_assoc, mul-le-mul_right}
use native.Mathlib.Omega.{arith}
use lib.IntN.{ℤ, pos, negsuc, ◌-ℤ◌}
use lib.ListN.{length, get_or, take, drop}
use lib.Seq.{length-take-le, get_or-take, get_or-drop}
use mir.Syntax.{w32}
use mir.Val.{to_z, of_z}
use mir.Facts.{to_z-of_z}
use Rattle.words.specs.Word.{sample_of}
use Rattle.words.specs.Bytes.{words_of}
use Rattle.words.specs.Rows.{row}
use Rattle.words.proofs.Rows.{in_table, row_ext}
use Rattle.words.proofs.Words.{words_drop, words_take}
use Rattle.counting.specs.Totals.{count, sum_below}
use Rattle.counting.proofs.Totals.{sum_same}
use Rattle.formulas.specs.Formulas.{InBits}
use Rattle.network.specs.Network.{Network, joined}
use Rattle.logic.specs.Table.{surround_at}
use Rattle.logic.proofs.Keeps.{surround_kept}
use Rattle.logic.proofs.Small.{difference_small}
use Rattle.sheet.specs.declared.check.Layout.{Layout}
use Rattle.sheet.proofs.Samples.{recording_bits}
use Rattle.values.specs.Chain.{chain_lattice, highest, chain_word, chain_verdict}
use Rattle.values.specs.Signals.{signal_in}
use Rattle.values.proofs.Machine.{small_fits}
use Rattle.values.proofs.Valid.{valid_difference}
use Rattle.values.proofs.ChainWords.{signal_bound}
use Rattle.operators.specs.Rows.{Filled}
use Rattle.operators.proofs.Bounds.{bounded_kept, meet_bound}
use Rattle.codes.specs.Decoding.{side_said}
use Rattle.windows.specs.Rows.{present_of}
use Rattle.windows.proofs.Bounds.{until_bound, ahead_bound}
use Rattle.surrounds.specs.declared.surround.Surround.{Surround}
use Rattle.surrounds.specs.Surround.{surround_in}
use Rattle.locating.specs.declared.RowOperator.{RowOperator}
use Rattle.locating.specs.declared.RowOperator.TheVariants.{True, Atom, Not, Both, Until, Eventually}
use Rattle.samples.specs.Sample.{ValuesThere}
use Rattle.verdicts.specs.Rows.{sheet_recording, row_value, RowReads, RowReady}

-- ---- no value is beyond `highest`

pub surround_bound : (words : List ℕ) (a : Surround) (N : Network) (t centre : ℕ) → surround_in words a N t centre ≤ highest
unfolding surround_in surround_at
surround_bound words a N t centre =
    let left : ℕ → ℕ = signal_in words a.left N.places t in
    let right : ℕ → ℕ = signal_in words a.right N.places t in
    surround_kept chain_lattice chain_lattice (λ c _. c ≤ highest) bounded_kept (joined N) N.places left right left right
    (λ k _. signal_bound words a.left N.places t k) (λ k _. signal_bound words a.right N.places t k) a.islands _ _ centre

module _ (s : List ℕ) (L : Layout) where
  pub sheet_bits : (x t l : ℕ) → InBits 27 (sheet_recording s L x t l)
  unfolding sheet_recording
  sheet_bits = recording_bits s L.recording L.places L.signals

  pub row_bound : (words : List ℕ) (o : RowOperator) (t l : ℕ) → RowReads L words o t → row_value s L words o t l ≤ highest
  unfolding row_value
  row_bound words True t l reads = omega arith
  row_bound words (Atom x c true) t l reads =
      (valid_difference (sheet_recording s L x t l -ℤ c) (difference_small (sheet_recording s L x t l) c (sheet_bits x t l) reads.2)).bounded
  row_bound words (Atom x c false) t l reads =
      (valid_difference (c -ℤ sheet_recording s L x t l) (difference_small c (sheet_recording s L x t l) reads.2 (sheet_bits x t l))).bounded
  row_bound words (Not left) t l reads = omega arith
  row_bound words (Both left right true) t l reads = omega arith
  row_bound words (Both left right false) t l reads = meet_bound _ _ (signal_bound words left L.places t l) (signal_bound words right L.places t l)
  row_bound words (Until u) t l reads = until_bound (side_said u.direction) (signal_in words u.left L.places) (signal_in words u.right L.places) u.bounds.lower u.bounds.upper (present_of u t) l
      (λ v. signal_bound words u.left L.places v l) (λ v. signal_bound words u.right L.places v l)
  row_bound words (Eventually left b true) t l reads = omega arith
  row_bound words (Eventually left b false) t l reads = ahead_bound false words left L.places b.lower b.upper t l

-- ---- a sample of the recording

-- all of them, in the order of the sheet: time outermost, then place, then signal
all_samples : (L : Layout) → L.samples * L.places * L.signals ≡ L.signals * L.places * L.samples
all_samples L = mul_comm (L.samples * L.places) L.signals ∙ ap (λ (k : ℕ). L.signals * k) (mul_comm L.samples L.places) ∙ sym (mul_assoc L.signals L.places L.samples)

pub sample_inside : (L : Layout) {t : ℕ} → t < L.samples → (t + 1) * L.places * L.signals ≤ L.signals * L.places * L.samples
sample_inside L {t} h =
    let later : t + 1 ≤ L.samples = omega arith in
    rw (all_samples L) at (mul-le-mul_right L.signals (mul-le-mul_right L.places later))

pub sample_index : (L : Layout) {x t l : ℕ} → x < L.signals → t < L.samples → l < L.places → (t * L.places + l) * L.signals + x < L.signals * L.places * L.samples
sample_index L h k b = rw (all_samples L) at (in_table (in_table k b) h)

-- a constant as the machine holds it is the constant
pub constant_kept : (c : ℤ) → InBits 27 c → to_z w32 (of_z w32 c) ≡ c
constant_kept (pos x) h = to_z-of_z (small_fits (pos x) (omega arith))
constant_kept (negsuc x) h = to_z-of_z (small_fits (negsuc x) (omega arith))

-- m words of the bytes from word k on
pub words_part : (bytes : List ℕ) (k m : ℕ) → words_of (take ((k + m) * 4 - k * 4) (drop (k * 4) bytes)) ≡ take m (drop k (words_of bytes))
words_part bytes k m =
    let size : (k + m) * 4 - k * 4 ≡ m * 4 = omega arith in
    ap (λ (n : ℕ). words_of (take n (drop (k * 4) bytes))) size ∙ words_take (drop (k * 4) bytes) m ∙ ap (take m) (words_drop bytes k)

-- a sample in the part of the sheet that is lent
pub sample_read : (bytes : List ℕ) (L : Layout) {x t l : ℕ} → x < L.signals → t < L.samples → l < L.places
    → sample_of (get_or (words_of (take ((L.recording + L.signals * L.places * L.samples) * 4 - L.recording * 4) (drop (L.recording * 4) bytes))) ((t * L.places + l) * L.signals + x) 0)
    ≡ sheet_recording (words_of bytes) L x t l
unfolding sheet_recording
sample_read bytes L {x} {t} {l} h k b =
    let count = L.signals * L.places * L.samples in
    let i = (t * L.places + l) * L.signals + x in
    rw (words_part bytes L.recording count)
    (ap sample_of (get_or-take count (drop L.recording (words_of bytes)) i 0 (sample_index L h k b) ∙ get_or-drop L.recording (words_of bytes) i 0))

-- ---- the row of one sample

-- the same by the operator that a line has
pub ready_as : {s : List ℕ} {L : Layout} {words : List ℕ} {o p : RowOperator} {t : ℕ} {held : List ℕ} → RowReady s L words o t held → o ≡ p → RowReady s L words p t held
ready_as {s} {L} {words} {t = t} {held} ready e = subst (λ q. RowReady s L words q t held) e ready

-- as words
module _ {n : ℕ} {f : ℕ → ℕ} {values : List ℕ} (filled : Filled n f values) (room : n ≤ length values) where
  pub sample_long : length (take n values) ≡ n
  sample_long = length-take-le n values room

  number_there : (l : ℕ) → l < n → get_or (take n values) l 0 ≡ f l
  number_there l b = get_or-take n values l 0 b ∙ filled.at l b

  pub row_there : ((l : ℕ) → l < n → f l ≤ highest) → ValuesThere (take n values)
  row_there small l b = let inside : l < n = omega (arith, sample_long) in rw (number_there l inside) (small l inside)

  pub row_words : row (λ l. chain_word (get_or (take n values) l 0)) (length (take n values)) ≡ row (λ l. chain_word (f l)) n
  row_words = rw sample_long (row_ext _ _ n (λ l b. ap chain_word (number_there l b)))

  pub row_yes : sum_below (λ l. count (chain_verdict (get_or (take n values) l 0))) (length (take n values)) ≡ sum_below (λ l. count (chain_verdict (f l))) n
  row_yes = rw sample_long (sum_same _ _ n (λ l b. ap (λ v. count (chain_verdict v)) (number_there l b)))

-- so many bytes before a line are there
pub length_before : (s : List ℕ) (k : ℕ) → k ≤ length s → length (take k s) ≡ k
length_before s k h = length-take-le k s h
