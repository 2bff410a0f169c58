-- What stands in the output while a sheet is written with its corrections: first its own words, and in the end its words corrected.
use mathlib.Core.Path.{◌≡◌, sym, ap, ◌∙◌}
use mathlib.Core.List.{List}
use Prim.Native.Nat.{ℕ, ◌*◌, ◌<◌, ◌≤◌}
use native.Mathlib.Omega.{arith}
use lib.ListN.{length, take, length-take}
use lib.Seq.{length-take-le, take-length, get_or-take, ext_get_or}
use Rattle.words.specs.Bytes.{words_of}
use Rattle.words.specs.Rows.{put}
use Rattle.words.proofs.Words.{words_count, words_take}
use Rattle.words.proofs.Puts.{words_put, front_take}
use Rattle.words.proofs.Rows.{length-row, get_or-row}
use Rattle.checks.specs.Checked.{word_at}
use Rattle.corrections.specs.declared.correction.Grid.{Grid}
use Rattle.corrections.specs.Corrections.{count, target}
use Rattle.correcting.specs.Corrected.{word_after, corrected_words}
use Rattle.tool.proofs.Leaving.{same_words}
use Rattle.corrections.specs.declared.list.Corrections.{Corrections}
use Rattle.correcting.specs.Lent.{Targets, NoRevisions, AllCorrected, TargetsIn, NoRevisionsIn, AllRaisedIn, AllSettledIn, CorrectedIn, Ready}
use Rattle.correcting.proofs.Raising.{targets_kept}

-- the words that were copied stand at the front
pub copied_front : (sheet output : List ℕ) {end : ℕ} {after : List ℕ} → end ≡ length (words_of sheet) * 4 → length (words_of sheet) ≤ length (words_of output)
    → after ≡ put output 0 (take end sheet) → take (length (words_of sheet)) (words_of after) ≡ words_of sheet
copied_front sheet output ends room copied =
    let n : ℕ = length (words_of sheet) in
    let part = take (n * 4) sheet in
    let words : words_of part ≡ words_of sheet = words_take sheet n ∙ take-length (words_of sheet) in
    let long : length part ≡ n * 4 = length-take-le (n * 4) sheet (omega (arith, words_count sheet)) in
    ap (λ b. take n (words_of b)) (copied ∙ ap (λ e. put output 0 (take e sheet)) ends)
    ∙ ap (take n) (words_put output part 0 n long (omega arith))
    ∙ front_take (words_of output) (words_of part) n (ap length words)
    ∙ words

module _ (s c : List ℕ) (g : Grid) (before : List ℕ) (front : take (length s) before ≡ s) where
  front_word : (index : ℕ) → index < length s → word_at before index ≡ word_at s index
  front_word index inside = sym (get_or-take (length s) before index 0 inside) ∙ ap (λ words. word_at words index) front

  pub front_long : length s ≤ length before
  front_long = omega (arith, ap length front, length-take (length s) before)

  pub front_targets : {n : ℕ} → Targets c g n s → Targets c g n before
  front_targets targets = targets_kept c g targets front_long

  pub front_samples : {n : ℕ} → Targets c g n s → NoRevisions c g s → NoRevisions c g before
  front_samples targets samples k h = rw (front_word (target c g k) (targets.inside k (omega (arith, targets.all)))) (samples k h)

  pub front_corrected : (words : List ℕ) → length s ≤ length words → AllCorrected c g before words → take (length s) words ≡ corrected_words s c g
  unfolding corrected_words
  front_corrected words room all =
      let after : ℕ → ℕ = λ index. word_after c g index (word_at s index) (count c) in
      let long = length-take-le (length s) words room in
      ext_get_or 0 (take (length s) words) _ (long ∙ sym (length-row after (length s)))
      (λ index inside. let below : index < length s = omega (arith, long) in
      get_or-take (length s) words index 0 below ∙ all index ∙ ap (λ w. word_after c g index w (count c)) (front_word index below)
      ∙ sym (get_or-row after (length s) index 0 below))

-- ---- by what the code writes: the sheet's bytes are copied, all corrections raised and then settled
module _ (list : Corrections) (sheet output copied : List ℕ) {words : ℕ} (ready : Ready list sheet output) (counted : words ≡ length (words_of sheet)) (stored : copied ≡ put output 0 (take (words * 4) sheet)) where
  front : take (length (words_of sheet)) (words_of copied) ≡ words_of sheet
  front = copied_front sheet output (ap (λ n. n * 4) counted) ready.room stored

  pub copied_ready : TargetsIn list copied × NoRevisionsIn list copied
  copied_ready = (front_targets _ _ _ _ front ready.targets, front_samples _ _ _ _ front ready.targets ready.samples)

  pub copied_corrected : (raised after : List ℕ) → length after ≡ length copied → AllRaisedIn list copied raised → AllSettledIn list raised after → CorrectedIn list sheet after
  copied_corrected raised after long all settled =
      front_corrected _ _ _ _ front (words_of after) (omega (arith, same_words after copied long, front_long _ (words_of list.words.now) list.grid _ front)) (settled (words_of copied) all)

-- what is known of the output while it is written
pub ruleset front_laws = (words_count, length-take-le, copied_ready, copied_corrected)
