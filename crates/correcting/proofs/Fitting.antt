-- What is written of a sheet and a list fits the bytes that it stands in: each word has 32 bits, where those of both have, and there are fewer than 2^26. So a host can
-- read it back. And no refusal of the tool has the number 0.
use mathlib.Core.Path.{◌≡◌, sym, subst}
use mathlib.Core.Logic.{⊎_elim}
use mathlib.Core.List.{List}
use Prim.Native.Nat.{ℕ, zero, suc, ◌+◌, ◌*◌, ◌<◌, ◌^◌}
use native.Mathlib.Omega.{arith}
use lib.ListN.{length}
use Rattle.words.proofs.Below.{Below, below_row}
use Rattle.checks.specs.Limits.{most_places}
use Rattle.checks.specs.Checked.{Checked, accepted, refused, word_at}
use Rattle.checks.proofs.Numbered.{Numbered, accepts, some_number, required, bound, number_told}
use Rattle.sheet.specs.Layout.{validated}
use Rattle.sheet.proofs.RefusalNumbers.{validated_numbered}
use Rattle.sheet.proofs.Whole.{accepted_sheet, few_words}
use Rattle.corrections.specs.declared.correction.Grid.{Grid}
use Rattle.corrections.specs.Corrections.{count, in_turn, well_formed, agrees, list_checked}
use Rattle.correcting.specs.Corrected.{grid_of, corrected_words, corrected}
use Rattle.correcting.proofs.Counting.{after_told}
use Rattle.correcting.proofs.Correction.{Made, made_told, as_many_words}

-- ---- the words
module _ (s c made : List ℕ) (e : corrected s c ≡ accepted made) where
  abbrev of : Made s c made
  of = made_told s c made e

  pub made_short : length made < 2 ^ 26
  unfolding validated
  made_short =
      let most : ℕ = most_places * most_places in
      omega (arith, as_many_words s c made e, few_words s most of.layout (accepted_sheet s most of.layout of.found))

  pub made_fits : Below (2 ^ 32) s → Below (2 ^ 32) c → Below (2 ^ 32) made
  unfolding corrected_words
  made_fits sheet list = subst (Below (2 ^ 32)) (sym of.made_of) (below_row (omega arith) _ (length s) (λ index _.
      ⊎_elim (λ same. rw same.1 (sheet index)) (λ (k, _, _, v). rw v (list (k * 3 + 2))) (after_told c (grid_of s of.layout) index (word_at s index) (count c))))

-- ---- the refusals
turns_numbered : (check : ℕ → Checked (Unit {0})) (n : ℕ) → ((k : ℕ) → Numbered some_number (check k)) → Numbered some_number (in_turn check n)
unfolding in_turn
turns_numbered check zero each = accepts
turns_numbered check (suc n) each = bound (in_turn check n) _ (turns_numbered check n each) (λ _. each n)

list_numbered : (c : List ℕ) (g : Grid) → Numbered some_number (list_checked c g)
unfolding list_checked well_formed agrees
list_numbered c g = bound (in_turn (well_formed c g) (count c)) _
    (turns_numbered (well_formed c g) (count c) (λ k. search (required, accepts)))
    (λ _. turns_numbered (agrees c g) (count c) (λ k. search (required, accepts)))

pub never_0 : (s c : List ℕ) (place : ℕ) → corrected s c ≡ refused 0 place → ⊥
unfolding corrected
never_0 s c place e = number_told (bound (validated s) _ (validated_numbered s) (λ L. bound (list_checked c (grid_of s L)) _ (list_numbered c (grid_of s L)) (λ _. accepts))) e
