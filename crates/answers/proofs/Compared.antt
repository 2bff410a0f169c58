-- Two sheets X and Y alike in every word but their samples. Where as much is lent they are decided alike. Where both are accepted, whatever was lent to
-- either, they have the same layout and network, so what stands between the values of every line, at every sample and place, stands between what the
-- two answers say: demand 3 and request M-103 are instances.
use mathlib.Core.Path.{◌≡◌, refl, sym, ap, ap₂, subst, subst₂, ◌∙◌}
use mathlib.Core.Bool.{Bool, true, false, cond}
use mathlib.Core.List.{List}
use Prim.Native.Nat.{ℕ, ◌<◌}
use lib.Dec.{T, leb, ltb, ltb→lt}
use lib.ListN.{length}
use lib.IntN.{ℤ}
use Rattle.counting.proofs.Tests.{and_r}
use Rattle.counting.proofs.Lists.{each_length}
use Rattle.network.specs.Network.{Network}
use Rattle.formulas.specs.Formulas.{has, Line, line_in, Recording}
use Rattle.logic.specs.Margin.{Margin}
use Rattle.logic.specs.Table.{verdicts, margins, value_at}
use Rattle.checks.specs.Checked.{Checked, accepted, refused}
use Rattle.checks.specs.Heads.{is_wide}
use Rattle.sheet.specs.Layout.{Layout, checked}
use Rattle.sheet.specs.Recording.{network, recording}
use Rattle.sheet.specs.Alike.{AlikeButSamples}
use Rattle.sheet.proofs.Whole.{AcceptedSheet, accepted_sheet}
use Rattle.sheet.proofs.SameLayout.{layout_same, checked_alike, same_layout}
use Rattle.sheet.proofs.SameNetwork.{network_same}
use Rattle.values.specs.Said.{says, nothing}
use Rattle.lookup.specs.Lookup.{said_at}
use Rattle.answers.specs.Meant.{present}
use Rattle.answers.specs.Answer.{words_needed}
use Rattle.answers.specs.Judged.{Judged, refusal, answered, judged_by, judged}
use Rattle.answers.specs.Compared.{decision, BothSay}
use Rattle.answers.proofs.Accepted.{Answered, accepted_answered, answered_says}

-- ---- what is decided
-- the number and the place of what is judged, by the sheet's layout, its length and what the check says
abbrev told : ℕ → Bool → ℕ → Checked Layout → ℕ × ℕ
told answer wide words (refused number place) = (number, place)
told answer wide words (accepted L) = cond (leb (words_needed wide (L.sizes.places) (L.lines)) answer) (0, 0) (15, words)

judged_told : (s : List ℕ) (distances answer : ℕ) (c : Checked Layout) → decision (judged_by s distances answer c) ≡ told answer (is_wide s) (length s) c
unfolding answered
judged_told s distances answer (refused number place) = refl
judged_told s distances answer (accepted L) = by (leb (words_needed (is_wide s) (L.sizes.places) (L.lines)) answer)
  where
    by : (enough : Bool) → decision (cond enough (answered s distances answer L) (refusal distances answer 15 (length s))) ≡ cond enough (0, 0) (15, length s)
    by true = refl
    by false = refl

-- ---- what is said
-- where a line, sample or place is not there, both say nothing
both : (Stand : Bool → Bool → Margin → Margin → Type 0) (p : Bool) (v w : Bool) (m k : Margin) → (T p → Stand v w m k)
    → BothSay Stand (cond p (says v m) nothing) (cond p (says w k) nothing)
both Stand true v w m k h = h tt
both Stand false v w m k h = tt

-- what stands between the values on one network and on two recordings
abbrev pub ValuesStand : (Bool → Bool → Margin → Margin → Type 0) → List Line → (N M : Network) (x y : Recording) (i t l : ℕ) → Type 0
ValuesStand Stand lines N M x y i t l = Stand (value_at verdicts N x lines i t l) (value_at verdicts M y lines i t l) (value_at margins N x lines i t l) (value_at margins M y lines i t l)

module _ (Related : ℤ → ℤ → Type 0) (X Y : List ℕ) (alike : AlikeButSamples Related X Y) where
  -- accepted both, or refused both with the same number and place
  pub decided_alike : (distances answer : ℕ) → decision (judged X distances answer) ≡ decision (judged Y distances answer)
  unfolding judged
  decided_alike distances answer =
      judged_told X distances answer (checked X distances)
      ∙ ap (λ wide. told answer wide (length X) (checked X distances)) (layout_same Related X Y alike)
      ∙ ap₂ (told answer (is_wide Y)) (each_length alike) (checked_alike Related X Y alike distances)
      ∙ sym (judged_told Y distances answer (checked Y distances))

  -- the two are answered by one layout
  pub both_answered : (dx ax dy ay : ℕ) (P : Judged → Judged → Type 0)
      → ((L : Layout) → AcceptedSheet X dx L → AcceptedSheet Y dy L → P (answered X dx ax L) (answered Y dy ay L))
      → (judged X dx ax).result.number ≡ 0 → (judged Y dy ay).result.number ≡ 0 → P (judged X dx ax) (judged Y dy ay)
  both_answered dx ax dy ay P holds zx zy =
      let x : Answered X dx ax = accepted_answered X dx ax zx in
      let y : Answered Y dy ay = accepted_answered Y dy ay zy in
      let in_X : AcceptedSheet X dx x.layout = accepted_sheet X dx x.layout x.found in
      let in_Y : AcceptedSheet Y dy y.layout = accepted_sheet Y dy y.layout y.found in
      let same : x.layout ≡ y.layout = same_layout Related X Y alike dx dy x.found y.found in
      subst₂ P (sym x.left) (sym (y.left ∙ ap (answered Y dy ay) (sym same))) (holds x.layout in_X (subst (AcceptedSheet Y dy) (sym same) in_Y))

  module _ (Stand : Bool → Bool → Margin → Margin → Type 0)
      (values : (dx : ℕ) (L : Layout) → AcceptedSheet X dx L → (i t l : ℕ) → l < L.sizes.places
      → ValuesStand Stand (L.lines) (network X L) (network X L) (recording X L) (recording Y L) i t l) where
    -- with what the check of the two sheets has found
    found_stand : (dx ax dy ay : ℕ) (L : Layout) → AcceptedSheet X dx L → AcceptedSheet Y dy L
        → (i t l : ℕ) → BothSay Stand (said_at (answered X dx ax L).answer i t l) (said_at (answered Y dy ay L).answer i t l)
    unfolding network
    found_stand dx ax dy ay L x y i t l =
        let N : Network = network X L in
        let lines : List Line = L.lines in
        let place : T (present N lines i t l) → l < L.sizes.places =
        λ h. ltb→lt l (L.sizes.places) (and_r (has (line_in lines i).extent t) _ (and_r (ltb i (length lines)) _ h)) in
        subst₂ (BothSay Stand) (sym (answered_says X dx L x ax i t l)) (sym (answered_says Y dy L y ay i t l))
        (both Stand (present N lines i t l) _ _ _ _ (λ h. subst
        (λ (M : Network). ValuesStand Stand lines N M (recording X L) (recording Y L) i t l)
        (network_same Related X Y alike dy L y)
        (values dx L x i t l (place h))))

    pub answers_stand : (dx ax dy ay : ℕ) → (judged X dx ax).result.number ≡ 0 → (judged Y dy ay).result.number ≡ 0
        → (i t l : ℕ) → BothSay Stand (said_at (judged X dx ax).answer i t l) (said_at (judged Y dy ay).answer i t l)
    answers_stand dx ax dy ay = both_answered dx ax dy ay
        (λ j k. (i t l : ℕ) → BothSay Stand (said_at j.answer i t l) (said_at k.answer i t l)) (found_stand dx ax dy ay)
