-- Sheets without bits 27 and 26 keep every answer (request M-106): what is left for them, accepted or refused, is what was left when every road ran both ways.
use Prim.Native.Nat.{ℕ, zero-le}
use mathlib.Core.Path.{◌≡◌, refl, ap, ◌∙◌}
use mathlib.Core.Bool.{cond}
use mathlib.Core.List.{List}
use lib.Dec.{leb}
use lib.ListN.{length}
use Rattle.checks.specs.Checked.{Checked, accepted, refused}
use Rattle.checks.specs.Heads.{is_wide}
use Rattle.roads.specs.BothWays.{NoneOneWay, network_before}
use Rattle.roads.proofs.AcceptedRoads.{road_good}
use Rattle.roads.proofs.BothWays.{roads_kept, network_kept}
use Rattle.sheet.specs.Layout.{Layout, checked_by, checked}
use Rattle.sheet.specs.Recording.{network}
use Rattle.sheet.proofs.Whole.{accepted_sheet}
use Rattle.answers.specs.Answer.{words_needed}
use Rattle.answers.specs.Judged.{Judged, refusal, answered_on, answered, decided, judged}
use Rattle.answers.specs.BothWays.{checked_before, judged_before}

module _ (s : List ℕ) (none : NoneOneWay s) (distances : ℕ) where
  -- the check, and so what every tool takes for a valid sheet
  pub check_kept : checked s distances ≡ checked_before s distances
  unfolding checked
  check_kept = λ i. checked_by s (λ places. roads_kept s none places (length s) 0 0 i) distances

  module _ (answer : ℕ) where
    before : Layout → Judged
    before L = answered_on s distances answer (network_before s (L.sizes.places) (L.roads)) L

    answered_kept : (L : Layout) → checked s distances ≡ accepted L → answered s distances answer L ≡ before L
    unfolding before answered network
    answered_kept L e =
        let sheet = accepted_sheet s distances L e in
        ap (λ N. answered_on s distances answer N L)
        (network_kept s none (L.sizes.places) (L.roads) (λ r h. road_good s (L.sizes.places) (length s) 0 0 (L.roads) sheet.roads r zero-le h))

    pub answers_kept : judged s distances answer ≡ judged_before s distances answer
    unfolding before judged
    answers_kept = go (checked s distances) refl ∙ ap (decided s distances answer before) check_kept
      where
        go : (c : Checked Layout) → checked s distances ≡ c → decided s distances answer (answered s distances answer) c ≡ decided s distances answer before c
        go (refused number place) e = refl
        go (accepted L) e = ap (λ J. cond (leb (words_needed (is_wide s) (L.sizes.places) L.lines) answer) J (refusal distances answer 15 (length s))) (answered_kept L e)
