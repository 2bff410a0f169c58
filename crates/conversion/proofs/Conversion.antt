-- Request M-105 of every sheet. What is made of a valid sheet is valid, in the layout that was asked for, and says the same roads, samples and lines; there and
-- back gives the original words, and a sheet that has the layout already stays as it is. Both are accepted alike, and their answers have the same verdict and margin
-- at every line, sample and place, the same rounds and the same yes count.
use mathlib.Core.Path.{◌≡◌, refl, sym, ap, subst, subst₂, ◌∙◌}
use mathlib.Core.Bool.{Bool, true, false}
use mathlib.Core.List.{List}
use Prim.Native.Nat.{ℕ, ◌*◌, ◌<◌, ◌≤◌}
use native.Mathlib.Nat.{mul-le-mul}
use native.Mathlib.Omega.{arith}
use native.Mathlib.Decide.{dec_lt}
use lib.Dec.{leb, le→leb}
use borrow.Author.Tests.{leb-true}
use Rattle.counting.proofs.Tests.{holds}
use Rattle.checks.specs.Limits.{most_places, most_narrow, least_distances}
use Rattle.checks.specs.Checked.{accepted}
use Rattle.checks.specs.Heads.{most_of, is_wide}
use Rattle.checks.proofs.Checks.{bind_accepted, require_accepted, same_accepted}
use Rattle.sheet.specs.Layout.{Layout, checked, validated}
use Rattle.sheet.specs.Recording.{network, recording}
use Rattle.sheet.proofs.Whole.{AcceptedSheet, accepted_sheet}
use Rattle.sheet.proofs.SameLayout.{lent_otherwise}
use Rattle.lookup.specs.Lookup.{said_at}
use Rattle.answers.specs.Judged.{Judged, answered, judged}
use Rattle.answers.proofs.Accepted.{Answered, accepted_answered}
use Rattle.answers.proofs.LineValues.{SamplesAgree}
use Rattle.answers.proofs.SameSamples.{said_same, rounds_same, yes_same}
use Rattle.conversion.specs.Relaid.{relaid, converted}
use Rattle.conversion.proofs.Accepted.{layout_made, accepted_made}
use Rattle.conversion.proofs.Back.{stays, back}
use Rattle.conversion.proofs.Contents.{network_relaid, recording_relaid}

abbrev pub most : ℕ
most = most_places * most_places

-- what the check of a valid sheet found, and what was made of it
pub record Made (to : Bool) (s made : List ℕ) : Type 0 where
  pub layout : Layout
  pub found : checked s most ≡ accepted layout
  pub few : layout.sizes.places ≤ most_of to
  pub made_of : made ≡ relaid to s layout

pub made_told : (to : Bool) (s made : List ℕ) → converted to s ≡ accepted made → Made to s made
unfolding converted validated
made_told to s made e =
    let (L, found, rest) = bind_accepted (checked s most) _ e in
    let told = require_accepted (leb (L.sizes.places) (most_of to)) 18 0 _ rest in
    record { layout = L; found = found; few = leb-true _ _ told.0; made_of = sym (same_accepted told.1) }

-- the other way round
makes : (to : Bool) (s : List ℕ) (L : Layout) → checked s most ≡ accepted L → L.sizes.places ≤ most_of to → converted to s ≡ accepted (relaid to s L)
unfolding converted validated
makes to s L found few = simp (found, holds (leb (L.sizes.places) (most_of to)) (le→leb _ _ few))

module _ (to : Bool) (s made : List ℕ) (e : converted to s ≡ accepted made) where
  abbrev of : Made to s made
  of = made_told to s made e

  abbrev L : Layout
  L = of.layout

  sheet : AcceptedSheet s most L
  sheet = accepted_sheet s most L of.found

  pub layout_asked : is_wide made ≡ to
  layout_asked = ap is_wide of.made_of ∙ layout_made to s most L sheet of.few

  -- with enough lent for either layout the check finds the same in both
  made_found : (d : ℕ) → least_distances ≤ d → L.sizes.places * L.sizes.places ≤ d → checked made d ≡ accepted L
  made_found d least enough = ap (λ w. checked w d) of.made_of ∙ accepted_made to s most L sheet of.few d least enough

  pub there_and_back : converted (is_wide s) made ≡ accepted s
  there_and_back =
      makes (is_wide s) made L (made_found most (omega arith) sheet.distances) sheet.few
      ∙ ap accepted (ap (λ w. relaid (is_wide s) w L) of.made_of ∙ back s most L sheet to of.few)

pub as_it_is : (s : List ℕ) (L : Layout) → validated s ≡ accepted L → converted (is_wide s) s ≡ accepted s
unfolding validated
as_it_is s L found =
    let sheet : AcceptedSheet s most L = accepted_sheet s most L found in
    makes (is_wide s) s L found sheet.few ∙ ap accepted (stays s most L sheet)

-- ---- what is decided
module _ (to : Bool) (s made : List ℕ) (e : converted to s ≡ accepted made) (d : ℕ) (least : least_distances ≤ d) where
  abbrev n : ℕ
  n = (of to s made e).layout.sizes.places

  few_places : n ≤ most_narrow → checked made d ≡ checked s d
  few_places few =
      let enough : n * n ≤ d = omega (arith, mul-le-mul few few, least) in
      let itself : checked s d ≡ accepted (L to s made e) =
      ap (λ w. checked w d) (sym (stays s most (L to s made e) (sheet to s made e))) ∙ accepted_made (is_wide s) s most (L to s made e) (sheet to s made e) (sheet to s made e).few d least enough in
      made_found to s made e d least enough ∙ sym itself

  -- of more than 64 places both are wide, and so the same
  wide_one : (wide : Bool) → most_narrow < n → n ≤ most_of wide → wide ≡ true
  wide_one true many few = refl
  wide_one false many few = absurd (omega arith)

  many_places : most_narrow < n → checked made d ≡ checked s d
  many_places many =
      let same : to ≡ is_wide s = wide_one to many (of to s made e).few ∙ sym (wide_one (is_wide s) many (sheet to s made e).few) in
      ap (λ w. checked w d) ((of to s made e).made_of ∙ ap (λ wide. relaid wide s (L to s made e)) same ∙ stays s most (L to s made e) (sheet to s made e))

  -- accepted alike, where the distances that any narrow sheet asks for are lent
  pub found_alike : checked made d ≡ checked s d
  found_alike = go (dec_lt most_narrow n)
    where
      go : Dec (most_narrow < n) → checked made d ≡ checked s d
      go (yes many) = many_places many
      go (no few) = few_places (omega arith)

-- ---- what is said
module _ (to : Bool) (s made : List ℕ) (e : converted to s ≡ accepted made) where
  same_network : network s (L to s made e) ≡ network made (L to s made e)
  same_network = network_relaid to s most (L to s made e) (sheet to s made e) (of to s made e).few ∙ ap (λ w. network w (L to s made e)) (sym (of to s made e).made_of)

  same_recording : SamplesAgree (L to s made e).sizes.signals (L to s made e).sizes.samples (L to s made e).sizes.places (recording s (L to s made e)) (recording made (L to s made e))
  same_recording signal t l h k b =
      recording_relaid to s most (L to s made e) (sheet to s made e) (of to s made e).few signal t l h k b ∙ ap (λ w. recording w (L to s made e) signal t l) (sym (of to s made e).made_of)

  -- whatever was lent to either
  both_answered : (dx ax dy ay : ℕ) (P : Judged → Judged → Type 0)
      → (AcceptedSheet s dx (L to s made e) → AcceptedSheet made dy (L to s made e) → P (answered s dx ax (L to s made e)) (answered made dy ay (L to s made e)))
      → (judged s dx ax).result.number ≡ 0 → (judged made dy ay).result.number ≡ 0 → P (judged s dx ax) (judged made dy ay)
  both_answered dx ax dy ay P holds zx zy =
      let x : Answered s dx ax = accepted_answered s dx ax zx in
      let y : Answered made dy ay = accepted_answered made dy ay zy in
      let x_found : x.layout ≡ L to s made e = lent_otherwise s dx most x.found (of to s made e).found in
      let y_found : y.layout ≡ L to s made e = lent_otherwise made dy most y.found (made_found to s made e most (omega arith) (sheet to s made e).distances) in
      let in_x : AcceptedSheet s dx (L to s made e) = subst (AcceptedSheet s dx) x_found (accepted_sheet s dx x.layout x.found) in
      let in_y : AcceptedSheet made dy (L to s made e) = subst (AcceptedSheet made dy) y_found (accepted_sheet made dy y.layout y.found) in
      subst₂ P (sym (x.left ∙ ap (answered s dx ax) x_found)) (sym (y.left ∙ ap (answered made dy ay) y_found)) (holds in_x in_y)

  module _ (dx ax dy ay : ℕ) (zx : (judged s dx ax).result.number ≡ 0) (zy : (judged made dy ay).result.number ≡ 0) where
    pub same_said : (i t l : ℕ) → said_at (judged s dx ax).answer i t l ≡ said_at (judged made dy ay).answer i t l
    same_said i t l = both_answered dx ax dy ay (λ j k. said_at j.answer i t l ≡ said_at k.answer i t l)
        (λ in_x in_y. said_same s made dx dy (L to s made e) in_x in_y same_network same_recording ax ay i t l) zx zy

    pub same_rounds : (judged s dx ax).result.rounds ≡ (judged made dy ay).result.rounds
    same_rounds = both_answered dx ax dy ay (λ j k. j.result.rounds ≡ k.result.rounds)
        (λ in_x in_y. rounds_same s made dx dy (L to s made e) in_x in_y same_network same_recording ax ay) zx zy

    pub same_yes : (judged s dx ax).result.yes ≡ (judged made dy ay).result.yes
    same_yes = both_answered dx ax dy ay (λ j k. j.result.yes ≡ k.result.yes)
        (λ in_x in_y. yes_same s made dx dy (L to s made e) in_x in_y same_network same_recording ax ay) zx zy
