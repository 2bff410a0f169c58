-- Request M-107 of every sheet and list. What is written is a valid sheet, decided alike, with as many words; alike the sheet in every word but the samples that were
-- corrected, and each of these is the value of the highest revision. So demand 3 and request M-103 are of the two: corrections that move no sample by more
-- than d move no margin by more than d, and corrections that lower no sample take no yes away, in tables without codes 2 and 3.
use mathlib.Core.Path.{◌≡◌, sym, ap, subst, subst₂, ◌∙◌}
use mathlib.Core.Logic.{◌⊎◌, inl, inr, ⊎_elim}
use mathlib.Core.Bool.{false}
use mathlib.Core.List.{List}
use Prim.Native.Nat.{ℕ, ◌*◌, ◌<◌, ◌≤◌}
use lib.Dec.{T}
use lib.ListN.{length}
use lib.IntN.{ℤ, nat_abs, ◌-ℤ◌}
use lib.Signed.{le_z}
use Rattle.counting.proofs.Lists.{each_from}
use Rattle.words.proofs.Rows.{length-row, get_or-row}
use Rattle.checks.specs.Limits.{most_places}
use Rattle.checks.specs.Checked.{accepted, word_at}
use Rattle.checks.proofs.Checks.{bind_accepted, same_accepted}
use Rattle.lines.specs.Lines.{has_code}
use Rattle.sheet.specs.Layout.{Layout, checked, validated}
use Rattle.sheet.specs.Alike.{BothSamples, AlikeButSamples, SamplesRaised}
use Rattle.sheet.proofs.Whole.{AcceptedSheet, accepted_sheet}
use Rattle.sheet.proofs.SameLayout.{checked_alike}
use Rattle.lookup.specs.Lookup.{said_at}
use Rattle.answers.specs.Judged.{judged}
use Rattle.answers.specs.Compared.{Steady, Raised}
use Rattle.answers.proofs.Steadiness.{steadiness}
use Rattle.answers.proofs.Raising.{raising, yes_no_fewer}
use Rattle.corrections.specs.declared.correction.Grid.{Grid}
use Rattle.corrections.specs.Corrections.{count, revision, value, target, in_turn, well_formed, agrees, list_checked}
use Rattle.corrections.specs.Aimed.{AllAimed}
use Rattle.corrections.proofs.Aiming.{all_aimed}
use Rattle.correcting.specs.Corrected.{grid_of, counts, word_after, Corrects, corrected_words, corrected}
use Rattle.correcting.proofs.Counting.{counts_told, unexceeded_counts, counting_agree, after_told}
use Rattle.correcting.proofs.Targets.{target_inside, target_sample}

-- what was found of a sheet and a list, and what was made of them
pub record Made (s c made : List ℕ) : Type 0 where
  pub layout : Layout
  pub found : validated s ≡ accepted layout
  pub aimed : AllAimed c (grid_of s layout) (count c)
  pub agreed : in_turn (agrees c (grid_of s layout)) (count c) ≡ accepted tt
  pub made_of : made ≡ corrected_words s c (grid_of s layout)

pub made_told : (s c made : List ℕ) → corrected s c ≡ accepted made → Made s c made
unfolding corrected list_checked
made_told s c made e =
    let (L, found, listed) = bind_accepted (validated s) _ e in
    let (_, passed, made_of) = bind_accepted (list_checked c (grid_of s L)) _ listed in
    let (_, formed, agreed) = bind_accepted (in_turn (well_formed c (grid_of s L)) (count c)) _ passed in
    record { layout = L; found = found; aimed = all_aimed c (grid_of s L) (count c) formed; agreed = agreed; made_of = sym (same_accepted made_of) }

module _ (s c made : List ℕ) (e : corrected s c ≡ accepted made) where
  abbrev of : Made s c made
  of = made_told s c made e

  abbrev pub grid : Grid
  grid = grid_of s of.layout

  valid : AcceptedSheet s (most_places * most_places) of.layout
  unfolding validated
  valid = accepted_sheet s (most_places * most_places) of.layout of.found

  -- ---- the words
  pub as_many_words : length made ≡ length s
  unfolding corrected_words
  as_many_words = ap length of.made_of ∙ length-row _ (length s)

  word_made : (index : ℕ) → index < length s → word_at made index ≡ word_after c grid index (word_at s index) (count c)
  unfolding corrected_words
  word_made index l = ap (λ (w : List ℕ). word_at w index) of.made_of ∙ get_or-row _ (length s) index 0 l

  -- all other words are the sheet's
  pub others_stay : (index : ℕ) → index < length s → ((k : ℕ) → k < count c → target c grid k ≡ index → ⊥) → word_at made index ≡ word_at s index
  others_stay index l none = word_made index l ∙ ⊎_elim
      (λ same. same.1)
      (λ (k, b, h, _). absurd (none k b (counts_told c grid index k h).0))
      (after_told c grid index (word_at s index) (count c))

  -- for one sample the highest revision counts
  pub highest_taken : (k : ℕ) → k < count c → ((i : ℕ) → i < count c → target c grid i ≡ target c grid k → revision c i ≤ revision c k)
      → word_at made (target c grid k) ≡ value c k
  highest_taken k l top =
      let index : ℕ = target c grid k in
      let counted : T (counts c grid index k) = unexceeded_counts c grid k l top in
      word_made index (target_inside s _ of.layout valid c k (of.aimed k l)) ∙ ⊎_elim
      (λ same. absurd (subst T (same.0 k l) counted))
      (λ (i, b, h, v). v ∙ counting_agree c grid of.agreed index i k b l h counted)
      (after_told c grid index (word_at s index) (count c))

  -- ---- the two sheets
  module _ (Related : ℤ → ℤ → Type 0) (corrects : Corrects Related s c grid) where
    word_alike : (index : ℕ) → index < length s → (word_at s index ≡ word_at made index) ⊎ BothSamples Related (word_at s index) (word_at made index)
    word_alike index l = ⊎_elim
        (λ same. inl (sym (word_made index l ∙ same.1)))
        (λ (k, b, h, v).
        let here : target c grid k ≡ index = (counts_told c grid index k h).0 in
        let counted : T (counts c grid (target c grid k) k) = subst (λ (i : ℕ). T (counts c grid i k)) (sym here) h in
        let both : BothSamples Related (word_at s (target c grid k)) (value c k) = record {
          first_sample = target_sample s _ of.layout valid c k (of.aimed k b);
          second_sample = record { kind = (of.aimed k b).value_kind; spare = (of.aimed k b).value_spare };
          related = corrects k b counted;
        } in
        inr (subst₂ (BothSamples Related) (ap (word_at s) here) (sym (word_made index l ∙ v)) both))
        (after_told c grid index (word_at s index) (count c))

    pub alike : AlikeButSamples Related s made
    alike = each_from 0 0 s made (sym as_many_words) word_alike

  -- so the sheet that is written is checked as the sheet is, whatever is lent
  pub checked_as_before : (d : ℕ) → checked made d ≡ checked s d
  checked_as_before d = sym (checked_alike (λ _ _. Unit {0}) s made (alike (λ _ _. Unit {0}) (λ _ _ _. tt)) d)

  -- ---- their answers, whatever was lent to either
  module _ (ds rs dm rm : ℕ) (accepts : (judged s ds rs).result.number ≡ 0) (made_accepts : (judged made dm rm).result.number ≡ 0) where
    -- no margin moves by more than the corrections that count
    pub moved_at_most : (d : ℕ) → Corrects (λ x y. nat_abs (x -ℤ y) ≤ d) s c grid
        → (i t l : ℕ) → Steady d (said_at (judged s ds rs).answer i t l) (said_at (judged made dm rm).answer i t l)
    moved_at_most d near = steadiness d s made (alike (λ x y. nat_abs (x -ℤ y) ≤ d) near) ds rs dm rm accepts made_accepts

    module _ (raised : Corrects (λ x y. T (le_z x y)) s c grid) (without_2 : has_code 2 s ≡ false) (without_3 : has_code 3 s ≡ false) where
      abbrev risen : SamplesRaised s made
      risen = alike (λ x y. T (le_z x y)) raised

      -- upward corrections take no yes away
      pub no_yes_lost : (i t l : ℕ) → Raised (said_at (judged s ds rs).answer i t l) (said_at (judged made dm rm).answer i t l)
      no_yes_lost = raising s made risen without_2 without_3 ds rs dm rm accepts made_accepts

      pub no_fewer_yeses : (judged s ds rs).result.yes ≤ (judged made dm rm).result.yes
      no_fewer_yeses = yes_no_fewer s made risen without_2 without_3 ds rs dm rm accepts made_accepts
