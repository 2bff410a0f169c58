-- The pass that puts values, from the last correction down: a word waits until a correction that counts comes, takes its value, and keeps it.
use mathlib.Core.Path.{◌≡◌, refl, sym, subst, ◌∙◌}
use mathlib.Core.Logic.{◌⊎◌, inl, inr, ⊎_elim}
use mathlib.Core.Bool.{true, false, false≢true}
use mathlib.Core.List.{List}
use Prim.Native.Nat.{ℕ, suc, ◌-◌, ◌<◌, ◌≤◌, zero-le}
use native.Mathlib.Nat.{eq-or-lt_of_le}
use native.Mathlib.Decide.{ℕ_discrete}
use native.Mathlib.Omega.{arith}
use lib.ListN.{length}
use lib.Seq.{get_or-set_same, get_or-set_other}
use borrow.Author.Tests.{eq-eqb, ne_eqb}
use Rattle.counting.proofs.Tests.{holds}
use Rattle.counting.proofs.Totals.{le_over, over_reached}
use Rattle.checks.specs.Checked.{word_at}
use Rattle.checks.proofs.Tests.{equal}
use Rattle.corrections.specs.declared.correction.Grid.{Grid}
use Rattle.corrections.specs.Corrections.{count, revision, value, target}
use Rattle.corrections.specs.Aimed.{Aimed}
use Rattle.correcting.specs.Corrected.{aimed_here, highest, counts, word_after}
use Rattle.correcting.specs.Lent.{after_revisions, given_way, raised_by, settled_once, AllRaised, AllCorrected, AllSettled}

module _ (c : List ℕ) (g : Grid) where
  -- the word at an index where w stood before, with so many corrections left
  module _ (index w : ℕ) where
    -- no later one counts
    abbrev Waits : (word left : ℕ) → Type 0
    Waits word left =
        (word ≡ raised_by c g index w (count c)) × (word_after c g index w (count c) ≡ word_after c g index w left)
        × ((k : ℕ) → left ≤ k → k < count c → counts c g index k ≡ false)

    -- a later one has counted
    abbrev Taken : ℕ → Type 0
    Taken word = (word ≡ word_after c g index w (count c)) × (after_revisions ≤ word)

    abbrev pub Word : (word left : ℕ) → Type 0
    Word word left = Waits word left ⊎ Taken word

    module _ (k word : ℕ) where
      -- it does not count
      passed_over : counts c g index k ≡ false → Waits word (suc k) → Waits word k
      unfolding word_after
      passed_over not waits = (
        waits.0,
        waits.1 ∙ simp not,
        λ i later below. ⊎_elim (λ same. subst (λ j. counts c g index j ≡ false) same not) (λ more. waits.2 i more below) (eq-or-lt_of_le later),
      )

      aimed_elsewhere : (index ≡ target c g k → ⊥) → Word word (suc k) → Word word k
      aimed_elsewhere other = ⊎_elim (λ waits. inl (passed_over (simp (ne_eqb (target c g k) index (λ e. other (sym e)))) waits)) inr

      module _ (here : index ≡ target c g k) (aimed : Aimed c g k) where
        abbrev settled : ℕ
        settled = given_way (revision c k) (value c k) word

        it_counts : revision c k ≡ highest c g index (count c) → word ≡ highest c g index (count c) → Waits word (suc k) → Taken settled
        unfolding word_after
        it_counts most raised waits =
            let taken : settled ≡ value c k = simp (eq-eqb word (revision c k) (raised ∙ sym most)) in
            let counted : counts c g index k ≡ true = simp (eq-eqb (target c g k) index (sym here), eq-eqb (revision c k) (highest c g index (count c)) most) in
            (taken ∙ sym (waits.1 ∙ simp counted), omega (arith, taken, aimed.value_kind))

        it_is_lower : (revision c k ≡ highest c g index (count c) → ⊥) → word ≡ highest c g index (count c) → Waits word (suc k) → Waits settled k
        it_is_lower lower raised waits =
            let kept : settled ≡ word = simp (ne_eqb word (revision c k) (λ e. lower (sym e ∙ raised))) in
            rw kept (passed_over (simp (eq-eqb (target c g k) index (sym here), ne_eqb (revision c k) (highest c g index (count c)) lower)) waits)

        aimed_here_lem : k < count c → Word word (suc k) → Word settled k
        aimed_here_lem inside (inr taken) = inr (rw (ne_eqb word (revision c k) (λ e. omega (arith, taken.1))) taken)
        aimed_here_lem inside (inl waits) =
            let most = le_over (aimed_here c g index) (revision c) (count c) k inside (equal (target c g k) index (sym here)) in
            let raised : word ≡ highest c g index (count c) = waits.0 ∙ simp (ne_eqb (highest c g index (count c)) 0 (λ e. omega (arith, aimed.revised))) in
            by_revision raised (ℕ_discrete (revision c k) (highest c g index (count c)))
          where
            by_revision : word ≡ highest c g index (count c) → Dec (revision c k ≡ highest c g index (count c)) → Word settled k
            by_revision raised (yes most) = inr (it_counts most raised waits)
            by_revision raised (no lower) = inl (it_is_lower lower raised waits)

    -- where nobody counts nobody is aimed: the highest revision would be somebody's
    none_left : (word : ℕ) → Word word 0 → word ≡ word_after c g index w (count c)
    unfolding word_after
    none_left word (inr taken) = taken.0
    none_left word (inl waits) = ⊎_elim
        (λ none. let unaimed : raised_by c g index w (count c) ≡ w = simp (eq-eqb (highest c g index (count c)) 0 none) in waits.0 ∙ unaimed ∙ sym waits.1)
        (λ most. absurd (false≢true (sym (waits.2 most.0 zero-le most.1) ∙ simp (holds (aimed_here c g index most.0) most.2, eq-eqb (revision c most.0) (highest c g index (count c)) most.3))))
        (over_reached (aimed_here c g index) (revision c) (count c))

  -- ---- all words
  abbrev pub Settled : (before words : List ℕ) → ℕ → Type 0
  Settled before words left = (index : ℕ) → Word index (word_at before index) (word_at words index) left

  pub settled_none : (before words : List ℕ) → AllRaised c g before words → Settled before words (count c)
  settled_none before words raised index = inl (raised index, refl, λ k h l. absurd (omega arith))

  pub settled_less : (before words : List ℕ) {left : ℕ} (k : ℕ) → left ≡ suc k → k < count c → Aimed c g k → target c g k < length words
      → Settled before words left → Settled before (settled_once c g words k) k
  settled_less before words k one_more inside aimed there settled index = by_target (ℕ_discrete index (target c g k)) (rw one_more at settled index)
    where
      by_target : Dec (index ≡ target c g k) → Word index (word_at before index) (word_at words index) (suc k)
          → Word index (word_at before index) (word_at (settled_once c g words k) index) k
      by_target (yes here) word =
          let stored : word_at (settled_once c g words k) index ≡ given_way (revision c k) (value c k) (word_at words index) = rw here (get_or-set_same words (target c g k) _ 0 there) in
          rw stored (aimed_here_lem index (word_at before index) k (word_at words index) here aimed inside word)
      by_target (no other) word = rw (get_or-set_other words (target c g k) index _ 0 other) (aimed_elsewhere index (word_at before index) k (word_at words index) other word)

  pub settled_all : (before words : List ℕ) → Settled before words 0 → AllCorrected c g before words
  settled_all before words settled index = none_left index (word_at before index) (word_at words index) (settled index)

  -- ---- whatever stood before all were raised, with so many corrections left
  abbrev pub SettledTo : (raised words : List ℕ) → ℕ → Type 0
  SettledTo raised words left = (before : List ℕ) → AllRaised c g before raised → Settled before words left

  pub one_settled : (raised words after : List ℕ) (left : ℕ) → 0 < left → left ≤ count c → Aimed c g (left - 1) → target c g (left - 1) < length words → after ≡ settled_once c g words (left - 1)
      → SettledTo raised words left → SettledTo raised after (left - 1)
  one_settled raised words after left some most aimed there stored settled before all =
      let one_more : left ≡ suc (left - 1) = omega arith in
      subst (λ w. Settled before w (left - 1)) (sym stored) (settled_less before words (left - 1) one_more (omega arith) aimed there (settled before all))

  pub none_unsettled : (raised words : List ℕ) {left : ℕ} → left ≡ 0 → SettledTo raised words left → AllSettled c g raised words
  none_unsettled raised words none settled before all = settled_all before words (subst (Settled before words) none (settled before all))
