-- The pass that raises: after n corrections each word is the highest revision among those aimed at it, or as it was.
use mathlib.Core.Path.{◌≡◌, refl, sym, ap, ◌∙◌}
use mathlib.Core.Bool.{cond}
use mathlib.Core.List.{List}
use Prim.Native.Nat.{ℕ, ◌+◌, ◌<◌, ◌≤◌, max}
use native.Mathlib.Decide.{ℕ_discrete}
use native.Mathlib.Omega.{arith}
use lib.Dec.{eqb, eqb→eq}
use lib.ListN.{length}
use lib.Seq.{get_or-set_same, get_or-set_other}
use borrow.Author.Tests.{lt-ltb, le-ltb, eq-eqb, ne_eqb}
use Rattle.counting.specs.Totals.{most_below}
use Rattle.counting.proofs.Tests.{by_test}
use Rattle.counting.proofs.Totals.{most_more, over_le}
use Rattle.checks.specs.Checked.{word_at}
use Rattle.corrections.specs.declared.correction.Grid.{Grid}
use Rattle.corrections.specs.Corrections.{revision, target}
use Rattle.correcting.specs.Corrected.{aimed_here, highest}
use Rattle.correcting.specs.Lent.{after_revisions, raised_to, raised_by, raised_once, Targets}

module _ (c : List ℕ) (g : Grid) where
  -- every correction is still aimed at a word
  pub targets_kept : {n : ℕ} {v w : List ℕ} → Targets c g n v → length v ≤ length w → Targets c g n w
  targets_kept targets long = record { all = targets.all; inside = λ k h. omega (arith, targets.inside k h) }

  pub highest_small : (index n : ℕ) → highest c g index n < after_revisions
  highest_small index n = omega (arith, over_le (aimed_here c g index) (revision c) n 255 (λ k _ _. omega arith))

  pub highest_more : (index n : ℕ) → highest c g index (n + 1) ≡ max (highest c g index n) (cond (aimed_here c g index n) (revision c n) 0)
  highest_more index n = most_more (λ k. cond (aimed_here c g index k) (revision c k) 0) n

  -- what the first n have made of the words
  abbrev pub Raised : (before words : List ℕ) → ℕ → Type 0
  Raised before words n = (index : ℕ) → word_at words index ≡ raised_by c g index (word_at before index) n

  pub raised_none : (before : List ℕ) → Raised before before 0
  unfolding most_below
  raised_none before index = refl

  -- one correction more
  raised_number : (h r w : ℕ) → h < after_revisions → 1 ≤ r → after_revisions ≤ w → raised_to r (cond (eqb h 0) w h) ≡ cond (eqb (max h r) 0) w (max h r)
  raised_number h r w small some sample = by_test (eqb h 0) (λ t. raised_to r (cond t w h) ≡ cond (eqb (max h r) 0) w (max h r))
      (λ none. let e = eqb→eq h 0 none in simp (le-ltb w 256 sample, ne_eqb (max h r) 0 (λ e. omega arith)) (omega arith))
      (λ _. simp (lt-ltb h 256 small, ne_eqb (max h r) 0 (λ e. omega arith)))

  pub raised_more : (before words : List ℕ) (n : ℕ) → 1 ≤ revision c n → target c g n < length words → after_revisions ≤ word_at before (target c g n)
      → Raised before words n → Raised before (raised_once c g words n) (n + 1)
  raised_more before words n some inside sample raised index = by_target (ℕ_discrete index (target c g n))
    where
      by_target : Dec (index ≡ target c g n) → word_at (raised_once c g words n) index ≡ raised_by c g index (word_at before index) (n + 1)
      by_target (yes here) =
          let most : highest c g index (n + 1) ≡ max (highest c g index n) (revision c n) = rw (highest_more index n, eq-eqb (target c g n) index (sym here)) refl in
          let large : after_revisions ≤ word_at before index = rw here sample in
          rw (most, ← raised_number (highest c g index n) (revision c n) (word_at before index) (highest_small index n) some large, ← raised index, here)
          (get_or-set_same words (target c g n) _ 0 inside)
      by_target (no other) =
          let most : highest c g index (n + 1) ≡ highest c g index n =
          highest_more index n ∙ simp (ne_eqb (target c g n) index (λ e. other (sym e))) (omega arith) in
          get_or-set_other words (target c g n) index _ 0 other ∙ raised index
          ∙ ap (λ h. cond (eqb h 0) (word_at before index) h) (sym most)
