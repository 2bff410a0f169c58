-- What is known of verdicts, for every lattice whose values are told apart by thresholds. A threshold reads a value as a verdict so that top, bottom,
-- meet and join are kept: for margins, "at least m" for some m above minus infinity.
use mathlib.Core.Path.{◌≡◌, refl, sym, ap, subst, ◌∙◌}
use mathlib.Core.Bool.{Bool, true}
use Prim.Native.Nat.{ℕ, suc, ◌<◌, ◌≤◌}
use lib.Dec.{T}
use Rattle.logic.specs.Lattice.{Lattice, verdict_lattice}
use Rattle.logic.specs.Surround.{surround}
use Rattle.logic.specs.Iteration.{iterate, masked}
use Rattle.counting.proofs.Tests.{bool_ext}
use Rattle.logic.proofs.VerdictLimit.{limit, step_e}
use Rattle.logic.proofs.Settling.{settles}
use Rattle.logic.proofs.Resting.{Rests}
use Rattle.logic.proofs.Keeps.{Keeps, masked_kept, iterate_kept, surround_kept}

abbrev pub Reads : (L : Lattice) → (L.Value → Bool) → L.Value → Bool → Type 0
Reads L h a b = h a ≡ b

abbrev pub Threshold : (L : Lattice) → (L.Value → Bool) → Type 0
Threshold L h = Keeps L verdict_lattice (Reads L h)

abbrev pub Apart : Lattice → Type 0
Apart L = (a b : L.Value) → ((h : L.Value → Bool) → Threshold L h → h a ≡ h b) → a ≡ b

module _ (L : Lattice) (apart : Apart L) (joined : ℕ → ℕ → Bool) (n : ℕ) where
  -- the iteration rests at step n - 1 at the latest
  pub settled : (p q : ℕ → L.Value) (m : ℕ) → n ≤ suc m → Rests L joined n p q m
  settled p q m b l c = apart _ _ (λ h K.
      let read = iterate_kept L verdict_lattice (Reads L h) K joined n p q (λ k. h (p k)) (λ k. h (q k)) (λ _ _. refl) (λ _ _. refl) in
      read (suc m) l c ∙ bool_ext _ _ (λ u. (step_e joined n _ _ m l u).0) (λ u. settles joined n _ _ m b l c u) ∙ sym (read m l c))

  module _ (inside edge : ℕ → Bool) (left right : ℕ → L.Value) where
    -- the threshold of the iteration is the iteration of the thresholds
    read_step : (h : L.Value → Bool) → Threshold L h → (i l : ℕ) → l < n → h (iterate L joined n (masked L inside left) (masked L edge right) i l)
        ≡ iterate verdict_lattice joined n (masked verdict_lattice inside (λ k. h (left k))) (masked verdict_lattice edge (λ k. h (right k))) i l
    read_step h K = iterate_kept L verdict_lattice (Reads L h) K joined n (masked L inside left) (masked L edge right) _ _
        (masked_kept L verdict_lattice (Reads L h) K inside left (λ k. h (left k)) n (λ _ _. refl))
        (masked_kept L verdict_lattice (Reads L h) K edge right (λ k. h (right k)) n (λ _ _. refl))

    -- where the iteration rests, so does that of the thresholds
    read_rest : (h : L.Value → Bool) → Threshold L h → (i : ℕ) → Rests L joined n (masked L inside left) (masked L edge right) i
        → Rests verdict_lattice joined n (masked verdict_lattice inside (λ k. h (left k))) (masked verdict_lattice edge (λ k. h (right k))) i
    read_rest h K i r l b = sym (read_step h K (suc i) l b) ∙ ap h (r l b) ∙ read_step h K i l b

    -- once at rest, the iteration has come to the surround
    pub rested : (i : ℕ) → Rests L joined n (masked L inside left) (masked L edge right) i
        → (l : ℕ) → l < n → iterate L joined n (masked L inside left) (masked L edge right) i l ≡ surround L joined n true inside edge left right l
    rested i r l b = apart _ _ (λ h K.
        read_step h K i l b
        ∙ limit joined n inside edge (λ k. h (left k)) (λ k. h (right k)) i (λ k c. subst T (sym (read_rest h K i r k c))) l b
        ∙ sym (surround_kept L verdict_lattice (Reads L h) K joined n left right _ _ (λ _ _. refl) (λ _ _. refl) true inside edge l))
