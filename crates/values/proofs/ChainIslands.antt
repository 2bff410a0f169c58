-- The surround without islands on chain numbers: the greatest of its runs, one for each other place with a distance from the centre (M-101).
use mathlib.Core.Path.{◌≡◌, refl, sym, ◌∙◌}
use mathlib.Core.Bool.{Bool, true, false, not}
use Prim.Native.Nat.{ℕ, ◌<◌}
use lib.Dec.{T, eqb}
use Rattle.network.specs.Network.{Network, joined, reached, other}
use Rattle.logic.specs.Lattice.{Lattice, verdict_lattice, greatest_over}
use Rattle.logic.specs.Margin.{margin_lattice}
use Rattle.logic.specs.Surround.{surround}
use Rattle.logic.specs.Iteration.{except}
use Rattle.logic.proofs.Keeps.{Keeps, greatest_kept, masked_kept, surround_kept}
use Rattle.logic.proofs.Thresholds.{Apart}
use Rattle.logic.proofs.Margins.{margin_apart}
use Rattle.logic.proofs.Limit.{verdict_apart}
use Rattle.logic.proofs.Islands.{runs}
use Rattle.values.specs.Chain.{chain_margin, chain_verdict, Valid, chain_lattice}
use Rattle.values.proofs.Valid.{valid_kept, determined}
use Rattle.values.proofs.Projections.{margin_kept, verdict_kept}

module _ (N : Network) (centre : ℕ) (c : centre < N.places) (inside edge : ℕ → Bool) (edge_reached : (k : ℕ) → T (edge k) → T (reached N centre k))
    (left right : ℕ → ℕ) (valid_left : (l : ℕ) → l < N.places → Valid (left l)) (valid_right : (l : ℕ) → l < N.places → Valid (right l)) where
  abbrev around : (L : Lattice) → Bool → (ℕ → L.Value) → (ℕ → L.Value) → L.Value
  around L islands p q = surround L (joined N) N.places islands inside edge p q centre

  abbrev best : (L : Lattice) → (ℕ → L.Value) → (ℕ → L.Value) → L.Value
  best L p q = greatest_over L (other N centre) (λ k. around L true (except L k p) q) N.places

  -- what a relation with another lattice says of the greatest of the runs
  best_kept : (M : Lattice) (Rel : ℕ → M.Value → Type 0) → Keeps chain_lattice M Rel → (p q : ℕ → M.Value)
      → ((l : ℕ) → l < N.places → Rel (left l) (p l)) → ((l : ℕ) → l < N.places → Rel (right l) (q l)) → Rel (best chain_lattice left right) (best M p q)
  unfolding except
  best_kept M Rel K p q hp hq = greatest_kept chain_lattice M Rel K (other N centre) _ _ (N.places) (λ k _ _.
      surround_kept chain_lattice M Rel K (joined N) (N.places) _ right _ q (masked_kept chain_lattice M Rel K (λ l. not (eqb l k)) left p (N.places) hp) hq true inside edge centre)

  -- read as a margin or as a verdict, both are the same
  read : (M : Lattice) → Apart M → (h : ℕ → M.Value) → Keeps chain_lattice M (λ a b. h a ≡ b) → h (around chain_lattice false left right) ≡ h (best chain_lattice left right)
  read M apart h K =
      surround_kept chain_lattice M (λ a b. h a ≡ b) K (joined N) (N.places) left right (λ l. h (left l)) (λ l. h (right l)) (λ _ _. refl) (λ _ _. refl) false inside edge centre
      ∙ runs N centre c inside edge edge_reached M apart (λ l. h (left l)) (λ l. h (right l))
      ∙ sym (best_kept M (λ a b. h a ≡ b) K (λ l. h (left l)) (λ l. h (right l)) (λ _ _. refl) (λ _ _. refl))

  pub chain_runs : around chain_lattice false left right ≡ best chain_lattice left right
  chain_runs = determined _ _
      (surround_kept chain_lattice chain_lattice (λ a _. Valid a) valid_kept (joined N) (N.places) left right left right valid_left valid_right false inside edge centre)
      (best_kept chain_lattice (λ a _. Valid a) valid_kept left right valid_left valid_right)
      (read margin_lattice margin_apart chain_margin margin_kept) (read verdict_lattice verdict_apart chain_verdict verdict_kept)
