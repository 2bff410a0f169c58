-- The surround and its rounds on chain numbers: the iteration projects to margins and to verdicts at every step, so at rest it is the surround,
-- and the steps that change a half (the code of a margin) are those that the rounds count.
use mathlib.Core.Path.{◌≡◌, refl, sym, ap, ◌∙◌}
use mathlib.Core.Bool.{Bool, true}
use Prim.Native.Nat.{ℕ, suc, ◌/◌, ◌<◌, ◌≤◌}
use native.Mathlib.Omega.{arith}
use Rattle.logic.specs.Lattice.{Lattice, verdict_lattice}
use Rattle.logic.specs.Margin.{Margin, margin_lattice}
use Rattle.logic.specs.Surround.{surround}
use Rattle.logic.specs.Iteration.{iterate, masked, rounds}
use Rattle.logic.proofs.Keeps.{Keeps, masked_kept, iterate_kept, surround_kept}
use Rattle.logic.proofs.Thresholds.{Apart, rested}
use Rattle.logic.proofs.Margins.{margin_apart}
use Rattle.logic.proofs.Resting.{Rests}
use Rattle.logic.proofs.Limit.{verdict_apart}
use Rattle.logic.proofs.Rounds.{rests_after, rounds_least}
use Rattle.values.specs.Chain.{margin_code, margin_at, chain_margin, chain_verdict, Valid, chain_lattice}
use Rattle.values.proofs.Codes.{code_at}
use Rattle.values.proofs.Valid.{valid_kept, determined}
use Rattle.values.proofs.Projections.{margin_kept, verdict_kept}

module _ (joined : ℕ → ℕ → Bool) (n : ℕ) (inside edge : ℕ → Bool) (left right : ℕ → ℕ) where
  abbrev start : ℕ → ℕ
  start = masked chain_lattice inside left

  abbrev ring : ℕ → ℕ
  ring = masked chain_lattice edge right

  abbrev step : ℕ → ℕ → ℕ
  step = iterate chain_lattice joined n start ring

  -- step i + 1 changes no half
  abbrev pub HalvesRest : ℕ → Type 0
  HalvesRest i = (l : ℕ) → l < n → step (suc i) l / 2 ≡ step i l / 2

  -- ---- what a map h to another lattice reads in each step, given what it reads in left and right
  module _ (M : Lattice) (h : ℕ → M.Value) (K : Keeps chain_lattice M (λ c m. h c ≡ m)) (p q : ℕ → M.Value)
      (hp : (l : ℕ) → l < n → h (left l) ≡ p l) (hq : (l : ℕ) → l < n → h (right l) ≡ q l) where
    step_read : (i l : ℕ) → l < n → h (step i l) ≡ iterate M joined n (masked M inside p) (masked M edge q) i l
    step_read = iterate_kept chain_lattice M (λ c m. h c ≡ m) K joined n start ring (masked M inside p) (masked M edge q)
        (masked_kept chain_lattice M (λ c m. h c ≡ m) K inside left p n hp)
        (masked_kept chain_lattice M (λ c m. h c ≡ m) K edge right q n hq)

    rest_read : (i : ℕ) → ((l : ℕ) → l < n → h (step (suc i) l) ≡ h (step i l)) → Rests M joined n (masked M inside p) (masked M edge q) i
    rest_read i r l b = sym (step_read (suc i) l b) ∙ r l b ∙ step_read i l b

    limit_read : Apart M → (i : ℕ) → Rests chain_lattice joined n start ring i → (l : ℕ) → l < n → h (step i l) ≡ h (surround chain_lattice joined n true inside edge left right l)
    limit_read apart i r l b =
        step_read i l b
        ∙ rested M apart joined n inside edge p q i (rest_read i (λ k c. ap h (r k c))) l b
        ∙ sym (surround_kept chain_lattice M (λ c m. h c ≡ m) K joined n left right p q hp hq true inside edge l)

  -- the margins of the steps are the steps of the margins
  pub margin_step : (p q : ℕ → Margin) → ((l : ℕ) → l < n → chain_margin (left l) ≡ p l) → ((l : ℕ) → l < n → chain_margin (right l) ≡ q l)
      → (i l : ℕ) → l < n → chain_margin (step i l) ≡ iterate margin_lattice joined n (masked margin_lattice inside p) (masked margin_lattice edge q) i l
  margin_step = step_read margin_lattice chain_margin margin_kept

  module _ (valid_left : (l : ℕ) → l < n → Valid (left l)) (valid_right : (l : ℕ) → l < n → Valid (right l)) where
    pub valid_step : (i l : ℕ) → l < n → Valid (step i l)
    valid_step = iterate_kept chain_lattice chain_lattice (λ c _. Valid c) valid_kept joined n start ring start ring
        (masked_kept chain_lattice chain_lattice (λ c _. Valid c) valid_kept inside left left n valid_left)
        (masked_kept chain_lattice chain_lattice (λ c _. Valid c) valid_kept edge right right n valid_right)

    -- ---- once at rest, the iteration has come to the surround
    pub surround_rested : (i : ℕ) → Rests chain_lattice joined n start ring i → (l : ℕ) → l < n → step i l ≡ surround chain_lattice joined n true inside edge left right l
    surround_rested i r l b = determined _ _ (valid_step i l b)
        (surround_kept chain_lattice chain_lattice (λ c _. Valid c) valid_kept joined n left right left right valid_left valid_right true inside edge l)
        (limit_read margin_lattice chain_margin margin_kept _ _ (λ _ _. refl) (λ _ _. refl) margin_apart i r l b)
        (limit_read verdict_lattice chain_verdict verdict_kept _ _ (λ _ _. refl) (λ _ _. refl) verdict_apart i r l b)

    -- ---- the rounds, given the margins p of left and q of right
    module _ (p q : ℕ → Margin) (hp : (l : ℕ) → l < n → chain_margin (left l) ≡ p l) (hq : (l : ℕ) → l < n → chain_margin (right l) ≡ q l) where
      abbrev inner : ℕ → Margin
      inner = masked margin_lattice inside p

      abbrev outer : ℕ → Margin
      outer = masked margin_lattice edge q

      to_margins : (i : ℕ) → HalvesRest i → Rests margin_lattice joined n inner outer i
      to_margins i r = rest_read margin_lattice chain_margin margin_kept p q hp hq i (λ l b. ap margin_at (r l b))

      half_code : (i l : ℕ) → l < n → margin_code (chain_margin (step i l)) ≡ step i l / 2
      half_code i l b = code_at (step i l / 2) (omega (arith, (valid_step i l b).bounded))

      from_margins : (i : ℕ) → Rests margin_lattice joined n inner outer i → HalvesRest i
      from_margins i r l b =
          sym (half_code (suc i) l b)
          ∙ ap margin_code (margin_step p q hp hq (suc i) l b ∙ r l b ∙ sym (margin_step p q hp hq i l b))
          ∙ half_code i l b

      -- from the rounds on, and no sooner, no step changes a half
      pub halves_rest_after : (i : ℕ) → rounds joined n inner outer ≤ suc i → HalvesRest i
      halves_rest_after i h = from_margins i (rests_after joined n inner outer i h)

      pub rounds_of_halves : (i : ℕ) → HalvesRest i → rounds joined n inner outer ≤ suc i
      rounds_of_halves i r = rounds_least joined n inner outer i (to_margins i r)
