-- An operator over time that reads its operands from a later sample on says the same there, whichever way it looks; and once is eventually from the
-- upper bound earlier. By these laws all operands of a line may be read from one sample on, wherever each of them begins (M-100).
use mathlib.Core.Path.{◌≡◌, sym, ap, ap₂, ◌∙◌}
use mathlib.Core.Bool.{Bool, true, false}
use Prim.Native.Nat.{ℕ, suc, ◌+◌, ◌-◌, ◌<◌, ◌≤◌, zero-le}
use native.Mathlib.Omega.{arith}
use Rattle.formulas.specs.Formulas.{forward, backward}
use Rattle.logic.specs.Table.{Signal, until_at, opposite, ever_true}
use Rattle.logic.proofs.Keeps.{same_kept}
use Rattle.logic.proofs.SoFar.{until_related}
use Rattle.values.specs.Chain.{chains, chain_lattice, chain_opposite, highest}
use Rattle.values.specs.Signals.{turned}
use Rattle.windows.specs.Rows.{ahead, eventually_at}
use Rattle.windows.proofs.Folds.{greatest_from}
use Rattle.operators.proofs.RowLaws.{turned_small}
use Rattle.windows.proofs.Windows.{eventually_all, once_all}

module _ (p q : Signal chains) (k : ℕ) where
  pub until_later : (lower upper t l : ℕ) → until_at chains forward (λ t. p (k + t)) (λ t. q (k + t)) lower upper t l ≡ until_at chains forward p q lower upper (k + t) l
  unfolding until_at
  until_later lower upper t l = until_related chains chains ◌≡◌ (same_kept chain_lattice) forward _ _ p q t (k + t) l lower (suc upper) (λ j _. at p j) (λ j _. at q j)
    where
      at : (signal : Signal chains) (j : ℕ) → signal (k + (t + j)) l ≡ signal (k + t + j) l
      at signal j = let same : k + (t + j) ≡ k + t + j = omega arith in ap (λ (u : ℕ). signal u l) same

  pub since_later : (lower upper t l : ℕ) → upper ≤ t → until_at chains backward (λ t. p (k + t)) (λ t. q (k + t)) lower upper t l ≡ until_at chains backward p q lower upper (k + t) l
  unfolding until_at
  since_later lower upper t l past = until_related chains chains ◌≡◌ (same_kept chain_lattice) backward _ _ p q t (k + t) l lower (suc upper) (at p) (at q)
    where
      at : (signal : Signal chains) (j : ℕ) → j < suc upper → signal (k + (t - j)) l ≡ signal (k + t - j) l
      at signal j near = let same : k + (t - j) ≡ k + t - j = omega arith in ap (λ (u : ℕ). signal u l) same

once_ahead : (q : Signal chains) (lower upper t l : ℕ) → lower ≤ upper → ((u : ℕ) → q u l ≤ highest)
    → until_at chains backward (ever_true chains) q lower upper (t + upper) l ≡ ahead q 0 (upper - lower) t l
once_ahead q lower upper t l h small =
    let from : t ≡ t + 0 = omega arith in
    let to : t + upper + 1 - lower ≡ t + (upper - lower) + 1 = omega arith in
    once_all q l small lower upper t h ∙ ap₂ (greatest_from (λ u. q u l)) from to ∙ sym (eventually_all q l small 0 (upper - lower) t zero-le)

-- ---- eventually and once, or their duals, on a signal that is read from a sample on

pub eventually_from : (dual : Bool) (q : Signal chains) (sample lower upper t l : ℕ)
    → eventually_at dual (λ u. q (sample + u)) lower upper t l ≡ turned dual (until_at chains forward (ever_true chains) (turned dual q) lower upper) (sample + t) l
eventually_from true q sample lower upper t l = ap chain_opposite (until_later (ever_true chains) (opposite chains q) sample lower upper t l)
eventually_from false q sample lower upper t l = until_later (ever_true chains) q sample lower upper t l

pub once_from : (dual : Bool) (q : Signal chains) → ((t l : ℕ) → q t l ≤ highest) → (first lower upper t l : ℕ) → lower ≤ upper → upper ≤ first
    → eventually_at dual (λ u. q (first - upper + u)) 0 (upper - lower) t l ≡ turned dual (until_at chains backward (ever_true chains) (turned dual q) lower upper) (first + t) l
once_from dual q small first lower upper t l order past = by dual
  where
    from : (p : Signal chains) → ((u : ℕ) → p u l ≤ highest) → ahead (λ u. p (first - upper + u)) 0 (upper - lower) t l ≡ until_at chains backward (ever_true chains) p lower upper (first + t) l
    from p low =
        let sample : first - upper + (t + upper) ≡ first + t = omega arith in
        sym (once_ahead (λ u. p (first - upper + u)) lower upper t l order (λ u. low (first - upper + u)))
        ∙ since_later (ever_true chains) p (first - upper) lower upper (t + upper) l (omega arith)
        ∙ ap (λ (u : ℕ). until_at chains backward (ever_true chains) p lower upper u l) sample

    by : (dual : Bool) → eventually_at dual (λ u. q (first - upper + u)) 0 (upper - lower) t l ≡ turned dual (until_at chains backward (ever_true chains) (turned dual q) lower upper) (first + t) l
    by true = ap chain_opposite (from (opposite chains q) (λ u. turned_small true q u l (small u l)))
    by false = from q (λ u. small u l)
