-- Definition 4.4's iteration on the masked signals of Corollary 4.6, and its rounds as document 01 counts them.
use Rattle.std.specs.Prelude.{Bool, true, false, not, cond, ◌&&◌, ℕ, zero, suc, pred, eqb}
use Rattle.logic.specs.Lattice.{Lattice, verdict_lattice, least_over}
use Rattle.logic.specs.Margin.{Margin, at_most, margin_lattice}

-- Definition 4.4: all places step together from the former round
unfoldable pub iterate : (L : Lattice) → (ℕ → ℕ → Bool) → ℕ → (ℕ → L.Value) → (ℕ → L.Value) → ℕ → ℕ → L.Value
iterate L joined n left right zero l = left l
iterate L joined n left right (suc i) l =
    let former : ℕ → L.Value = iterate L joined n left right i in
    L.meet (former l) (least_over L (joined l) (λ k. L.join (former k) (right k)) n)

-- Corollary 4.6: a value outside its range counts as bottom
unfoldable pub masked : (L : Lattice) → (ℕ → Bool) → (ℕ → L.Value) → ℕ → L.Value
masked L test f l = cond (test l) (f l) L.bottom

-- M-101: the value of place k set to bottom
unfoldable pub except : (L : Lattice) → ℕ → (ℕ → L.Value) → ℕ → L.Value
except L k = masked L (λ l. not (eqb l k))

-- the least number below d that passes the test, d if none does
unfoldable pub first : (ℕ → Bool) → ℕ → ℕ
first test zero = zero
first test (suc d) = elim (test zero) [ true ↦ zero | false ↦ suc (first (λ i. test (suc i)) d) ]

module _ (joined : ℕ → ℕ → Bool) (n : ℕ) (left right : ℕ → Margin) where
  -- step i + 1 equals step i at all places
  unfoldable pub at_rest : ℕ → Bool
  at_rest i =
      let former : ℕ → Margin = iterate margin_lattice joined n left right i in
      let next : ℕ → Margin = iterate margin_lattice joined n left right (suc i) in
      least_over verdict_lattice (λ _. true) (λ l. at_most (next l) (former l) && at_most (former l) (next l)) n

  -- 1 plus the least i at which step i + 1 equals step i: there is one below n, and none before it (`rests_after` and `rounds_least` in
  -- proofs/Rounds.antt)
  unfoldable pub rounds : ℕ
  rounds = suc (first at_rest (pred n))
