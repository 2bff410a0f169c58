-- What the operators compute with stays small: values are at most `highest`.
use mathlib.Core.Bool.{Bool}
use mathlib.Core.List.{List}
use Prim.Native.Nat.{ℕ, ◌+◌, ◌*◌, ◌≤◌, ◌<◌, zero-le}
use native.Mathlib.Omega.{arith}
use lib.Dec.{leb}
use Rattle.words.proofs.Rows.{in_table}
use Rattle.logic.specs.Lattice.{greatest_over}
use Rattle.logic.proofs.Keeps.{Keeps, greatest_kept}
use Rattle.logic.proofs.TotalOrder.{each_kept}
use Rattle.values.specs.Chain.{chain_lattice, highest}
use Rattle.values.specs.Signals.{signal_in, turned}
use Rattle.values.proofs.Naturals.{leb_trans, leb_total}
use Rattle.values.proofs.ChainWords.{signal_bound}
use Rattle.operators.proofs.RowLaws.{turned_small}

-- ---- no fold leads beyond `highest`

pub bounded_kept : Keeps chain_lattice chain_lattice (λ c _. c ≤ highest)
bounded_kept = each_kept leb 0 highest leb_trans leb_total (λ c. c ≤ highest) (omega arith) zero-le

pub meet_bound : (a b : ℕ) → a ≤ highest → b ≤ highest → chain_lattice.meet a b ≤ highest
meet_bound a b h k = bounded_kept.keeps_meet a b a b h k

pub greatest_bound : (test : ℕ → Bool) (f : ℕ → ℕ) (n : ℕ) → ((k : ℕ) → k < n → f k ≤ highest) → greatest_over chain_lattice test f n ≤ highest
greatest_bound test f n h = greatest_kept chain_lattice chain_lattice (λ c _. c ≤ highest) bounded_kept test f f n (λ k b _. h k b)

-- ---- nor does what an operator reads

pub turned_bound : (negated : Bool) (words : List ℕ) (start n t l : ℕ) → turned negated (signal_in words start n) t l ≤ highest
turned_bound negated words start n t l = turned_small negated (signal_in words start n) t l (signal_bound words start n t l)

-- ---- and what it reads stands within its sample

pub in_row : (t : ℕ) {l places : ℕ} → l < places → t * places + l < (t + 1) * places
in_row t {l} {places} b = let sample : t < t + 1 = omega arith in in_table sample b
