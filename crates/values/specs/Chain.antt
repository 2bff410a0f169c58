-- A verdict and its margin as one number, twice the margin's place in the order plus 1 for a yes:
-- no at minus infinity is 0, no -1 is 2 (2^27 - 1), no 0 is 2^28, yes 0 is 2^28 + 1, yes at plus infinity is 2^29 + 1.
-- The pairs that can arise are a chain in the order of both, so the lesser of two numbers is the "both" of the verdicts and the lesser margin.
-- `chains` is a third reading of the logic: it is what the engine computes with, and no promise to a host speaks of it.
use Rattle.std.specs.Prelude.{Bool, cond, ◌≡◌, ℕ, suc, ◌+◌, ◌-◌, ◌*◌, ◌/◌, ◌%◌, ◌≤◌, ◌^◌, leb, ltb, eqb, ℤ, pos, negsuc}
use Rattle.std.proofs.Math.IntN.{sub_ℕ}
use Rattle.std.specs.Int.Signed.{le_z}
use Rattle.words.specs.Word.{kind_of, payload_of, word_of}
use Rattle.logic.specs.Lattice.{Lattice, ordered}
use Rattle.logic.specs.Margin.{Margin, minus_infinity, finite, plus_infinity}
use Rattle.logic.specs.Table.{Reading}
use Rattle.counting.specs.Totals.{count}

-- a margin's place in the order: 0 for minus infinity, 2^28 for plus infinity
abbrev pub margin_code : Margin → ℕ
margin_code minus_infinity = 0
margin_code (finite (pos x)) = 2 ^ 27 + x
margin_code (finite (negsuc x)) = 2 ^ 27 - suc x
margin_code plus_infinity = 2 ^ 28

unfoldable pub margin_at : ℕ → Margin
margin_at code = cond (eqb code 0) minus_infinity (cond (ltb code (2 ^ 28)) (finite (sub_ℕ code (2 ^ 27))) plus_infinity)

-- yes at plus infinity
abbrev pub highest : ℕ
highest = 2 ^ 29 + 1

abbrev pub chain_of : Bool → Margin → ℕ
chain_of v m = 2 * margin_code m + count v

abbrev pub chain_margin : ℕ → Margin
chain_margin c = margin_at (c / 2)

abbrev pub chain_verdict : ℕ → Bool
chain_verdict c = ltb (2 ^ 28) c

-- The numbers that can arise: margin and verdict agree, so those of a no are even and those of a yes odd.
pub record Valid (c : ℕ) : Type 0 where
  pub bounded : c ≤ highest
  pub agrees : c % 2 ≡ count (chain_verdict c)

abbrev pub chain_lattice : Lattice
chain_lattice = ordered leb 0 highest

abbrev pub chain_opposite : ℕ → ℕ
chain_opposite c = highest - c

-- a difference is a yes where it is not negative
abbrev pub chain_difference : ℤ → ℕ
chain_difference z = chain_of (le_z (pos 0) z) (finite z)

abbrev pub chains : Reading
chains = record { lattice = chain_lattice; opposite = chain_opposite; atom = chain_difference }

-- the word of a chain number, and the number of a word
unfoldable pub chain_word : ℕ → ℕ
chain_word c =
    cond (eqb c 0) (word_of 12 0)
    (cond (eqb c highest) (word_of 11 0)
    (word_of (cond (chain_verdict c) 9 10) ((c / 2 + 2 ^ 27) % 2 ^ 28)))

unfoldable pub word_chain : ℕ → ℕ
word_chain w =
    cond (eqb (kind_of w) 12) 0
    (cond (eqb (kind_of w) 11) highest
    (2 * ((payload_of w + 2 ^ 27) % 2 ^ 28) + count (eqb (kind_of w) 9)))
