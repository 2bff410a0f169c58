-- The operator at a line word, by its code: which of the three kinds of lines it is, and with which limits of its fields.
use Prim.Native.Nat.{ℕ, ◌+◌, ◌<◌, ◌≤◌}
use mathlib.Core.List.{List}
use mathlib.Core.Logic.{◌⊎◌, inl, inr, ⊎_elim}
use mathlib.Core.Path.{◌≡◌}
use native.Mathlib.Decide.{ℕ_discrete}
use native.Mathlib.Omega.{arith}
use lib.ListN.{get_or, get_or-eq_default}
use Rattle.codes.specs.declared.operator.Fields.{Fields}
use Rattle.checks.specs.Checked.{refused, word_at}
use Rattle.codes.specs.Codes.{codes, unknown}
use Rattle.codes.specs.Operators.{operator_at}
use Rattle.codes.specs.Decoding.{fields_of, plain_read, atom_read, bounded_read}

-- a number of a range is its lowest, or of the range without that
lowest : {n : ℕ} (low : ℕ) → low ≤ n → (n ≡ low) ⊎ (low + 1 ≤ n)
lowest {n} low least = by (ℕ_discrete n low)
  where
    by : Dec (n ≡ low) → (n ≡ low) ⊎ (low + 1 ≤ n)
    by (yes same) = inl same
    by (no other) = inr (omega arith)

-- the codes of two lines and bounds
abbrev pub OfTwoBounded : ℕ → Type 0
OfTwoBounded code = (code ≡ 5) ⊎ ((code ≡ 7) ⊎ ((code ≡ 12) ⊎ (code ≡ 15)))

module _ (s : List ℕ) (v lines at : ℕ) {f : Fields} (read : f ≡ fields_of (word_at s at)) where
  code_read : (code : ℕ) → f.code ≡ code → (fields_of (word_at s at)).code ≡ code
  code_read code key = rw read at key

  pub true_read : f.code ≡ 0 → plain_read f 1 1 at ≡ operator_at s v lines at
  unfolding plain_read operator_at fields_of codes
  true_read key = rw (read, code_read 0 key)

  pub not_read : f.code ≡ 3 → plain_read f lines 1 at ≡ operator_at s v lines at
  unfolding plain_read operator_at fields_of codes
  not_read key = rw (read, code_read 3 key)

  pub binary_read : (f.code ≡ 4) ⊎ (f.code ≡ 8) → plain_read f lines lines at ≡ operator_at s v lines at
  unfolding plain_read operator_at fields_of codes
  binary_read keys = ⊎_elim (λ key. rw (read, code_read 4 key)) (λ key. rw (read, code_read 8 key)) keys

  pub atom_read_lem : 1 ≤ f.code → f.code < 3 → atom_read s f v at ≡ operator_at s v lines at
  unfolding atom_read operator_at fields_of codes
  atom_read_lem least most =
      ⊎_elim (λ key. rw (read, code_read 1 key)) (λ above. rw (read, code_read 2 (omega arith))) (lowest 1 least)

  pub binary_bounded_read : OfTwoBounded f.code → bounded_read s f lines lines at ≡ operator_at s v lines at
  unfolding bounded_read operator_at fields_of codes
  binary_bounded_read (inl key) = rw (read, code_read 5 key)
  binary_bounded_read (inr (inl key)) = rw (read, code_read 7 key)
  binary_bounded_read (inr (inr (inl key))) = rw (read, code_read 12 key)
  binary_bounded_read (inr (inr (inr key))) = rw (read, code_read 15 key)

  pub somewhere_read : f.code ≡ 6 → bounded_read s f lines 1 at ≡ operator_at s v lines at
  unfolding bounded_read operator_at fields_of codes
  somewhere_read key = rw (read, code_read 6 key)

  pub forward_read : 9 ≤ f.code → f.code < 12 → bounded_read s f lines 1 at ≡ operator_at s v lines at
  unfolding bounded_read operator_at fields_of codes
  forward_read least most =
      ⊎_elim (λ key. rw (read, code_read 9 key))
      (λ above.
      ⊎_elim (λ key. rw (read, code_read 10 key)) (λ last. rw (read, code_read 11 (omega arith))) (lowest 10 above))
      (lowest 9 least)

  pub backward_read : 13 ≤ f.code → f.code < 15 → bounded_read s f lines 1 at ≡ operator_at s v lines at
  unfolding bounded_read operator_at fields_of codes
  backward_read least most =
      ⊎_elim (λ key. rw (read, code_read 13 key)) (λ above. rw (read, code_read 14 (omega arith))) (lowest 13 least)

  pub unknown_read : 16 ≤ f.code → refused 11 at ≡ operator_at s v lines at
  unfolding operator_at fields_of codes
  unknown_read least =
      let above : 16 ≤ (fields_of (word_at s at)).code = rw read at least in
      let none : get_or codes (fields_of (word_at s at)).code unknown ≡ unknown = get_or-eq_default codes unknown above in
      simp none

-- the law of each code
pub ruleset code_laws = (true_read, not_read, binary_read, atom_read_lem, binary_bounded_read, somewhere_read, forward_read, backward_read, unknown_read)
