-- Lists one after the other: where the lists begin at `start 0`, `start 1`, .., their concatenation has that length, and the element at
-- `start i + j` is the one at j of list i.
use Prim.Native.Nat.{ℕ, zero, suc, ◌+◌, ◌<◌, ◌≤◌}
use mathlib.Core.Path.{◌≡◌, sym, ◌∙◌, ap}
use mathlib.Core.List.{List, ◌++◌}
use mathlib.Core.Logic.{⊎_elim}
use native.Mathlib.Nat.{not-suc-le-zero, le_of_suc-le-suc, eq-or-lt_of_le}
use native.Mathlib.Omega.{arith}
use lib.ListN.{length, get_or, length-append, get_or-append}
use lib.Seq.{get_or-append-add}
use Rattle.words.specs.Rows.{concat}

module _ {A : Type 0} (f : ℕ → List A) (start : ℕ → ℕ) (first : start 0 ≡ 0) (next : (i : ℕ) → start (suc i) ≡ start i + length (f i)) where
  pub concat-length : (n : ℕ) → length (concat f n) ≡ start n
  unfolding concat
  concat-length zero = sym first
  concat-length (suc n) = length-append (concat f n) (f n) ∙ omega (arith, concat-length n, next n)

  -- a list ends where the next begins, and that is at most where a later one begins
  pub start_below : (i n : ℕ) → i < n → start i + length (f i) ≤ start n
  start_below i zero h = absurd (not-suc-le-zero h)
  start_below i (suc n) h = ⊎_elim
      (λ e. rw e (omega (arith, next n)))
      (λ l. omega (arith, start_below i n l, next n))
      (eq-or-lt_of_le (le_of_suc-le-suc h))

  pub concat_at : (n i j : ℕ) (d : A) → i < n → j < length (f i) → get_or (concat f n) (start i + j) d ≡ get_or (f i) j d
  unfolding concat
  concat_at zero i j d h k = absurd (not-suc-le-zero h)
  concat_at (suc n) i j d h k = ⊎_elim
      (λ e. ap (λ (m : ℕ). get_or (concat f n ++ f n) (m + j) d) (ap start e ∙ sym (concat-length n))
      ∙ get_or-append-add (concat f n) (f n) j d ∙ ap (λ (m : ℕ). get_or (f m) j d) (sym e))
      (λ l. get_or-append (concat f n) (f n) d (start i + j) (inside l) ∙ concat_at n i j d l k)
      (eq-or-lt_of_le (le_of_suc-le-suc h))
    where
      inside : i < n → start i + j < length (concat f n)
      inside l = omega (arith, concat-length n, start_below i n l)
