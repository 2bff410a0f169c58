-- Lists whose numbers are all below a bound: one number more, lists one after the other, parts, zeros behind, rows.
use Prim.Native.Nat.{ℕ, zero, suc, ◌-◌, ◌<◌}
use mathlib.Core.List.{List, [], ◌∷◌, ◌++◌}
use native.Mathlib.Omega.{arith}
use lib.ListN.{length, get_or, take, drop, replicate}
use Rattle.words.specs.Rows.{row, concat, padded}

-- every element is below a bound; beyond the end an element counts as 0, as a slice tells it
abbrev pub Below : ℕ → List ℕ → Type 0
Below bound b = (i : ℕ) → get_or b i 0 < bound

module _ {bound : ℕ} (some : 0 < bound) where
  pub below_none : Below bound []
  below_none i = some

  pub below_more : (x : ℕ) (b : List ℕ) → x < bound → Below bound b → Below bound (x ∷ b)
  below_more x b h k zero = h
  below_more x b h k (suc i) = k i

  pub below_append : (a b : List ℕ) → Below bound a → Below bound b → Below bound (a ++ b)
  below_append [] b h k = k
  below_append (x ∷ a) b h k = below_more x (a ++ b) (h 0) (below_append a b (λ i. h (suc i)) k)

  pub below_take : (n : ℕ) (b : List ℕ) → Below bound b → Below bound (take n b)
  below_take zero b h = below_none
  below_take (suc n) [] h = below_none
  below_take (suc n) (x ∷ b) h = below_more x (take n b) (h 0) (below_take n b (λ i. h (suc i)))

  pub below_drop : (n : ℕ) (b : List ℕ) → Below bound b → Below bound (drop n b)
  below_drop zero b h = h
  below_drop (suc n) [] h = below_none
  below_drop (suc n) (x ∷ b) h = below_drop n b (λ i. h (suc i))

  below_zeros : (n : ℕ) → Below bound (replicate n 0)
  below_zeros zero = below_none
  below_zeros (suc n) = below_more 0 (replicate n 0) some (below_zeros n)

  pub below_padded : (b : List ℕ) (room : ℕ) → Below bound b → Below bound (padded b room)
  below_padded b room h = below_append b (replicate (room - length b) 0) h (below_zeros (room - length b))

  pub below_concat : (f : ℕ → List ℕ) (n : ℕ) → ((i : ℕ) → i < n → Below bound (f i)) → Below bound (concat f n)
  unfolding concat
  below_concat f zero h = below_none
  below_concat f (suc n) h = below_append (concat f n) (f n) (below_concat f n (λ i l. h i (omega arith))) (h n (omega arith))

  pub below_row : (f : ℕ → ℕ) (n : ℕ) → ((i : ℕ) → i < n → f i < bound) → Below bound (row f n)
  unfolding row
  below_row f zero h = below_none
  below_row f (suc n) h = below_append (row f n) (f n ∷ []) (below_row f n (λ i l. h i (omega arith))) (below_more (f n) [] (h n (omega arith)) below_none)
