-- Lists by index: f 0, f 1, .. and tables of such rows. The last element comes last in the definition too, as a loop that counts up meets it.
use Rattle.std.specs.Prelude.{List, [], ◌∷◌, ◌++◌, ℕ, zero, suc, ◌+◌, ◌-◌, length, take, drop, replicate}

module _ {A : Type 0} where
  unfoldable pub row : (ℕ → A) → ℕ → List A
  row f zero = []
  row f (suc n) = row f n ++ (f n ∷ [])

  -- the lists f 0, f 1, .. one after the other
  unfoldable pub concat : (ℕ → List A) → ℕ → List A
  concat f zero = []
  concat f (suc n) = concat f n ++ f n

  -- n rows of m each: f i j stands at index i * m + j
  abbrev pub rows : (ℕ → ℕ → A) → ℕ → ℕ → List A
  rows f n m = concat (λ i. row (f i) m) n

-- s with v in place of as many elements from index i on
unfoldable pub put : List ℕ → ℕ → List ℕ → List ℕ
put s i v = take i s ++ v ++ drop (i + length v) s

-- a list with zeros after it, up to a length
abbrev pub padded : List ℕ → ℕ → List ℕ
padded xs room = xs ++ replicate (room - length xs) 0
