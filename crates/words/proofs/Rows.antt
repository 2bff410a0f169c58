-- Laws of lists by index: how long a row and a table of rows are, the element at an index, a store, and when a list is a table.
use Prim.Native.Nat.{ℕ, zero, suc, ◌+◌, ◌*◌, ◌/◌, ◌%◌, ◌<◌}
use mathlib.Core.Path.{◌≡◌, refl, sym, ◌∙◌, ap, ap₂}
use mathlib.Core.List.{List, [], ◌∷◌}
use mathlib.Core.Logic.{⊎_elim}
use native.Mathlib.Nat.{le_of_suc-le-suc, eq-or-lt_of_le, suc-mul, mul-le-mul_right, not-suc-le-zero, mod-lt, div-add-mod', div-lt_iff_lt-mul}
use native.Mathlib.Decide.{ℕ_discrete, dec_lt}
use native.Mathlib.Omega.{arith}
use lib.ListN.{length, get_or, set, length-append, length-set, get_or-append}
use lib.Seq.{get_or-append-add, get_or_at, get_or-set_same, get_or-set_other, ext_get_or}
use Rattle.words.specs.Rows.{row, concat, rows}

-- the index of an element lies in its row, and the row in the table
pub in_table : {i j n m : ℕ} → i < n → j < m → i * m + j < n * m
in_table {i} {j} {n} {m} l k = omega (arith, mul-le-mul_right m l, suc-mul i m)

-- an index has one row and one column
pub same_index : (i j p q m : ℕ) → j < m → q < m → i * m + j ≡ p * m + q → (i ≡ p) × (j ≡ q)
same_index i j p q m l k e = go (dec_lt i p) (dec_lt p i)
  where
    go : Dec (i < p) → Dec (p < i) → (i ≡ p) × (j ≡ q)
    go (yes a) b = absurd (omega (arith, mul-le-mul_right m a, suc-mul i m))
    go (no a) (yes b) = absurd (omega (arith, mul-le-mul_right m b, suc-mul p m))
    go (no a) (no b) =
        let r : i ≡ p = omega arith in
        (r, omega (arith, ap (λ (x : ℕ). x * m) r))

some_column : (x n m : ℕ) → x < n * m → 0 < m
some_column x n zero h = absurd (omega arith)
some_column x n (suc m) h = omega arith

-- ---- any elements
module _ {A : Type 0} where
  pub length-row : (f : ℕ → A) (n : ℕ) → length (row f n) ≡ n
  unfolding row
  length-row f zero = refl
  length-row f (suc n) = length-append (row f n) (f n ∷ []) ∙ omega (arith, length-row f n)

  pub get_or-row : (f : ℕ → A) (n i : ℕ) (d : A) → i < n → get_or (row f n) i d ≡ f i
  unfolding row
  get_or-row f zero i d h = absurd (not-suc-le-zero h)
  get_or-row f (suc n) i d h = ⊎_elim
      (λ e. rw e (get_or_at (row f n) (f n) [] d n (length-row f n)))
      (λ l. get_or-append (row f n) (f n ∷ []) d i (rw (length-row f n) l) ∙ get_or-row f n i d l)
      (eq-or-lt_of_le (le_of_suc-le-suc h))

  pub row_ext : (f g : ℕ → A) (n : ℕ) → ((i : ℕ) → i < n → f i ≡ g i) → row f n ≡ row g n
  unfolding row
  row_ext f g zero h = refl
  row_ext f g (suc n) h =
      let a = row_ext f g n (λ i l. h i (omega arith)) in
      let b = h n (omega arith) in
      cc

  pub length-rows : (f : ℕ → ℕ → A) (n m : ℕ) → length (rows f n m) ≡ n * m
  unfolding concat
  length-rows f zero m = omega arith
  length-rows f (suc n) m =
      length-append (rows f n m) (row (f n) m)
      ∙ omega (arith, length-rows f n m, length-row (f n) m, suc-mul n m)

  pub get_or-rows : (f : ℕ → ℕ → A) (n m i j : ℕ) (d : A) → i < n → j < m → get_or (rows f n m) (i * m + j) d ≡ f i j
  unfolding concat
  get_or-rows f zero m i j d h k = absurd (not-suc-le-zero h)
  get_or-rows f (suc n) m i j d h k = ⊎_elim
      (λ e. let g : i * m + j ≡ length (rows f n m) + j = omega (arith, length-rows f n m, ap (λ (x : ℕ). x * m) e) in
      rw g (get_or-append-add (rows f n m) (row (f n) m) j d) ∙ get_or-row (f n) m j d k ∙ ap (λ (x : ℕ). f x j) (sym e))
      (λ l. get_or-append (rows f n m) (row (f n) m) d (i * m + j) (rw (length-rows f n m) (in_table l k)) ∙ get_or-rows f n m i j d l k)
      (eq-or-lt_of_le (le_of_suc-le-suc h))

  -- two tables are equal by their elements
  pub rows_ext : (f g : ℕ → ℕ → A) (n m : ℕ) → ((i j : ℕ) → i < n → j < m → f i j ≡ g i j) → rows f n m ≡ rows g n m
  unfolding concat
  rows_ext f g zero m h = refl
  rows_ext f g (suc n) m h =
      let a = rows_ext f g n m (λ i j l k. h i j (omega arith) k) in
      let b = row_ext (f n) (g n) m (λ j k. h n j (omega arith) k) in
      cc

  -- a list with these elements is the table
  pub list_rows : (f : ℕ → ℕ → A) (n m : ℕ) (d : A) (t : List A) → length t ≡ n * m → ((i j : ℕ) → i < n → j < m → get_or t (i * m + j) d ≡ f i j) → t ≡ rows f n m
  list_rows f n m d t l h = ext_get_or d t (rows f n m) (l ∙ sym (length-rows f n m)) (λ x b. go x (rw l at b) (some_column x n m (rw l at b)))
    where
      go : (x : ℕ) → x < n * m → 0 < m → get_or t x d ≡ get_or (rows f n m) x d
      go x b p =
          let r : x / m < n = (div-lt_iff_lt-mul p).1 b in
          rw (← div-add-mod' x m) (h (x / m) (x % m) r (mod-lt x p) ∙ sym (get_or-rows f n m (x / m) (x % m) d r (mod-lt x p)))

  -- a store changes one element of a table
  pub rows-set : (f g : ℕ → ℕ → A) (n m i j : ℕ) (v : A) → i < n → j < m → g i j ≡ v
      → ((p q : ℕ) → p < n → q < m → (p * m + q ≡ i * m + j → ⊥) → f p q ≡ g p q) → set (rows f n m) (i * m + j) v ≡ rows g n m
  rows-set f g n m i j v h k e o =
      list_rows g n m v (set (rows f n m) (i * m + j) v) (length-set (rows f n m) (i * m + j) v ∙ length-rows f n m)
      (λ p q l c. at p q l c (ℕ_discrete (p * m + q) (i * m + j)))
    where
      at : (p q : ℕ) → p < n → q < m → Dec (p * m + q ≡ i * m + j) → get_or (set (rows f n m) (i * m + j) v) (p * m + q) v ≡ g p q
      at p q l c (yes x) =
          let s = same_index p q i j m c k x in
          rw x (get_or-set_same (rows f n m) (i * m + j) v v (rw length-rows (in_table h k))) ∙ sym e ∙ ap₂ g (sym s.0) (sym s.1)
      at p q l c (no x) =
          get_or-set_other (rows f n m) (i * m + j) (p * m + q) v v x ∙ get_or-rows f n m p q v l c ∙ o p q l c x
