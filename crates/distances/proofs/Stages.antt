-- Laws of the stages of the distance table: a number of 64 bits takes the least and the sum as distances do; one entry more is let in by one
-- store; and at the end no finite distance is too large.
use Prim.Native.Nat.{ℕ, suc, ◌+◌, ◌-◌, ◌*◌, ◌/◌, ◌<◌, ◌≤◌, ◌^◌, min}
use mathlib.Core.Path.{◌≡◌, refl, sym, ◌∙◌, ap, ap₂}
use mathlib.Core.Bool.{Bool, true, false, cond}
use mathlib.Core.List.{List, ◌++◌}
use native.Mathlib.Nat.{mul-le-mul, mul-le-mul_right}
use native.Mathlib.Decide.{dec_lt, ℕ_discrete}
use native.Mathlib.Numerals.{add-one}
use native.Mathlib.Omega.{arith}
use lib.Dec.{T, leb→le, ltb}
use lib.ListN.{length, get_or, set, replicate}
use borrow.Author.Tests.{lt-ltb, le-ltb}
use Rattle.words.specs.Rows.{padded}
use Rattle.words.proofs.Numbers.{same_count, length_numbers, padded_bytes}
use Rattle.words.proofs.Rows.{in_table, length-rows, get_or-rows, rows_ext, rows-set}
use Rattle.network.specs.Distance.{Distance, dist, none, at_most, add, lesser, distance}
use Rattle.network.specs.Network.{distance_in}
use Rattle.network.proofs.Distances.{lesser_by, at_most_other, distance_to, distance_from}
use Rattle.network.proofs.Reach.{distance_bound}
use Rattle.distances.specs.Distances.{distance_number, distance_table, numbers_in, room_in}
use Rattle.distances.specs.Stages.{IsTable, saturated, stage, relaxing, relaxed}

-- ---- numbers of 64 bits for distances
saturated_order : (d e : Distance) → T (at_most d e) → saturated d ≤ saturated e
unfolding saturated
saturated_order d none h = omega arith
saturated_order none (dist b) h = absurd h
saturated_order (dist a) (dist b) h = omega (arith, leb→le a b h)

saturated_most : (d : Distance) → saturated d ≤ 2 ^ 64 - 1
unfolding saturated
saturated_most d = omega arith

saturated_add : (d e : Distance) → saturated (add d e) ≡ min (saturated d + saturated e) (2 ^ 64 - 1)
unfolding saturated
saturated_add none e = omega arith
saturated_add (dist a) none = omega arith
saturated_add (dist a) (dist b) = omega arith

-- the least of a distance and a sum, without a bound on either
saturated_least : (d x y : Distance) → saturated (lesser d (add x y)) ≡ min (saturated d) (saturated x + saturated y)
saturated_least d x y = lesser_by (λ v. saturated v ≡ min (saturated d) (saturated x + saturated y)) d (add x y)
    (λ h. omega (arith, saturated_order d (add x y) h, saturated_add x y, saturated_most d))
    (λ h. omega (arith, saturated_order (add x y) d (at_most_other d (add x y) h), saturated_add x y, saturated_most d))

pub length_stage : (weight : ℕ → ℕ → Distance) (n k : ℕ) → length (stage weight n k) ≡ n * n
unfolding stage
length_stage weight n k = length-rows (λ a b. saturated (distance weight k a b)) n n

-- as many bytes as those of a table at some stage
pub same_table : (weight : ℕ → ℕ → Distance) (n k : ℕ) (t u : List ℕ) → numbers_in t ≡ stage weight n k → length u ≡ length t → IsTable n u
same_table weight n k t u e h = same_count u t h ∙ ap length e ∙ length_stage weight n k

-- a table whose front holds k numbers, and is zero behind them
pub front_filled : (t v z numbers : List ℕ) (k m : ℕ) → numbers_in v ≡ numbers → z ≡ replicate m 0 → length v ≡ k * 8 → k * 8 + m ≡ length t
    → numbers_in (v ++ z) ≡ padded numbers (room_in t)
front_filled t v z numbers k m held zero front all =
    let room : k + m / 8 ≡ room_in t = omega (arith, length_numbers t) in
    ap (λ (z : List ℕ). numbers_in (v ++ z)) zero ∙ padded_bytes v k m front ∙ ap₂ padded held room

-- ---- letting place k in
module _ (weight : ℕ → ℕ → Distance) (n k : ℕ) where
  abbrev entry : ℕ → ℕ → ℕ → ℕ
  entry m a b = saturated (cond (ltb (a * n + b) m) (distance weight (suc k) a b) (distance weight k a b))

  pub relaxing_none : stage weight n k ≡ relaxing weight n k (0 * n)
  unfolding relaxing stage
  relaxing_none = rows_ext (λ a b. saturated (distance weight k a b)) (entry (0 * n)) n n
      (λ a b h l. rw (le-ltb (a * n + b) (0 * n) (omega arith)))

  pub relaxing_all : (a : ℕ) → a ≡ n → relaxing weight n k (a * n) ≡ stage weight n (k + 1)
  unfolding relaxing stage
  relaxing_all a e = rw (e, add-one k) (rows_ext (entry (n * n)) (λ a b. saturated (distance weight (suc k) a b)) n n
      (λ a b h l. rw (lt-ltb (a * n + b) (n * n) (in_table h l))))

  -- the row and the column of k are the same before and after
  same : (c : Bool) (d e : Distance) → d ≡ e → saturated (cond c d e) ≡ saturated e
  same true d e h = ap saturated h
  same false d e h = refl

  pub relaxing_to : (m a : ℕ) → a < n → k < n → get_or (relaxing weight n k m) (a * n + k) 0 ≡ saturated (distance weight k a k)
  unfolding relaxing
  relaxing_to m a h l = get_or-rows (entry m) n n a k 0 h l ∙ same (ltb (a * n + k) m) (distance weight (suc k) a k) (distance weight k a k) (distance_to weight k a)

  relaxing_from : (m b : ℕ) → k < n → b < n → get_or (relaxing weight n k m) (k * n + b) 0 ≡ saturated (distance weight k k b)
  unfolding relaxing
  relaxing_from m b h l = get_or-rows (entry m) n n k b 0 h l ∙ same (ltb (k * n + b) m) (distance weight (suc k) k b) (distance weight k k b) (distance_from weight k b)

  -- the number that is stored at a, b
  relaxed_entry : (a b x : ℕ) (t : List ℕ) → a < n → b < n → k < n → x ≡ saturated (distance weight k a k) → t ≡ relaxing weight n k (a * n + b)
      → min (get_or t (a * n + b) 0) (x + get_or t (k * n + b) 0) ≡ saturated (distance weight (suc k) a b)
  unfolding relaxing distance
  relaxed_entry a b x t ha hb hk ex et =
      let old : get_or t (a * n + b) 0 ≡ saturated (distance weight k a b) =
      ap (λ (u : List ℕ). get_or u (a * n + b) 0) et ∙ get_or-rows (entry (a * n + b)) n n a b 0 ha hb
      ∙ rw (le-ltb (a * n + b) (a * n + b) (omega arith)) in
      let from : get_or t (k * n + b) 0 ≡ saturated (distance weight k k b) =
      ap (λ (u : List ℕ). get_or u (k * n + b) 0) et ∙ relaxing_from (a * n + b) b hk hb in
      rw (old, from, ex) (sym (saturated_least (distance weight k a b) (distance weight k a k) (distance weight k k b)))

  -- no other entry is let in by one index more
  others : (m p : ℕ) → (p ≡ m → ⊥) → ltb p m ≡ ltb p (suc m)
  others m p o = go (dec_lt p m)
    where
      go : Dec (p < m) → ltb p m ≡ ltb p (suc m)
      go (yes l) = lt-ltb p m l ∙ sym (lt-ltb p (suc m) (omega arith))
      go (no l) = le-ltb p m (omega arith) ∙ sym (le-ltb p (suc m) (omega arith))

  -- one entry more
  pub relaxing_more : (a b x : ℕ) (t : List ℕ) → a < n → b < n → k < n → x ≡ saturated (distance weight k a k)
      → t ≡ relaxing weight n k (a * n + b) → relaxed x (k * n + b) (a * n + b) t ≡ relaxing weight n k (suc (a * n + b))
  unfolding relaxing
  relaxing_more a b x t ha hb hk ex et =
      let m = a * n + b in
      let v = min (get_or t m 0) (x + get_or t (k * n + b) 0) in
      ap (λ (u : List ℕ). set u m v) et
      ∙ rows-set (entry m) (entry (suc m)) n n a b v ha hb
      (rw (lt-ltb m (suc m) (omega arith)) (sym (relaxed_entry a b x t ha hb hk ex et)))
      (λ p q _ _ o. rw (others m (p * n + q) o))

  -- .. of lists that were read: t₀ before the first entry of the row, where x is, t before this one, u after it
  pub relaxed_more : (a b x : ℕ) (t₀ t u : List ℕ) → a < n → b < n → k < n → t₀ ≡ relaxing weight n k (a * n) → x ≡ get_or t₀ (a * n + k) 0
      → t ≡ relaxing weight n k (a * n + b) → u ≡ relaxed x (k * n + b) (a * n + b) t → u ≡ relaxing weight n k (a * n + (b + 1))
  relaxed_more a b x t₀ t u ha hb hk e₀ ex et eu =
      let next : suc (a * n + b) ≡ a * n + (b + 1) = omega arith in
      let read = ex ∙ ap (λ (t : List ℕ). get_or t (a * n + k) 0) e₀ ∙ relaxing_to (a * n) a ha hk in
      eu ∙ relaxing_more a b x t ha hb hk read et ∙ ap (relaxing weight n k) next

  -- where k has no distance from a, letting it in leaves the row of a as it is
  pub relaxing_unreached : (a : ℕ) → a < n → saturated (distance weight k a k) ≡ 2 ^ 64 - 1 → relaxing weight n k (a * n) ≡ relaxing weight n k (a * n + n)
  unfolding relaxing distance
  relaxing_unreached a h far = rows_ext (entry (a * n)) (entry (a * n + n)) n n (λ p q b l. at p q b l (ℕ_discrete p a) (dec_lt p a))
    where
      either : (t : Bool) (q : ℕ) → saturated (cond t (distance weight (suc k) a q) (distance weight k a q)) ≡ saturated (distance weight k a q)
      either true q = saturated_least (distance weight k a q) (distance weight k a k) (distance weight k k q) ∙ omega (arith, far, saturated_most (distance weight k a q))
      either false q = refl

      at : (p q : ℕ) → p < n → q < n → Dec (p ≡ a) → Dec (p < a) → entry (a * n) p q ≡ entry (a * n + n) p q
      at p q b l (yes e) d = rw e (either (ltb (a * n + q) (a * n)) q ∙ sym (either (ltb (a * n + q) (a * n + n)) q))
      at p q b l (no e) (yes c) = let under = in_table c l in rw (lt-ltb (p * n + q) (a * n) (omega arith), lt-ltb (p * n + q) (a * n + n) (omega arith))
      at p q b l (no e) (no c) =
          let over : suc a * n ≤ p * n = mul-le-mul_right n (omega arith) in
          rw (le-ltb (p * n + q) (a * n) (omega arith), le-ltb (p * n + q) (a * n + n) (omega arith))

-- ---- every place let in
exact : (d : Distance) → ((z : ℕ) → d ≡ dist z → z < 2 ^ 64) → saturated d ≡ distance_number d
unfolding saturated
exact none h = omega arith
exact (dist z) h = omega (arith, h z refl)

-- a table that fits the memory has few places
pub few_places : (n : ℕ) → n * n < 2 ^ 64 → n < 2 ^ 32
few_places n h = go (dec_lt n (2 ^ 32))
  where
    go : Dec (n < 2 ^ 32) → n < 2 ^ 32
    go (yes l) = l
    go (no l) =
        let m : 2 ^ 32 ≤ n = omega arith in
        absurd (omega (arith, mul-le-mul m m))

pub stage_all : (weight : ℕ → ℕ → Distance) (n W : ℕ) → ((a c x : ℕ) → weight a c ≡ dist x → x ≤ W) → n * W < 2 ^ 64 → stage weight n n ≡ distance_table (record { places = n; weight = weight })
unfolding stage distance_table distance_in
stage_all weight n W light h = rows_ext (λ a b. saturated (distance weight n a b)) (λ a b. distance_number (distance weight n a b)) n n
    (λ a b l c. exact (distance weight n a b) (λ z e. omega (arith, distance_bound weight n W light b n (omega arith) a l c z e)))
