-- The table before any place is let in: nothing but the zeros of its diagonal, then one road after the other, each stored at the entries of
-- the ways that it runs.
use Prim.Native.Nat.{ℕ, zero, suc, ◌+◌, ◌-◌, ◌*◌, ◌/◌, ◌<◌, ◌≤◌, ◌^◌}
use mathlib.Core.Path.{◌≡◌, refl, sym, ◌∙◌, ap, ap₂}
use mathlib.Core.Bool.{Bool, true, false, cond, ◌&&◌, ◌||◌, and-false}
use mathlib.Core.Logic.{⊎_elim}
use mathlib.Core.List.{List, ◌∷◌}
use native.Mathlib.Decide.{dec_lt, ℕ_discrete}
use native.Mathlib.Numerals.{add-one}
use native.Mathlib.Omega.{arith}
use lib.Dec.{T, ltb, eqb}
use lib.ListN.{length, set, replicate, length-replicate, get_or-replicate}
use borrow.Author.Tests.{lt-ltb, le-ltb, eq-eqb, ne_eqb}
use Rattle.words.specs.Bytes.{words_of, numbers_of}
use Rattle.words.specs.Rows.{rows}
use Rattle.words.proofs.Numbers.{length_numbers}
use Rattle.words.proofs.Rows.{in_table, list_rows, rows_ext, rows-set}
use Rattle.network.specs.Distance.{dist, none, direct, distance}
use Rattle.counting.proofs.Tests.{holds, or_l, or_r, or_e}
use Rattle.roads.specs.declared.road.Way.{Way}
use Rattle.roads.specs.Roads.{GoodRoad, leads_by, first_of, forth_of, back_of, weight_of, leads, weight_among}
use Rattle.distances.specs.Stages.{saturated, stage, way_put}
use Rattle.roads.proofs.Ways.{leads_ends}

-- ---- every distance none
all_none : (k : ℕ) → numbers_of (words_of (replicate k 255)) ≡ replicate (k / 8) (2 ^ 64 - 1)
unfolding words_of numbers_of
all_none zero = refl
all_none (suc zero) = refl
all_none (suc (suc zero)) = refl
all_none (suc (suc (suc zero))) = refl
all_none (suc (suc (suc (suc zero)))) = refl
all_none (suc (suc (suc (suc (suc zero))))) = refl
all_none (suc (suc (suc (suc (suc (suc zero)))))) = refl
all_none (suc (suc (suc (suc (suc (suc (suc zero))))))) = refl
all_none (suc (suc (suc (suc (suc (suc (suc (suc k)))))))) =
    let one_more : suc (k / 8) ≡ suc (suc (suc (suc (suc (suc (suc (suc k))))))) / 8 = omega arith in
    ap (λ (t : List ℕ). (2 ^ 64 - 1) ∷ t) (all_none k) ∙ ap (λ (m : ℕ). replicate m (2 ^ 64 - 1)) one_more

pub filled : (b : List ℕ) → numbers_of (words_of (replicate (length b) 255)) ≡ replicate (length (numbers_of (words_of b))) (2 ^ 64 - 1)
filled b = all_none (length b) ∙ ap (λ (m : ℕ). replicate m (2 ^ 64 - 1)) (sym (length_numbers b))

-- ---- the diagonal
abbrev diagonal : ℕ → ℕ → ℕ → ℕ
diagonal a p q = saturated (cond (ltb p a && eqb p q) (dist 0) none)

-- zeros on the diagonal of the first a rows
unfoldable pub begun : ℕ → ℕ → List ℕ
begun n a = rows (diagonal a) n n

pub begun_none : (n : ℕ) → replicate (n * n) (2 ^ 64 - 1) ≡ begun n 0
unfolding begun saturated
begun_none n = list_rows (diagonal 0) n n 0 (replicate (n * n) (2 ^ 64 - 1)) (length-replicate {A = ℕ} (n * n) (2 ^ 64 - 1))
    (λ p q h k. get_or-replicate (n * n) (p * n + q) (2 ^ 64 - 1) 0 (in_table h k) ∙ rw (le-ltb p 0 (omega arith)))

pub begun_more : (n a : ℕ) → a < n → set (begun n a) (a * n + a) 0 ≡ begun n (a + 1)
unfolding begun saturated
begun_more n a h = rows-set (diagonal a) (diagonal (a + 1)) n n a a 0 h h
    (rw (lt-ltb a (a + 1) (omega arith), eq-eqb a a refl))
    (λ p q _ _ o. at p q o (ℕ_discrete p a) (dec_lt p a))
  where
    at : (p q : ℕ) → (p * n + q ≡ a * n + a → ⊥) → Dec (p ≡ a) → Dec (p < a) → diagonal a p q ≡ diagonal (a + 1) p q
    at p q o (yes e) d =
        let f : eqb p q ≡ false = ne_eqb p q (λ x. o (ap₂ (λ (u v : ℕ). u * n + v) e (sym x ∙ e))) in
        rw (f, and-false (ltb p a), and-false (ltb p (a + 1)))
    at p q o (no e) (yes l) = rw (lt-ltb p a l, lt-ltb p (a + 1) (omega arith))
    at p q o (no e) (no l) = rw (le-ltb p a (omega arith), le-ltb p (a + 1) (omega arith))

pub begun_all : (n : ℕ) → begun n n ≡ stage (λ _ _. none) n 0
unfolding begun stage distance direct
begun_all n = rows_ext (diagonal n) (λ p q. saturated (distance (λ _ _. none) 0 p q)) n n (λ p q h _. rw (lt-ltb p n h))

pub no_roads : (s : List ℕ) (n : ℕ) → stage (λ _ _. none) n 0 ≡ stage (weight_among s 0) n 0
unfolding weight_among
no_roads s n = refl

-- ---- roads
-- a road's weight is a payload
pub light : (s : List ℕ) (r a b x : ℕ) → weight_among s r a b ≡ dist x → x ≤ 2 ^ 28
unfolding weight_among
light s zero a b x e = let z : ◌≡◌ {A = ℕ} 0 1 = cc in absurd (omega arith)
light s (suc r) a b x e = go (leads s r a b) e (light s r a b x)
  where
    go : (t : Bool) → elim t [ true ↦ dist (weight_of s r) | false ↦ weight_among s r a b ] ≡ dist x
        → (weight_among s r a b ≡ dist x → x ≤ 2 ^ 28) → x ≤ 2 ^ 28
    go true e f = let q : weight_of s r ≡ x = cc in omega arith
    go false e f = f e

-- a table in which a way is put
module _ (n : ℕ) (way : Way) (w : ℕ) (f : ℕ → ℕ → ℕ) where
  with_way : ℕ → ℕ → ℕ
  with_way p q = cond (leads_by way p q) w (f p q)

  -- an entry that is not that of the way
  elsewhere : (p q : ℕ) → (p * n + q ≡ way.from * n + way.to → ⊥) → (eqb way.from p && eqb way.to q) ≡ false
  elsewhere p q o = go (ℕ_discrete way.from p) (ℕ_discrete way.to q)
    where
      go : Dec (way.from ≡ p) → Dec (way.to ≡ q) → (eqb way.from p && eqb way.to q) ≡ false
      go (yes e) (yes f) = absurd (o (ap₂ (λ (x y : ℕ). x * n + y) (sym e) (sym f)))
      go (yes e) (no f) = rw (ne_eqb way.to q f) (and-false (eqb way.from p))
      go (no e) f = rw (ne_eqb way.from p e)

  way_stored : way.from < n → way.to < n → way_put n way w (rows f n n) ≡ rows with_way n n
  unfolding with_way
  way_stored h k = go way.runs
    where
      go : (runs : Bool) → cond runs (set (rows f n n) (way.from * n + way.to) w) (rows f n n) ≡ rows (λ p q. cond (runs && (eqb way.from p && eqb way.to q)) w (f p q)) n n
      go true = rows-set f (λ p q. cond (eqb way.from p && eqb way.to q) w (f p q)) n n way.from way.to w h k
          (rw (eq-eqb way.from way.from refl, eq-eqb way.to way.to refl))
          (λ p q _ _ o. rw (elsewhere p q o))
      go false = refl

-- a way does not lead from a place to itself where its ends are two
way_apart : (way : Way) (p q : ℕ) → (way.from ≡ way.to → ⊥) → T (leads_by way p q) → p ≡ q → ⊥
way_apart way p q apart h e = let ends = leads_ends way p q h in apart (ends.1 ∙ e ∙ sym ends.2)

module _ (s : List ℕ) (n r : ℕ) (good : GoodRoad s n r) where
  abbrev weight : ℕ
  weight = weight_of s r

  -- an entry before and after the road
  before : ℕ → ℕ → ℕ
  before p q = saturated (distance (weight_among s r) 0 p q)

  after : ℕ → ℕ → ℕ
  after p q = saturated (distance (weight_among s (suc r)) 0 p q)

  -- .. of two places from one of which the road leads to the other, or does not
  module _ (p q : ℕ) where
    apart : T (leads s r p q) → p ≡ q → ⊥
    unfolding leads
    apart h = ⊎_elim
        (way_apart (forth_of s r) p q (λ e. omega (arith, good.order)))
        (way_apart (back_of s r) p q (λ e. omega (arith, good.order)))
        (or_e (leads_by (forth_of s r) p q) _ h)

    led : T (leads s r p q) → weight ≡ after p q
    unfolding after distance direct saturated weight_among
    led h =
        let stored : weight ≡ saturated (dist weight) = omega arith in
        rw (ne_eqb p q (apart h)) (stored ∙ ap (λ (t : Bool). saturated (elim t [ true ↦ dist weight | false ↦ weight_among s r p q ])) (sym (holds (leads s r p q) h)))

    not_led : leads s r p q ≡ false → before p q ≡ after p q
    unfolding before after distance direct weight_among
    not_led e = ap (λ (t : Bool). saturated (cond (eqb p q) (dist 0) (elim t [ true ↦ dist weight | false ↦ weight_among s r p q ]))) (sym e)

    both_ways : with_way n (back_of s r) weight (with_way n (forth_of s r) weight before) p q ≡ after p q
    unfolding with_way leads
    both_ways = go (leads_by (forth_of s r) p q) (leads_by (back_of s r) p q) refl refl
      where
        go : (t u : Bool) → leads_by (forth_of s r) p q ≡ t → leads_by (back_of s r) p q ≡ u → cond u weight (cond t weight (before p q)) ≡ after p q
        go true true e f = led (or_l (leads_by (forth_of s r) p q) _ (rw e tt))
        go true false e f = led (or_l (leads_by (forth_of s r) p q) _ (rw e tt))
        go false true e f = led (or_r (leads_by (forth_of s r) p q) _ (rw f tt))
        go false false e f = not_led (ap₂ ◌||◌ e f)

  road_stored : way_put n (back_of s r) weight (way_put n (forth_of s r) weight (stage (weight_among s r) n 0)) ≡ stage (weight_among s (suc r)) n 0
  unfolding stage before after
  road_stored =
      let known : first_of s r < n = omega (arith, good.order, good.inside) in
      ap (way_put n (back_of s r) weight) (way_stored n (forth_of s r) weight before known good.inside)
      ∙ way_stored n (back_of s r) weight (with_way n (forth_of s r) weight before) good.inside known
      ∙ rows_ext _ after n n (λ p q _ _. both_ways p q)

  -- the way back leads from the second place to the first, and both are places of the sheet
  pub back_inside : (way : Way) → way ≡ back_of s r → (way.from < n) × (way.to < n)
  back_inside way e = rw e (good.inside, omega (arith, good.order, good.inside))

  -- the same of ways, a number and a list that were read
  pub road_put : (t : List ℕ) (forth back : Way) (w : ℕ) → forth ≡ forth_of s r → back ≡ back_of s r → w ≡ weight → t ≡ stage (weight_among s r) n 0
      → way_put n back w (way_put n forth w t) ≡ stage (weight_among s (r + 1)) n 0
  road_put t forth back w ef eb ew et = rw (ef, eb, ew, et, add-one r) road_stored
