-- Roads without bits 27 and 26 are checked, and make the network, that they made before request M-106.
use Prim.Native.Nat.{ℕ, zero, suc, ◌<◌, ◌≤◌}
use mathlib.Core.Path.{◌≡◌, refl, sym, ap, ◌∙◌}
use mathlib.Core.Bool.{Bool, true, false, ◌&&◌, ◌||◌, and_comm}
use mathlib.Core.List.{List}
use native.Mathlib.Nat.{le_of_lt}
use native.Mathlib.Omega.{arith}
use borrow.Author.Tests.{eq-eqb}
use lib.Dec.{eqb}
use Rattle.words.specs.Word.{bits}
use Rattle.network.specs.Distance.{Distance, dist}
use Rattle.checks.specs.Checked.{Checked, accepted, ◌>>=◌, word_at, is_kind}
use Rattle.checks.specs.Heads.{is_wide}
use Rattle.checks.proofs.Tests.{kind_told}
use Rattle.counting.proofs.Tests.{holds}
use Rattle.roads.specs.Roads.{road_at, spare_bits, runs_forth, runs_back, GoodRoad, first_of, second_of, weight_of, leads, weight_among, network_of, road_checked, roads_from}
use Rattle.roads.specs.BothWays.{above_bits, NoneOneWay, road_before, roads_before, joins, weight_before, network_before}

-- ---- of a word without the two bits
module _ (w : ℕ) (none : bits 26 2 w ≡ 0) where
  forth_runs : runs_forth w ≡ true
  forth_runs = eq-eqb (bits 26 1 w) 0 (omega arith)

  back_runs : runs_back w ≡ true
  back_runs = eq-eqb (bits 27 1 w) 0 (omega arith)

  above_spare : (wide : Bool) → above_bits wide w ≡ spare_bits wide w
  above_spare true = omega arith
  above_spare false = omega arith

module _ (s : List ℕ) (none : NoneOneWay s) (n : ℕ) where
  -- ---- the check
  road_kept : (at last : ℕ) → is_kind 2 s at ≡ true → road_checked s n at last ≡ road_before s n at last
  unfolding road_checked
  road_kept at last kind = go (eqb (above_bits (is_wide s) (word_at s at)) 0) refl
    where
      same : above_bits (is_wide s) (word_at s at) ≡ spare_bits (is_wide s) (word_at s at)
      same = above_spare (word_at s at) (none at (kind_told 2 s at kind).1) (is_wide s)

      go : (t : Bool) → eqb (above_bits (is_wide s) (word_at s at)) 0 ≡ t → road_checked s n at last ≡ road_before s n at last
      go true e = rw e refl
      go false e = let f : eqb (spare_bits (is_wide s) (word_at s at)) 0 ≡ false = ap (λ b. eqb b 0) (sym same) ∙ e in simp (e, f)

  pub roads_kept : (words r last : ℕ) → roads_from s n words r last ≡ roads_before s n words r last
  unfolding roads_from roads_before
  roads_kept zero r last = refl
  roads_kept (suc words) r last = go (is_kind 2 s (road_at (is_wide s) r)) refl (λ pair. roads_kept words (suc r) pair)
    where
      go : (t : Bool) → is_kind 2 s (road_at (is_wide s) r) ≡ t → ((pair : ℕ) → roads_from s n words (suc r) pair ≡ roads_before s n words (suc r) pair)
          → ◌≡◌ {A = Checked ℕ}
          (elim t as (λ _. Checked ℕ) [ true ↦ road_checked s n (road_at (is_wide s) r) last >>= λ pair. roads_from s n words (suc r) pair | false ↦ accepted r ])
          (elim t as (λ _. Checked ℕ) [ true ↦ road_before s n (road_at (is_wide s) r) last >>= λ pair. roads_before s n words (suc r) pair | false ↦ accepted r ])
      go true kind onward = λ i. road_kept (road_at (is_wide s) r) last kind i >>= λ pair. onward pair i
      go false kind onward = refl

  -- ---- the network
  leads_kept : (r : ℕ) → GoodRoad s n r → (a b : ℕ) → leads s r a b ≡ joins s r a b
  unfolding leads
  leads_kept r good a b =
      let w : ℕ = word_at s (road_at (is_wide s) r) in
      let clear = none (road_at (is_wide s) r) (kind_told 2 s (road_at (is_wide s) r) (holds _ good.road)).1 in
      rw (forth_runs w clear, back_runs w clear) (ap (λ (t : Bool). (eqb (first_of s r) a && eqb (second_of s r) b) || t) (and_comm (eqb (second_of s r) a) (eqb (first_of s r) b)))

  weights_kept : (roads : ℕ) → ((r : ℕ) → r < roads → GoodRoad s n r) → (r : ℕ) → r ≤ roads → (a b : ℕ) → weight_among s r a b ≡ weight_before s r a b
  unfolding weight_among weight_before
  weights_kept roads good zero h a b = refl
  weights_kept roads good (suc r) h a b =
      let led = leads_kept r (good r h) a b in
      let others = weights_kept roads good r (le_of_lt h) a b in
      λ i. elim (led i) as (λ _. Distance) [ true ↦ dist (weight_of s r) | false ↦ others i ]

  pub network_kept : (roads : ℕ) → ((r : ℕ) → r < roads → GoodRoad s n r) → network_of s n roads ≡ network_before s n roads
  network_kept roads good = λ i. record { places = n; weight = λ a b. weights_kept roads good roads (omega arith) a b i }
