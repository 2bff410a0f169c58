-- Every refusal of the check of a sheet has a number from 1 to 14 or 17, so the number 0 says that the sheet was accepted; and the check for those that ask for no
-- distance never refuses with 1. Which number a refusal can have is told by the laws of `Numbered`.
use mathlib.Core.Path.{◌≡◌}
use mathlib.Core.Logic.{⊎_elim}
use mathlib.Core.Bool.{Bool, true, ◌||◌}
use mathlib.Core.List.{List, [], ◌∷◌, ◌++◌}
use Prim.Native.Nat.{ℕ, zero, suc, ◌+◌, ◌*◌, ◌≤◌}
use native.Mathlib.Nat.{mul-le-mul}
use native.Mathlib.Omega.{arith}
use lib.Dec.{T, leb, eqb, leb→le, le→leb, lt→ltb}
use lib.ListN.{length}
use Rattle.words.specs.Word.{bits}
use Rattle.counting.proofs.Tests.{and_l, and_r, or_l, or_r, or_e}
use Rattle.formulas.specs.Formulas.{Extent, Line, line_in}
use Rattle.checks.specs.Limits.{most_places, most_lines, least_distances}
use Rattle.checks.specs.Checked.{Checked, refused, ◌>>=◌, between, word_at, is_kind}
use Rattle.checks.proofs.Tests.{in_limits}
use Rattle.checks.proofs.Numbered.{Numbered, accepts, refuses, some_number, required, passed, onward, chosen, either, bound, weakened, number_told}
use Rattle.codes.specs.Codes.{Code, constant, atom, unary, binary, unary_bounded, binary_bounded, unknown}
use Rattle.lines.specs.Lines.{line_at, lines_from}
use Rattle.codes.specs.Operators.{constant_at, bounds_at, operator_by, operator_at}
use Rattle.checks.specs.Heads.{is_wide, places_of, wide_counted}
use Rattle.sheet.specs.Layout.{Sizes, Layout, sample_count, sizes_of, narrow_checked, wide_checked, head_checked, samples_from, end_checked, checked, validated}
use Rattle.roads.specs.Roads.{road_at, road_checked, roads_from}

-- the numbers of the check, and without the one of too few distances
abbrev pub any_number : ℕ → Bool
any_number k = between 1 14 k || eqb k 17

abbrev not_one : ℕ → Bool
not_one k = between 2 14 k || eqb k 17

not_one_any : (k : ℕ) → T (not_one k) → T (any_number k)
not_one_any k h = ⊎_elim
    (λ b. or_l (between 1 14 k) (eqb k 17) (in_limits 1 14 k (omega (arith, leb→le 2 k (and_l (leb 2 k) (leb k 14) b))) (leb→le k 14 (and_r (leb 2 k) (leb k 14) b))))
    (or_r (between 1 14 k) (eqb k 17))
    (or_e (between 2 14 k) (eqb k 17) h)

not_zero : (k : ℕ) → T (any_number k) → T (some_number k)
not_zero zero h = h
not_zero (suc k) h = lt→ltb 0 (suc k) (omega arith)

module _ (s : List ℕ) where
  head_numbered : (distances : ℕ) → Numbered any_number (head_checked s distances)
  unfolding head_checked narrow_checked wide_checked
  head_numbered distances = either (is_wide s) _ _ (λ _. search (required, accepts)) (λ _. search (required, accepts))

  -- the places of a wide sheet whose first word passes have no more distances
  enough : is_wide s ≡ true → T (wide_counted s) → T (leb ((sizes_of s).places * (sizes_of s).places) (most_places * most_places))
  unfolding wide_counted sizes_of places_of
  enough wide counted =
      let n : ℕ = bits 0 16 (word_at s 0) in
      let most : n ≤ most_places = leb→le n most_places (and_r (leb 1 n) (leb n most_places) (and_l (between 1 most_places n) _ counted)) in
      rw wide (le→leb (n * n) (most_places * most_places) (mul-le-mul most most))

  head_validated : Numbered not_one (head_checked s (most_places * most_places))
  unfolding head_checked narrow_checked wide_checked
  head_validated = either (is_wide s) _ _
      (λ wide. onward (wide_counted s) 17 0 _ tt (λ counted. let some = enough wide counted in search (required, passed, accepts)))
      (λ _. passed (leb least_distances (most_places * most_places)) 1 0 _ tt (search (required, accepts)))

  constant_numbered : (at : ℕ) → Numbered not_one (constant_at s at)
  unfolding constant_at
  constant_numbered at = search (required, accepts)

  bounds_numbered : (at : ℕ) → Numbered not_one (bounds_at s at)
  unfolding bounds_at
  bounds_numbered at = search (required, accepts)

  operator_numbered : (code : Code) (at left right v lines : ℕ) → Numbered not_one (operator_by s code at left right v lines)
  operator_numbered (constant o) at left right v lines = search (required, accepts)
  operator_numbered (atom o) at left right v lines = search (required, accepts, bound, constant_numbered)
  operator_numbered (unary o) at left right v lines = search (required, accepts)
  operator_numbered (binary o) at left right v lines = search (required, accepts)
  operator_numbered (unary_bounded o) at left right v lines = search (required, accepts, bound, bounds_numbered)
  operator_numbered (binary_bounded o) at left right v lines = search (required, accepts, bound, bounds_numbered)
  operator_numbered unknown at left right v lines = refuses tt

  line_numbered : (v T lines : ℕ) (extents : ℕ → Extent) (at : ℕ) → Numbered not_one (line_at s v T lines extents at)
  unfolding line_at operator_at
  line_numbered v T lines extents at = search (required, accepts, bound, operator_numbered)

  lines_numbered : (v T room : ℕ) (lines : List Line) (at : ℕ) → Numbered not_one (lines_from s v T room lines at)
  unfolding lines_from
  lines_numbered v T zero lines at = search (required, accepts)
  lines_numbered v T (suc room) lines at =
      let next = lines_numbered v T room in
      chosen (is_kind 5 s at) _ _ (bound _ _ (line_numbered v T (length lines) (λ i. (line_in lines i).extent) at) (λ read. next (lines ++ (read.0 ∷ [])) read.1)) (search (required, accepts))

  samples_numbered : (count at : ℕ) → Numbered not_one (samples_from s count at)
  unfolding samples_from
  samples_numbered zero at = accepts
  samples_numbered (suc count) at = let next = samples_numbered count (at + 1) in search (required)

  road_numbered : (n at last : ℕ) → Numbered not_one (road_checked s n at last)
  unfolding road_checked
  road_numbered n at last = search (required, accepts)

  roads_numbered : (n words r last : ℕ) → Numbered not_one (roads_from s n words r last)
  unfolding roads_from
  roads_numbered n zero r last = accepts
  roads_numbered n (suc words) r last =
      let next = roads_numbered n words (suc r) in
      chosen (is_kind 2 s (road_at (is_wide s) r)) _ _ (bound _ _ (road_numbered n (road_at (is_wide s) r) last) next) accepts

  end_numbered : (at : ℕ) (L : Layout) → Numbered not_one (end_checked s at L)
  unfolding end_checked
  end_numbered at L = search (required, accepts)

  abbrev after_head : Sizes → Checked Layout
  after_head sizes = do
    roads ← roads_from s sizes.places (length s) 0 0
    lines_at ← samples_from s (sample_count sizes) (road_at (is_wide s) roads)
    found ← lines_from s sizes.signals sizes.samples most_lines [] lines_at
    end_checked s found.1 (record { sizes = sizes; roads = roads; lines = found.0 })

  after_numbered : (sizes : Sizes) → Numbered not_one (after_head sizes)
  after_numbered sizes = search (bound, roads_numbered, samples_numbered, lines_numbered, end_numbered) depth 8

  pub check_numbered : (distances : ℕ) → Numbered any_number (checked s distances)
  unfolding checked
  check_numbered distances = bound (head_checked s distances) after_head (head_numbered distances) (λ sizes. weakened not_one_any (after_numbered sizes))

  validated_not_1 : Numbered not_one (validated s)
  unfolding checked validated
  validated_not_1 = bound (head_checked s (most_places * most_places)) after_head head_validated after_numbered

  -- those who ask for no distance are never told of too few
  pub never_refused_1 : (place : ℕ) → validated s ≡ refused 1 place → ⊥
  never_refused_1 place e = number_told validated_not_1 e

  -- so a tool that begins with this check has told no 0 there
  pub validated_numbered : Numbered some_number (validated s)
  validated_numbered = weakened (λ k h. not_zero k (not_one_any k h)) validated_not_1
