-- The value of a line is its operator's value on the earlier lines: what is known of them does not change when lines are added.
use mathlib.Core.Path.{◌≡◌, refl, ap, ◌∙◌}
use mathlib.Core.List.{List, [], ◌∷◌, ◌++◌}
use Prim.Native.Nat.{ℕ, zero, suc, ◌+◌, ◌<◌}
use native.Mathlib.Nat.{not-suc-le-zero, le_of_suc-le-suc}
use native.Mathlib.Omega.{arith}
use lib.ListN.{length, get_or, length-append, get_or-append}
use lib.Seq.{get_or_at}
use Rattle.network.specs.Network.{Network}
use Rattle.formulas.specs.Formulas.{Line, line_in, Recording}
use Rattle.logic.specs.Table.{Reading, Signal, ever_true, value, values_after}

module _ (R : Reading) (N : Network) (x : Recording) where
  -- the value of a line after what is known
  abbrev next : List (Signal R) → Line → Signal R
  next known line = value R N x (λ i. get_or known i (ever_true R)) line.operator

  known_kept : (lines : List Line) (known : List (Signal R)) (i : ℕ) → i < length known
      → get_or (values_after R N x known lines) i (ever_true R) ≡ get_or known i (ever_true R)
  unfolding values_after
  known_kept [] known i h = refl
  known_kept (line ∷ lines) known i h =
      let longer : List (Signal R) = known ++ (next known line ∷ []) in
      known_kept lines longer i (omega (arith, length-append known (next known line ∷ [])))
      ∙ get_or-append known (next known line ∷ []) (ever_true R) i h

  -- the values before line k
  pub before : (lines : List Line) (known : List (Signal R)) (k : ℕ) → k < length lines
      → (done : List (Signal R)) × (length done ≡ length known + k)
      × (get_or (values_after R N x known lines) (length known + k) (ever_true R) ≡ next done (line_in lines k))
      × ((i : ℕ) → i < length done → get_or (values_after R N x known lines) i (ever_true R) ≡ get_or done i (ever_true R))
  unfolding values_after
  before [] known k h = absurd (not-suc-le-zero h)
  before (line ∷ lines) known zero h =
      let longer : List (Signal R) = known ++ (next known line ∷ []) in
      let l : length longer ≡ length known + 1 = length-append known (next known line ∷ []) in
      let z : length known + 0 ≡ length known = omega arith in (
        known,
        omega arith,
        ap (λ (i : ℕ). get_or (values_after R N x longer lines) i (ever_true R)) z
            ∙ known_kept lines longer (length known) (omega arith) ∙ get_or_at known (next known line) [] (ever_true R) (length known) refl,
        λ i b. known_kept (line ∷ lines) known i b,
      )
  before (line ∷ lines) known (suc k) h =
      let longer : List (Signal R) = known ++ (next known line ∷ []) in
      let l : length longer ≡ length known + 1 = length-append known (next known line ∷ []) in
      let (done, d, here, kept) = before lines longer k (le_of_suc-le-suc h) in
      let z : length known + suc k ≡ length longer + k = omega arith in
      (done, omega arith, ap (λ (i : ℕ). get_or (values_after R N x longer lines) i (ever_true R)) z ∙ here, kept)
