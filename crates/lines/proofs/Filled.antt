-- A list that grows up to the most lines, as the array that begins with it: what the laws of the walks say of an array filled up to a line, they say of it.
use Prim.Native.Nat.{ℕ, suc, ◌-◌, ◌<◌}
use mathlib.Core.List.{List, [], ◌∷◌, ◌++◌}
use mathlib.Core.Path.{◌≡◌, sym, ◌∙◌, ap}
use native.Mathlib.Omega.{arith}
use lib.ListN.{length, set, take, replicate, length-append}
use lib.Seq.{take-append_seam, set-append_seam}
use Rattle.std.proofs.Common.{append_assoc}
use Rattle.checks.specs.Limits.{most_lines}

module _ {A : Type 0} (none : A) (xs : List A) where
  -- the places behind it hold nothing
  abbrev pub filled : List A
  filled = xs ++ replicate (most_lines - length xs) none

  pub take_filled : take (length xs) filled ≡ xs
  take_filled = take-append_seam xs (replicate (most_lines - length xs) none)

pub set_filled : {A : Type 0} (none : A) (xs : List A) (x : A) → length xs < most_lines → set (filled none xs) (length xs) x ≡ filled none (xs ++ (x ∷ []))
set_filled none xs x short =
    let left : most_lines - length xs ≡ suc (most_lines - length (xs ++ (x ∷ []))) = omega (arith, length-append xs (x ∷ [])) in
    ap (λ n. set (xs ++ replicate n none) (length xs) x) left ∙ set-append_seam xs none (replicate (most_lines - length (xs ++ (x ∷ []))) none) x
    ∙ sym (append_assoc xs (x ∷ []) (replicate (most_lines - length (xs ++ (x ∷ []))) none))

-- ---- the same at a number that is how many there are

pub filled_front : {A : Type 0} (none : A) {xs ys : List A} {k : ℕ} → length xs ≡ k → ys ≡ xs → take k (filled none xs) ≡ ys
filled_front none {xs} count same = rw (← count) (take_filled none xs) ∙ sym same

pub filled_more : {A : Type 0} (none : A) (xs : List A) (x : A) {k : ℕ} → length xs ≡ k → k < most_lines → set (filled none xs) k x ≡ filled none (xs ++ (x ∷ []))
filled_more none xs x count short = rw (← count) (set_filled none xs x (omega arith))
