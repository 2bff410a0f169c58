-- A list put at the front of zeros has zeros behind it, up to their length.
use Prim.Native.Nat.{ℕ, ◌+◌}
use mathlib.Core.Path.{◌≡◌, ap, ◌∙◌}
use mathlib.Core.List.{List, ◌++◌}
use native.Mathlib.Omega.{arith}
use lib.ListN.{length, drop, replicate}
use Rattle.std.proofs.lemmas.List.{drop-replicate}
use Rattle.words.specs.Rows.{put, padded}

pub put_in_zeros : (size : ℕ) (v : List ℕ) → put (replicate size 0) 0 v ≡ padded v size
unfolding put
put_in_zeros size v =
    let front : 0 + length v ≡ length v = omega arith in
    ap (λ (t : List ℕ). v ++ t) (ap (λ (n : ℕ). drop n (replicate size 0)) front ∙ drop-replicate (length v) size 0)
