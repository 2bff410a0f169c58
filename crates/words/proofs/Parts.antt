-- A part of a list from an index on that was lent and has come back.
use Prim.Native.Nat.{ℕ, ◌+◌, ◌-◌, ◌≤◌}
use mathlib.Core.Path.{◌≡◌, sym, ap, ◌∙◌}
use mathlib.Core.List.{List, [], ◌++◌, append-nil, append_assoc}
use native.Mathlib.Omega.{arith}
use lib.ListN.{length, take, drop, length-drop, drop_of_length-le}
use lib.Seq.{take_all, drop-drop}
use borrow.Rule.Slice.PartMut.{put_mid}
use Rattle.words.specs.Rows.{put}

pub tail_list : (s : List ℕ) (n : ℕ) → n ≤ length s → take (length s - n) (drop n s) ≡ drop n s
tail_list s n h = take_all (length s - n) (drop n s) (simp length-drop (omega arith))

pub tail_back : (s v : List ℕ) (n : ℕ) → n ≤ length s → put_mid n (length s - n) s v ≡ take n s ++ v
tail_back s v n h =
    let e : drop (length s - n) (drop n s) ≡ [] = drop_of_length-le (drop n s) {i = length s - n} (simp length-drop (omega arith)) in
    rw e (simp append-nil)

-- a part that was filled anew
pub put_back : (s v : List ℕ) (i k : ℕ) → k ≡ length v → put_mid i k s v ≡ put s i v
unfolding put
put_back s v i k e = ap (λ (n : ℕ). put_mid i n s v) e ∙ ap (λ (t : List ℕ). take i s ++ (v ++ t)) (drop-drop (length v) i s) ∙ sym (append_assoc (take i s) v (drop (i + length v) s))

-- .. anew by a list that it is equal to
pub put_back_as : (s v w : List ℕ) (i k : ℕ) → k ≡ length w → v ≡ w → put_mid i k s v ≡ put s i w
put_back_as s v w i k e h = put_back s v i k (e ∙ ap length (sym h)) ∙ ap (put s i) h
