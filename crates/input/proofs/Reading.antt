-- What stands at the start of a buffer after one read more: what the reads before gave, and then what this one gave; a read that fails gives nothing.
use Rattle.std.proofs.Common.{◌≡◌, ℕ, ◌+◌, ◌-◌, ◌≤◌, List, ◌++◌, arith, length, take, slice_range, sym, ap, ◌∙◌, subst, le_refl, drop_at, length-take-le}
use Rattle.std.specs.Prelude.{Option, Result, Ok, Err, IfErr}
use Rattle.std.specs.Io.KnownBytes.{Consumes, Keeps}
use Rattle.std.proofs.KnownBytes.{Consumes-trans, Consumes-kept}
use Rattle.std.proofs.lemmas.Slice.{take-put_mid_below}
use Rattle.input.specs.Reading.{HeldAtStart}
use borrow.Rule.Slice.PartMut.{put_mid, post_of}
use lib.Seq.{take-add, take-append-le}

-- up to `b`, new bytes are the old ones up to `a` and what stands after these
take_split : (a b : ℕ) (old new : List ℕ) → a ≤ b → take a new ≡ take a old → take a old ++ slice_range new a b ≡ take b new
take_split a b old new h front =
    let same : a + (b - a) ≡ b = omega arith in
    ap (λ l. l ++ slice_range new a b) (sym front) ∙ sym (take-add a (b - a) new) ∙ ap (λ n. take n new) same

-- what was put behind `a` stands there
slice_range-put_mid : (a k n : ℕ) (xs ys : List ℕ) → a ≤ length xs → n ≤ length ys → slice_range (put_mid a k xs ys) a (a + n) ≡ take n ys
slice_range-put_mid a k n xs ys within fits =
    let same : (a + n) - a ≡ n = omega arith in
    let after = post_of a k xs in
    ap (take ((a + n) - a)) (drop_at (take a xs) (ys ++ after) a (length-take-le a xs within)) ∙ ap (λ m. take m (ys ++ after)) same ∙ take-append-le n ys after fits

told_of_any : {A E : Type 0} (r : Result A E) (P : Type 0) → P → IfErr r (λ _. P)
told_of_any (Ok a) P p = tt
told_of_any (Err e) P p = p

-- `done` bytes of a buffer had been read, and a read was made into the room behind them
module _ (buf got : List ℕ) (done : ℕ) (within : done ≤ length buf) where
  abbrev left : List ℕ
  left = put_mid done (length buf - done) buf got

  front : take done left ≡ take done buf
  front = take-put_mid_below _ _ _ _ _ (le_refl _) within

  pub read_more : (first before after : Option (List ℕ)) (n : ℕ) → n ≤ length got → Consumes first before (take done buf) → Consumes before after (take n got) → Consumes first after (take (done + n) left)
  read_more first before after n fits read gave =
      let joined = take_split done (done + n) buf left (omega arith) front in
      subst (Consumes first after) (ap (λ l. take done buf ++ l) (sym (slice_range-put_mid done (length buf - done) n buf got within fits)) ∙ joined) (Consumes-trans _ _ _ _ _ read gave)

  pub read_failed : {A E : Type 0} (r : Result A E) (first before after : Option (List ℕ)) → done ≤ length left → Consumes first before (take done buf) → Keeps before after
      → IfErr r (λ _. HeldAtStart first after left)
  read_failed r first before after inside read kept =
      told_of_any r (HeldAtStart first after left) (record { count = done; within = inside; bytes = Consumes-kept _ _ _ _ (subst (Consumes first before) (sym front) read) kept })
