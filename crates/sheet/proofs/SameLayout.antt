-- Two sheets alike in every word but their samples are checked alike: accepted both, with the same layout, or refused both with the same number and place.
-- The check reads every other word alike, and of the samples it keeps only their count.
use mathlib.Core.Path.{◌≡◌, refl, sym, ap, ap₂, subst, ◌∙◌}
use mathlib.Core.Logic.{◌⊎◌, inl, ⊎_elim}
use mathlib.Core.Bool.{Bool, true, false, not, cond, ◌&&◌, and-false}
use mathlib.Core.List.{List, []}
use Prim.Native.Nat.{ℕ, zero, suc, ◌+◌}
use native.Mathlib.Omega.{arith}
use borrow.Author.Tests.{ne_eqb}
use lib.Dec.{T, eqb, ltb, leb, leb→le}
use lib.ListN.{length}
use lib.IntN.{ℤ}
use Rattle.words.specs.Word.{kind_of, payload_of, bits}
use Rattle.formulas.specs.Formulas.{Line}
use Rattle.checks.specs.Limits.{most_lines, least_distances}
use Rattle.checks.specs.Checked.{Checked, accepted, ◌>>=◌, between, word_at, is_kind}
use Rattle.lines.specs.Lines.{lines_from}
use Rattle.checks.specs.Heads.{is_wide, head_of, places_of, wide_counted, wide_followed}
use Rattle.sheet.specs.Layout.{Sizes, Layout, sizes_of, narrow_checked, wide_checked, head_checked, sample_count, samples_from, end_checked, checked}
use Rattle.roads.specs.Roads.{road_at, road_checked, roads_from}
use Rattle.sheet.specs.Alike.{BothSamples, AlikeButSamples}
use Rattle.counting.proofs.Tests.{and_l, fails}
use Rattle.counting.proofs.Lists.{each_at, each_length}
use Rattle.checks.proofs.Checks.{same_accepted, bind_accepted}
use Rattle.checks.proofs.Alike.{Alike, accept, SameUpTo, Same, require_alike, choice_alike, bind_alike, same_checks}
use Rattle.lines.proofs.Moved.{lines_move}
use Rattle.sheet.proofs.Accepted.{head_passed}
use Rattle.sheet.proofs.MovedSamples.{samples_move}

-- a line has words of other kinds than a sample's
not_four : (kind : ℕ) → T (between 5 8 kind) → T (not (eqb 4 kind))
not_four kind inside = rw (ne_eqb 4 kind (λ e. omega (arith, leb→le 5 kind (and_l (leb 5 kind) _ inside)))) tt

module _ (Related : ℤ → ℤ → Type 0) (X Y : List ℕ) (alike : AlikeButSamples Related X Y) where
  same_length : length X ≡ length Y
  same_length = each_length alike

  -- past the end no word stands in either
  pub words_alike : (i : ℕ) → (word_at X i ≡ word_at Y i) ⊎ BothSamples Related (word_at X i) (word_at Y i)
  words_alike i = each_at alike i 0 0 (inl refl)

  -- ---- words: their kinds are the same, and the words themselves where they are no samples
  kind_same : (k i : ℕ) → is_kind k X i ≡ is_kind k Y i
  unfolding is_kind
  kind_same k i = ⊎_elim
      (λ e. ap₂ (λ w n. ltb i n && eqb (kind_of w) k) e same_length)
      (λ n. ap₂ (λ m l. ltb i l && eqb m k) (n.first_sample.kind ∙ sym n.second_sample.kind) same_length)
      (words_alike i)

  spare_same : (i : ℕ) → eqb (bits 27 1 (word_at X i)) 0 ≡ eqb (bits 27 1 (word_at Y i)) 0
  spare_same i = ⊎_elim
      (λ e. ap (λ w. eqb (bits 27 1 w) 0) e)
      (λ n. ap (λ b. eqb b 0) (n.first_sample.spare ∙ sym n.second_sample.spare))
      (words_alike i)

  not_sample : (k i w n : ℕ) → T (not (eqb 4 k)) → kind_of w ≡ 4 → (ltb i n && eqb (kind_of w) k) ≡ false
  not_sample k i w n other e = rw (e, fails (eqb 4 k) other) (and-false (ltb i n))

  pub word_same : (k i : ℕ) → T (not (eqb 4 k)) → T (is_kind k Y i) → word_at X i ≡ word_at Y i
  unfolding is_kind
  word_same k i other h = ⊎_elim
      (λ e. e)
      (λ n. absurd (subst T (not_sample k i (word_at Y i) (length Y) other n.second_sample.kind) h))
      (words_alike i)

  test_same : (k i : ℕ) (f : ℕ → Bool) → T (not (eqb 4 k)) → (is_kind k X i && f (word_at X i)) ≡ (is_kind k Y i && f (word_at Y i))
  test_same k i f other = go (is_kind k Y i) (kind_same k i) (word_same k i other)
    where
      go : (t : Bool) → is_kind k X i ≡ t → (T t → word_at X i ≡ word_at Y i) → (is_kind k X i && f (word_at X i)) ≡ (t && f (word_at Y i))
      go true e h = rw (e, h tt) refl
      go false e h = rw e refl

  -- ---- the stages
  pub layout_same : is_wide X ≡ is_wide Y
  unfolding is_wide
  layout_same = kind_same 10 0

  narrow_same : (d : ℕ) → is_wide Y ≡ false → Same (narrow_checked X d) (narrow_checked Y d)
  unfolding narrow_checked sizes_of head_of places_of
  narrow_same d narrow = require_alike (leb least_distances d) (leb least_distances d) 1 0 0 _ _ refl refl (λ _.
      require_alike _ _ 2 0 0 _ _ (kind_same 1 0) refl (λ h. rw (layout_same, narrow, word_same 1 0 tt h) (search (require_alike, accept))))

  wide_first : is_wide Y ≡ true → word_at X 0 ≡ word_at Y 0
  unfolding is_wide
  wide_first e = word_same 10 0 tt (rw e tt)

  followed_same : wide_followed X 1 ≡ wide_followed Y 1
  unfolding wide_followed
  followed_same = test_same 1 1 (λ w. eqb (bits 20 8 w) 0) tt

  wide_head : T (wide_followed Y 1) → word_at X 1 ≡ word_at Y 1
  unfolding wide_followed
  wide_head h = word_same 1 1 tt (and_l (is_kind 1 Y 1) _ h)

  wide_same : (d : ℕ) → is_wide Y ≡ true → Same (wide_checked X d) (wide_checked Y d)
  unfolding wide_checked wide_counted sizes_of head_of places_of
  wide_same d wide = rw (layout_same, wide, wide_first wide) (require_alike (wide_counted Y) (wide_counted Y) 17 0 0 _ _ refl refl (λ _.
      require_alike _ _ 17 1 1 _ _ followed_same refl (λ h. rw (wide_head h) (search (require_alike, accept)))))

  head_same : (d : ℕ) → Same (head_checked X d) (head_checked Y d)
  unfolding head_checked
  head_same d = rw layout_same (go (is_wide Y) refl)
    where
      go : (wide : Bool) → is_wide Y ≡ wide → Same (cond wide (wide_checked X d) (narrow_checked X d)) (cond wide (wide_checked Y d) (narrow_checked Y d))
      go true e = wide_same d e
      go false e = narrow_same d e

  road_same : (n r last : ℕ) → T (is_kind 2 Y (road_at (is_wide Y) r))
      → Same (road_checked X n (road_at (is_wide X) r) last) (road_checked Y n (road_at (is_wide Y) r) last)
  unfolding road_checked
  road_same n r last h =
      let at : ℕ = road_at (is_wide Y) r in
      rw (layout_same, word_same 2 at tt h, test_same 3 (at + 1) (λ w. ltb 0 (payload_of w)) tt) (search (require_alike, accept))

  roads_same : (n words r last : ℕ) → Same (roads_from X n words r last) (roads_from Y n words r last)
  unfolding roads_from
  roads_same n zero r last = accept refl
  roads_same n (suc words) r last =
      choice_alike (is_kind 2 X (road_at (is_wide X) r)) (is_kind 2 Y (road_at (is_wide Y) r)) _ _ _ _ (rw layout_same (kind_same 2 (road_at (is_wide Y) r)))
      (λ h. bind_alike _ _ (road_same n r last h) (λ a b e. rw e (roads_same n words (suc r) b))) (accept refl)

  samples_same : (count at : ℕ) → Same (samples_from X count at) (samples_from Y count at)
  samples_same count at =
      samples_move X Y (λ i j. i ≡ j) (λ i j k e. ap (λ l. l + k) e) (λ i j e. rw e (kind_same 4 j)) (λ i j e _. rw e (spare_same j)) count at at refl

  lines_same : (v T room : ℕ) (lines : List Line) (at : ℕ)
      → Alike (λ p q. p ≡ q) (SameUpTo (λ p q. p ≡ q) (List Line)) (lines_from X v T room lines at) (lines_from Y v T room lines at)
  lines_same v T room lines at =
      lines_move X Y (λ i j. i ≡ j) (λ i j k e. ap (λ l. l + k) e) (λ kind i j _ e. rw e (kind_same kind j))
      (λ kind i j inside e h. rw e (word_same kind j (not_four kind inside) h)) v T room lines at at refl

  end_same : {A : Type 0} (at : ℕ) (found : A) → Same (end_checked X at found) (end_checked Y at found)
  unfolding end_checked
  end_same at found = rw (test_same 15 at (λ w. eqb (payload_of w) at) tt, same_length) (search (require_alike, accept))

  -- ---- the whole
  pub checked_alike : (d : ℕ) → checked X d ≡ checked Y d
  unfolding checked
  checked_alike d = same_checks
      (bind_alike _ _ (head_same d) (λ z sizes e. rw (e, same_length, layout_same)
      (bind_alike _ _ (roads_same sizes.places (length Y) 0 0) (λ q roads e. rw e
      (bind_alike _ _ (samples_same (sample_count sizes) (road_at (is_wide Y) roads)) (λ i begins e. rw e
      (bind_alike _ _ (lines_same sizes.signals sizes.samples most_lines [] begins) (λ a found e. rw (e.0, e.1) (end_same found.1 _)))))))))

-- so where both are accepted they have the same layout, whatever was lent to either: what is lent decides of the head alone
after_head : List ℕ → Sizes → Checked Layout
after_head s sizes = do
  roads ← roads_from s sizes.places (length s) 0 0
  lines_at ← samples_from s (sample_count sizes) (road_at (is_wide s) roads)
  found ← lines_from s sizes.signals sizes.samples most_lines [] lines_at
  end_checked s found.1 (record { sizes = sizes; roads = roads; lines = found.0 })

pub lent_otherwise : (s : List ℕ) (d e : ℕ) {L M : Layout} → checked s d ≡ accepted L → checked s e ≡ accepted M → L ≡ M
unfolding checked after_head
lent_otherwise s d e x y =
    let a = bind_accepted (head_checked s d) (after_head s) x in
    let b = bind_accepted (head_checked s e) (after_head s) y in
    same_accepted (sym a.2 ∙ ap (after_head s) (sym (head_passed s d a.1).0 ∙ (head_passed s e b.1).0) ∙ b.2)

pub same_layout : (Related : ℤ → ℤ → Type 0) (X Y : List ℕ) → AlikeButSamples Related X Y → (dx dy : ℕ) {L M : Layout}
    → checked X dx ≡ accepted L → checked Y dy ≡ accepted M → L ≡ M
same_layout Related X Y alike dx dy x y = lent_otherwise Y dx dy (sym (checked_alike Related X Y alike dx) ∙ x) y
