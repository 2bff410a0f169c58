-- A sheet is laid out back: from what was made of it, or from itself, the words of its own layout are its own words.
use mathlib.Core.Path.{◌≡◌, refl, sym, ap, ◌∙◌}
use mathlib.Core.Bool.{Bool}
use mathlib.Core.List.{List}
use Prim.Native.Nat.{ℕ, ◌+◌, ◌-◌, ◌/◌, ◌%◌, ◌<◌, ◌≤◌, zero-le}
use native.Mathlib.Omega.{arith}
use native.Mathlib.Decide.{dec_lt}
use lib.ListN.{length, get_or-append}
use lib.Seq.{ext_get_or}
use Rattle.words.specs.Word.{word_of}
use Rattle.checks.specs.Checked.{word_at}
use Rattle.checks.specs.Heads.{head_words, most_of, is_wide, head_for}
use Rattle.checks.proofs.ReadBack.{head_length}
use Rattle.roads.specs.Roads.{road_at, weight_at, spare_bits}
use Rattle.roads.proofs.AcceptedRoads.{spare_zero, each_road}
use Rattle.sheet.specs.Layout.{Layout}
use Rattle.sheet.proofs.Whole.{AcceptedSheet}
use Rattle.sheet.proofs.HeadWords.{head_words_lem}
use Rattle.conversion.specs.Relaid.{laid_out, relaid}
use Rattle.conversion.proofs.Words.{many, relaid_length, front, road_word, weight_word, unmoved_word, end_word}
use Rattle.conversion.proofs.Road.{SaysSame, says_same, laid_out_back}
use Rattle.conversion.proofs.Accepted.{layout_made}

module _ (s : List ℕ) (d : ℕ) (L : Layout) (sheet : AcceptedSheet s d L) where
  -- what Y has to have of s
  record Holds (Y : List ℕ) : Type 0 where
    there : road_at (is_wide Y) (L.roads) < length Y
    as_many : length Y - 1 - road_at (is_wide Y) (L.roads) ≡ length s - 1 - road_at (is_wide s) (L.roads)
    road : (r : ℕ) → r < L.roads → laid_out (is_wide Y) (is_wide s) (word_at Y (road_at (is_wide Y) r)) ≡ word_at s (road_at (is_wide s) r)
    weight : (r : ℕ) → r < L.roads → word_at Y (weight_at (is_wide Y) r) ≡ word_at s (weight_at (is_wide s) r)
    rest : (i : ℕ) → i < length s - 1 - road_at (is_wide s) (L.roads) → word_at Y (road_at (is_wide Y) (L.roads) + i) ≡ word_at s (road_at (is_wide s) (L.roads) + i)

  begins : road_at (is_wide s) (L.roads) < length s
  begins = omega (arith, sheet.table_there)

  module _ (Y : List ℕ) (holds : Holds Y) where
    abbrev made : List ℕ
    made = relaid (is_wide s) Y L

    length_back : length made ≡ length s
    length_back = relaid_length (is_wide s) Y L holds.there ∙ omega (arith, holds.as_many, begins)

    head_back : (i : ℕ) → i < head_words (is_wide s) → word_at made i ≡ word_at s i
    head_back i h =
        ap (λ w. word_at w i) (front (is_wide s) Y L holds.there)
        ∙ get_or-append (head_for 1 (is_wide s) (L.sizes.places) (L.sizes.signals) (L.sizes.samples)) _ 0 i (omega (arith, head_length 1 (is_wide s) (L.sizes.places) (L.sizes.signals) (L.sizes.samples)))
        ∙ sym (head_words_lem s d sheet.head i h)

    road_back : (r j : ℕ) → r < L.roads → j < 2 → word_at made (road_at (is_wide s) r + j) ≡ word_at s (road_at (is_wide s) r + j)
    road_back r j h k = go (dec_lt j 1)
      where
        go : Dec (j < 1) → word_at made (road_at (is_wide s) r + j) ≡ word_at s (road_at (is_wide s) r + j)
        go (yes l) = let e : road_at (is_wide s) r + j ≡ road_at (is_wide s) r = omega arith in rw e (road_word (is_wide s) Y L holds.there r h ∙ holds.road r h)
        go (no l) = let e : road_at (is_wide s) r + j ≡ weight_at (is_wide s) r = omega arith in rw e (weight_word (is_wide s) Y L holds.there r h ∙ holds.weight r h)

    rest_back : (i : ℕ) → i < length s - 1 - road_at (is_wide s) (L.roads) → word_at made (road_at (is_wide s) (L.roads) + i) ≡ word_at s (road_at (is_wide s) (L.roads) + i)
    rest_back i h = unmoved_word (is_wide s) Y L holds.there i (omega (arith, holds.as_many)) ∙ holds.rest i h

    end_back : word_at made (length s - 1) ≡ word_at s (length s - 1)
    end_back =
        let at : road_at (is_wide s) (L.roads) + many (is_wide s) Y L holds.there ≡ length s - 1 = omega (arith, holds.as_many, begins) in
        ap (word_at made) (sym at) ∙ end_word (is_wide s) Y L holds.there ∙ ap (word_of 15) at ∙ sym sheet.last

    each_back : (i : ℕ) → i < length s → word_at made i ≡ word_at s i
    each_back i h = by_head (dec_lt i (head_words (is_wide s)))
      where
        by_end : (head_words (is_wide s) ≤ i) → (road_at (is_wide s) (L.roads) ≤ i) → Dec (i < length s - 1) → word_at made i ≡ word_at s i
        by_end after behind (yes l) =
            let e : i ≡ road_at (is_wide s) (L.roads) + (i - road_at (is_wide s) (L.roads)) = omega arith in
            rw e (rest_back (i - road_at (is_wide s) (L.roads)) (omega arith))
        by_end after behind (no l) = let e : i ≡ length s - 1 = omega arith in rw e end_back

        by_roads : (head_words (is_wide s) ≤ i) → Dec (i < road_at (is_wide s) (L.roads)) → word_at made i ≡ word_at s i
        by_roads after (yes l) =
            let k : ℕ = i - head_words (is_wide s) in
            let e : i ≡ road_at (is_wide s) (k / 2) + k % 2 = omega arith in
            rw e (road_back (k / 2) (k % 2) (omega arith) (omega arith))
        by_roads after (no l) = by_end after (omega arith) (dec_lt i (length s - 1))

        by_head : Dec (i < head_words (is_wide s)) → word_at made i ≡ word_at s i
        by_head (yes l) = head_back i l
        by_head (no l) = by_roads (omega arith) (dec_lt i (road_at (is_wide s) (L.roads)))

    laid_back : relaid (is_wide s) Y L ≡ s
    laid_back = ext_get_or 0 made s length_back (λ i h. each_back i (omega (arith, length_back)))

  -- ---- from itself
  spare : (r : ℕ) → r < L.roads → spare_bits (is_wide s) (word_at s (road_at (is_wide s) r)) ≡ 0
  spare r h = each_road s (L.sizes.places) (λ r. spare_bits (is_wide s) (word_at s (road_at (is_wide s) r)) ≡ 0) (λ r last pair kind passed. spare_zero s (L.sizes.places) passed) (length s) 0 0 (L.roads) sheet.roads r zero-le h

  pub stays : relaid (is_wide s) s L ≡ s
  stays = laid_back s (record {
    there = begins;
    as_many = refl;
    road = λ r h. laid_out_back (is_wide s) (word_at s (road_at (is_wide s) r)) (spare r h);
    weight = λ r h. refl;
    rest = λ i h. refl;
  })

  -- ---- from what was made of it
  module _ (to : Bool) (few : L.sizes.places ≤ most_of to) where
    passed_says : (r : ℕ) → r < L.roads → SaysSame (is_wide s) to (word_at s (road_at (is_wide s) r)) (laid_out (is_wide s) to (word_at s (road_at (is_wide s) r)))
    passed_says r h = each_road s (L.sizes.places) (λ r. SaysSame (is_wide s) to (word_at s (road_at (is_wide s) r)) (laid_out (is_wide s) to (word_at s (road_at (is_wide s) r))))
        (λ r last pair kind passed. says_same (is_wide s) to (word_at s (road_at (is_wide s) r)) passed.order (omega (arith, passed.inside, few)))
        (length s) 0 0 (L.roads) sheet.roads r zero-le h

    -- the words of a road in both
    pub road_says : (r : ℕ) → r < L.roads → SaysSame (is_wide s) to (word_at s (road_at (is_wide s) r)) (word_at (relaid to s L) (road_at to r))
    road_says r h = rw (road_word to s L begins r h) (passed_says r h)

    road_again : (r : ℕ) → r < L.roads → laid_out to (is_wide s) (word_at (relaid to s L) (road_at to r)) ≡ word_at s (road_at (is_wide s) r)
    road_again r h =
        let same = road_says r h in
        rw (same.above, same.first, same.second) (laid_out_back (is_wide s) (word_at s (road_at (is_wide s) r)) (spare r h))

    pub back : relaid (is_wide s) (relaid to s L) L ≡ s
    back =
        let wide : is_wide (relaid to s L) ≡ to = layout_made to s d L sheet few in
        laid_back (relaid to s L) (record {
          there = rw wide (omega (arith, relaid_length to s L begins));
          as_many = rw wide (omega (arith, relaid_length to s L begins));
          road = λ r h. rw wide (road_again r h);
          weight = λ r h. rw wide (weight_word to s L begins r h);
          rest = λ i h. rw wide (unmoved_word to s L begins i h);
        })
