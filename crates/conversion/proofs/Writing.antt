-- What stands in the output while a sheet is laid out anew: the head, the two words of each road, the words that are not moved and the end, one after the other.
use mathlib.Core.Path.{◌≡◌, refl, sym, ap, ap₂, ◌∙◌}
use mathlib.Core.Bool.{Bool}
use mathlib.Core.List.{List, [], ◌∷◌, ◌++◌, append_assoc}
use Prim.Native.Nat.{ℕ, ◌+◌, ◌-◌, ◌*◌, ◌<◌, ◌^◌}
use native.Mathlib.Numerals.{add-one}
use native.Mathlib.Omega.{arith}
use lib.ListN.{length, set, take, drop, length-append, length-take, length-drop}
use Rattle.words.specs.Word.{word_of}
use Rattle.words.specs.Bytes.{words_of}
use Rattle.words.specs.Rows.{concat, put}
use Rattle.words.proofs.Words.{words_count, words_take, words_drop}
use Rattle.words.proofs.Puts.{put_nil, put-append, put_snoc, words_put}
use Rattle.checks.specs.Checked.{word_at}
use Rattle.checks.specs.Heads.{head_words, is_wide, head_for}
use Rattle.checks.proofs.ReadBack.{head_length}
use Rattle.roads.specs.Roads.{road_at, weight_at}
use Rattle.sheet.specs.declared.check.Layout as Code
use Rattle.conversion.specs.Relaid.{laid_out, road_relaid, unmoved, before_end, relaid}
use Rattle.conversion.specs.Lent.{spelled, roads_put, sheet_put, Ready}
use Rattle.conversion.proofs.Words.{roads_length, unmoved_length, before_length}

-- ---- the two words of a road behind those of the roads before it
module _ (w s : List ℕ) (to : Bool) where
  abbrev written : ℕ → List ℕ
  written r = concat (road_relaid to s) r

  written_more : (r : ℕ) → written r ++ road_relaid to s r ≡ written (r + 1)
  unfolding concat
  written_more r = rw (add-one r) refl

  road_put : (r a b : ℕ) → road_at to r + 1 < length w → a ≡ laid_out (is_wide s) to (word_at s (road_at (is_wide s) r)) → b ≡ word_at s (weight_at (is_wide s) r)
      → set (set (put w (head_words to) (written r)) (road_at to r) a) (road_at to r + 1) b ≡ put w (head_words to) (written (r + 1))
  unfolding road_relaid
  road_put r a b room first second =
      let v : List ℕ = written r in
      let here : road_at to r ≡ head_words to + length v = omega (arith, roads_length to s r) in
      let next : road_at to r + 1 ≡ head_words to + length (v ++ (a ∷ [])) = omega (arith, roads_length to s r, length-append v (a ∷ [])) in
      ap₂ (λ i j. set (set (put w (head_words to) v) i a) j b) here next
      ∙ ap (λ x. set x (head_words to + length (v ++ (a ∷ []))) b) (put_snoc w (head_words to) v a (omega (arith, roads_length to s r)))
      ∙ put_snoc w (head_words to) (v ++ (a ∷ [])) b (omega (arith, roads_length to s r, length-append v (a ∷ [])))
      ∙ ap (put w (head_words to)) (append_assoc v (a ∷ []) (b ∷ []) ∙ ap₂ (λ x y. v ++ (x ∷ y ∷ [])) first second ∙ written_more r)

-- no road is written yet
pub roads_none : (to : Bool) (sheet output : List ℕ) → words_of output ≡ roads_put to sheet 0 output
unfolding concat
roads_none to sheet output = sym (put_nil _ _)

-- one road more, by what the code reads and writes
pub roads_more : (to : Bool) (sheet output : List ℕ) (r : ℕ) {at behind w a b : ℕ} {wide : Bool} {before between after : List ℕ} → before ≡ roads_put to sheet r output
    → between ≡ set before behind a → after ≡ set between (behind + 1) b → road_at to r + 1 < length (words_of output) → wide ≡ is_wide (words_of sheet) → at ≡ road_at wide r → behind ≡ road_at to r
    → w ≡ word_at (words_of sheet) at → a ≡ laid_out wide to w → b ≡ word_at (words_of sheet) (at + 1) → after ≡ roads_put to sheet (r + 1) output
roads_more to sheet output r {at} {behind} {w} {a} {b} {wide} before first second room layout from there word first_word weight =
    let s = words_of sheet in
    let read : at ≡ road_at (is_wide s) r = from ∙ ap (λ t. road_at t r) layout in
    second ∙ ap (λ v. set v (behind + 1) b) first ∙ ap₂ (λ v i. set (set v i a) (i + 1) b) before there
    ∙ road_put (words_of output) s to r a b room (first_word ∙ ap₂ (λ t x. laid_out t to x) layout (word ∙ ap (word_at s) read)) (weight ∙ ap (λ i. word_at s (i + 1)) read)

-- ---- four parts one after the other
four_parts : (w h m u : List ℕ) (e i j k : ℕ) → i ≡ length h → j ≡ length h + length m → k ≡ length h + length m + length u → k < length w
    → set (put (put (put w 0 h) i m) j u) k e ≡ put w 0 (h ++ (m ++ u) ++ (e ∷ []))
four_parts w h m u e i j k hi hj hk room =
    let next : i ≡ 0 + length h = omega arith in
    let two : put (put w 0 h) i m ≡ put w 0 (h ++ m) = ap (λ n. put (put w 0 h) n m) next ∙ put-append w 0 h m (omega arith) in
    let at : j ≡ 0 + length (h ++ m) = omega (arith, length-append h m) in
    let three : put (put (put w 0 h) i m) j u ≡ put w 0 (h ++ (m ++ u)) = ap₂ (λ v n. put v n u) two at ∙ put-append w 0 (h ++ m) u (omega arith) ∙ ap (put w 0) (append_assoc h m u) in
    let end : k ≡ 0 + length (h ++ (m ++ u)) = omega (arith, length-append h (m ++ u), length-append m u) in
    ap₂ (λ v n. set v n e) three end ∙ put_snoc w 0 (h ++ (m ++ u)) e (omega (arith, end))

-- the part of the sheet that is copied: whole words
part_words : (b : List ℕ) (m n : ℕ) → words_of (take (m * 4 - n * 4) (drop (n * 4) b)) ≡ take (m - n) (drop n (words_of b))
part_words b m n =
    let e : m * 4 - n * 4 ≡ (m - n) * 4 = omega arith in
    ap (λ k. words_of (take k (drop (n * 4) b))) e ∙ words_take (drop (n * 4) b) (m - n) ∙ ap (take (m - n)) (words_drop b n)

-- ---- a whole sheet, by what the code writes
module _ (to : Bool) (sheet : List ℕ) (layout : Code.Layout) (output : List ℕ) (ready : Ready to sheet layout output) where
  abbrev s : List ℕ
  s = words_of sheet

  abbrev n : ℕ
  n = layout.recording

  abbrev head : ℕ → List ℕ
  head kind = head_for kind to layout.places layout.signals layout.samples

  abbrev copied : ℕ → List ℕ
  copied last = take (last * 4 - n * 4) (drop (n * 4) sheet)

  -- the words that are not moved, from the roads' end to the sheet's
  unmoved_put : (bytes after : List ℕ) {last behind : ℕ} → last ≡ length s - 1 → behind ≡ road_at to layout.roads → length bytes ≡ length output
      → after ≡ put bytes (behind * 4) (copied last) → words_of after ≡ put (words_of bytes) behind (unmoved to s (spelled layout))
  unmoved_put bytes after {last} {behind} ends at kept stored =
      let long : length (copied last) ≡ (last - n) * 4 = omega (arith, length-take (last * 4 - n * 4) (drop (n * 4) sheet), length-drop (n * 4) sheet, words_count sheet, ready.inside) in
      let words : words_of (copied last) ≡ unmoved to s (spelled layout) = part_words sheet last n ∙ ap₂ (λ k m. take (k - m) (drop m s)) ends ready.begins in
      ap words_of stored ∙ words_put bytes (copied last) behind (last - n) long (omega (arith, at, ends, kept, ready.inside, ready.room, words_count bytes, words_count output)) ∙ ap (put (words_of bytes) behind) words

  pub sheet_written : {kind last behind end word : ℕ} (headed roads copied_to after : List ℕ) → kind ≡ 1 → words_of headed ≡ put (words_of output) 0 (head kind) → length headed ≡ length output
      → words_of roads ≡ roads_put to sheet layout.roads headed → length roads ≡ length headed → last ≡ length s - 1 → behind ≡ road_at to layout.roads → end ≡ behind + (last - n)
      → copied_to ≡ put roads (behind * 4) (copied last) → word ≡ 15 * 2 ^ 28 + end → words_of after ≡ set (words_of copied_to) end word → words_of after ≡ sheet_put to sheet layout output
  unfolding relaid
  sheet_written {kind} {last} {behind} {end} {word} headed roads copied_to after one begun same written long ends at there stored told put_end =
      let u = unmoved to s (spelled layout) in
      let h = head 1 in
      let m = concat (road_relaid to s) layout.roads in
      let inside : road_at (is_wide s) layout.roads < length s = omega (arith, ready.begins, ready.inside) in
      let heads = head_length 1 to layout.places layout.signals layout.samples in
      let counted : end ≡ length (before_end to s (spelled layout)) = omega (arith, ready.begins, ready.inside, before_length to s (spelled layout) inside) in
      let front : words_of roads ≡ put (put (words_of output) 0 h) (head_words to) m = written ∙ ap (λ v. put v (head_words to) m) (begun ∙ ap (λ k. put (words_of output) 0 (head k)) one) in
      put_end ∙ ap₂ (λ v e. set v end e) (unmoved_put roads copied_to ends at (long ∙ same) stored ∙ ap (λ v. put v behind u) front) (told ∙ ap (λ k. 15 * 2 ^ 28 + k) counted)
      ∙ four_parts (words_of output) h m u (word_of 15 (length (before_end to s (spelled layout)))) (head_words to) behind end (sym heads)
      (omega (arith, heads, roads_length to s layout.roads))
      (omega (arith, ready.begins, heads, roads_length to s layout.roads, unmoved_length to s (spelled layout) inside))
      (omega (arith, ready.inside, ready.room))
