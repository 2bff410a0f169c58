-- Where each word of a sheet stands that is laid out anew: the head's words, the two of each road, the unmoved ones and the end.
use mathlib.Core.Path.{◌≡◌, refl, sym, ap, ◌∙◌}
use mathlib.Core.Bool.{Bool}
use mathlib.Core.List.{List, [], ◌∷◌, ◌++◌, append_assoc}
use Prim.Native.Nat.{ℕ, ◌+◌, ◌-◌, ◌*◌, ◌<◌}
use native.Mathlib.Omega.{arith}
use lib.ListN.{length, get_or, drop, length-append, length-drop, get_or-append}
use lib.Seq.{length-take-le, get_or-append-add, get_or_at, get_or-take, get_or-drop}
use Rattle.words.specs.Word.{word_of}
use Rattle.words.specs.Rows.{concat}
use Rattle.words.proofs.Concat.{concat-length, concat_at}
use Rattle.checks.specs.Checked.{word_at}
use Rattle.checks.specs.Heads.{head_words, is_wide, head_for}
use Rattle.checks.proofs.ReadBack.{head_length}
use Rattle.roads.specs.Roads.{road_at, weight_at}
use Rattle.sheet.specs.Layout.{Layout}
use Rattle.conversion.specs.Relaid.{laid_out, road_relaid, unmoved, before_end, relaid}

-- two words for each road
module _ (to : Bool) (s : List ℕ) where
  two_words : (r : ℕ) → length (road_relaid to s r) ≡ 2
  unfolding road_relaid
  two_words r = refl

  pub roads_length : (r : ℕ) → length (concat (road_relaid to s) r) ≡ 2 * r
  roads_length = concat-length (road_relaid to s) (λ r. 2 * r) refl (λ r. omega (arith, two_words r))

module _ (to : Bool) (s : List ℕ) (L : Layout) (inside : road_at (is_wide s) (L.roads) < length s) where
  abbrev head : List ℕ
  head = head_for 1 to (L.sizes.places) (L.sizes.signals) (L.sizes.samples)

  abbrev roads : List ℕ
  roads = concat (road_relaid to s) (L.roads)

  -- how many words are not moved
  abbrev pub many : ℕ
  many = length s - 1 - road_at (is_wide s) (L.roads)

  pub unmoved_length : length (unmoved to s L) ≡ many
  unmoved_length = length-take-le many (drop (road_at (is_wide s) (L.roads)) s) (omega (arith, length-drop (road_at (is_wide s) (L.roads)) s))

  pub before_length : length (before_end to s L) ≡ road_at to (L.roads) + many
  before_length =
      omega (arith, length-append head (roads ++ unmoved to s L), length-append roads (unmoved to s L), head_length 1 to (L.sizes.places) (L.sizes.signals) (L.sizes.samples), roads_length to s (L.roads), unmoved_length)

  pub relaid_length : length (relaid to s L) ≡ road_at to (L.roads) + many + 1
  unfolding relaid
  relaid_length = omega (arith, length-append (before_end to s L) (word_of 15 (length (before_end to s L)) ∷ []), before_length)

  -- the words before the end
  early : (i : ℕ) → i < road_at to (L.roads) + many → word_at (relaid to s L) i ≡ get_or (before_end to s L) i 0
  unfolding relaid
  early i h = get_or-append (before_end to s L) _ 0 i (omega (arith, before_length))

  -- what follows the head
  behind : (j : ℕ) → head_words to + j < road_at to (L.roads) + many → word_at (relaid to s L) (head_words to + j) ≡ get_or (roads ++ unmoved to s L) j 0
  behind j h =
      early (head_words to + j) h
      ∙ ap (λ k. get_or (before_end to s L) (k + j) 0) (sym (head_length 1 to (L.sizes.places) (L.sizes.signals) (L.sizes.samples)))
      ∙ get_or-append-add head (roads ++ unmoved to s L) j 0

  -- the head comes first
  pub front : relaid to s L ≡ head ++ (roads ++ unmoved to s L ++ (word_of 15 (length (before_end to s L)) ∷ []))
  unfolding relaid
  front = append_assoc head (roads ++ unmoved to s L) (word_of 15 (length (before_end to s L)) ∷ [])

  among_roads : (r j : ℕ) → r < L.roads → j < 2 → word_at (relaid to s L) (head_words to + (2 * r + j)) ≡ get_or (road_relaid to s r) j 0
  among_roads r j h k =
      behind (2 * r + j) (omega arith)
      ∙ get_or-append roads (unmoved to s L) 0 (2 * r + j) (omega (arith, roads_length to s (L.roads)))
      ∙ concat_at (road_relaid to s) (λ q. 2 * q) refl (λ q. omega (arith, two_words to s q)) (L.roads) r j 0 h (omega (arith, two_words to s r))

  pub road_word : (r : ℕ) → r < L.roads
      → word_at (relaid to s L) (road_at to r) ≡ laid_out (is_wide s) to (word_at s (road_at (is_wide s) r))
  unfolding road_relaid
  road_word r h =
      let index : road_at to r ≡ head_words to + (2 * r + 0) = omega arith in
      ap (word_at (relaid to s L)) index ∙ among_roads r 0 h (omega arith)

  pub weight_word : (r : ℕ) → r < L.roads → word_at (relaid to s L) (weight_at to r) ≡ word_at s (weight_at (is_wide s) r)
  unfolding road_relaid
  weight_word r h =
      let index : weight_at to r ≡ head_words to + (2 * r + 1) = omega arith in
      ap (word_at (relaid to s L)) index ∙ among_roads r 1 h (omega arith)

  pub unmoved_word : (i : ℕ) → i < many → word_at (relaid to s L) (road_at to (L.roads) + i) ≡ word_at s (road_at (is_wide s) (L.roads) + i)
  unmoved_word i h =
      let index : road_at to (L.roads) + i ≡ head_words to + (2 * L.roads + i) = omega arith in
      ap (word_at (relaid to s L)) index ∙ behind (2 * L.roads + i) (omega arith)
      ∙ ap (λ k. get_or (roads ++ unmoved to s L) (k + i) 0) (sym (roads_length to s (L.roads)))
      ∙ get_or-append-add roads (unmoved to s L) i 0
      ∙ get_or-take many (drop (road_at (is_wide s) (L.roads)) s) i 0 h
      ∙ get_or-drop (road_at (is_wide s) (L.roads)) s i 0

  pub end_word : word_at (relaid to s L) (road_at to (L.roads) + many) ≡ word_of 15 (road_at to (L.roads) + many)
  unfolding relaid
  end_word = get_or_at (before_end to s L) _ [] 0 (road_at to (L.roads) + many) before_length ∙ ap (word_of 15) before_length
