-- What the lines of an accepted sheet are: 1 to 64 of them, each with a sample and none beyond T, with constants of 27 bits; and each says what the code
-- of a line word says.
use mathlib.Core.Path.{◌≡◌, refl, sym, ap, ap₂, subst, ◌∙◌}
use mathlib.Core.Logic.{⊎_elim}
use mathlib.Core.Bool.{Bool, true, false, cond, ◌&&◌}
use mathlib.Core.List.{List, [], ◌∷◌, ◌++◌}
use Prim.Native.Nat.{ℕ, zero, suc, ◌+◌, ◌-◌, ◌%◌, ◌^◌, ◌<◌, ◌≤◌, zero-le}
use native.Mathlib.Nat.{not-suc-le-zero, le_trans, le_of_lt}
use native.Mathlib.Decide.{dec_lt}
use native.Mathlib.Omega.{arith}
use lib.Dec.{T, leb, eqb, ltb, leb→le, ltb→lt, nltb→le}
use lib.ListN.{length, length-append, get_or-append, get_or-eq_default}
use lib.Seq.{get_or_at}
use lib.IntN.{ℤ, pos, negsuc}
use borrow.Author.Tests.{eq-eqb}
use Rattle.words.specs.Word.{kind_of, bits, payload_of, sample_of}
use Rattle.formulas.specs.Formulas.{forward, backward, Operator, True, AtLeast, AtMost, Not, And, Until, Somewhere, Surrounded, Or, Eventually, Always, Everywhere, Extent, end_of, common, looking, Line, no_line, line_in, extent_of, InBits}
use Rattle.formulas.proofs.Extents.{extent_end}
use Rattle.counting.proofs.Tests.{and_l, and_r, below}
use Rattle.counting.specs.Lists.{All, none, more}
use Rattle.counting.proofs.Lists.{each_append, each_at, all_from}
use Rattle.formulas.specs.Formulas.{ConstantIn, LinesFit, ConstantsIn}
use Rattle.checks.specs.Limits.{most_lines}
use Rattle.checks.specs.Checked.{Checked, accepted, require, word_at, is_kind}
use Rattle.codes.specs.Codes.{Code, constant, atom, unary, binary, unary_bounded, binary_bounded, unknown, codes, code_of}
use Rattle.lines.specs.Lines.{line_at, lines_from, line_of, has_code}
use Rattle.codes.specs.Operators.{code_field, left_field, right_field, unused, plain, constant_at, bounds_at, with_constant, with_bounds, operator_by, operator_at}
use Rattle.lines.specs.GoodLines.{Bounds, Sound, extents_of, GoodLine, GoodTable, GoodLines}
use Rattle.lines.specs.Decoding.{SoundSomewhere}
use Rattle.checks.proofs.Checks.{never, require_e, bind_accepted, same_accepted}
use Rattle.checks.proofs.Tests.{and_rest, or_false, kind_told}
use Rattle.lines.proofs.Reading.{lines_kept}

-- ---- a constant is a number of 27 bits
pub sample_bits : (w : ℕ) → InBits 27 (sample_of w)
sample_bits w = go (ltb (w % 2 ^ 27) (2 ^ 26)) refl
  where
    go : (t : Bool) → ltb (w % 2 ^ 27) (2 ^ 26) ≡ t → InBits 27 (cond t (pos (w % 2 ^ 27)) (negsuc (2 ^ 27 - suc (w % 2 ^ 27))))
    go true e = ltb→lt (w % 2 ^ 27) (2 ^ 26) (rw e tt)
    go false e =
        let high : 2 ^ 26 ≤ w % 2 ^ 27 = nltb→le (w % 2 ^ 27) (2 ^ 26) (rw e tt) in
        omega arith

module _ (v k : ℕ) where
  -- what a code says has the property where its fields and parameters are in their limits
  abbrev pub Fits : (Operator → Type 0) → Code → Type 0
  Fits P (constant o) = P o
  Fits P (atom o) = (signal : ℕ) (c : ℤ) → signal < v → InBits 27 c → P (o signal c)
  Fits P (unary o) = (i : ℕ) → i < k → P (o i)
  Fits P (binary o) = (i j : ℕ) → i < k → j < k → P (o i j)
  Fits P (unary_bounded o) = (i lower upper : ℕ) → i < k → Bounds lower upper → P (o i lower upper)
  Fits P (binary_bounded o) = (i j lower upper : ℕ) → i < k → j < k → Bounds lower upper → P (o i j lower upper)
  Fits P unknown = Unit {0}

  codes_fit : All (Fits (Sound v k)) codes
  unfolding codes
  codes_fit =
      more {a = constant True} tt
      (more {a = atom AtLeast} (λ _ _ h b. (h, b))
      (more {a = atom AtMost} (λ _ _ h b. (h, b))
      (more {a = unary Not} (λ _ h. h)
      (more {a = binary And} (λ _ _ h g. (h, g))
      (more {a = binary_bounded (Until forward)} (λ _ _ _ _ h g b. (h, g, b))
      (more {a = unary_bounded Somewhere} (λ _ _ _ h b. (h, b))
      (more {a = binary_bounded (Surrounded false)} (λ _ _ _ _ h g b. (h, g, b))
      (more {a = binary Or} (λ _ _ h g. (h, g))
      (more {a = unary_bounded (Eventually forward)} (λ _ _ _ h b. (h, b))
      (more {a = unary_bounded (Always forward)} (λ _ _ _ h b. (h, b))
      (more {a = unary_bounded Everywhere} (λ _ _ _ h b. (h, b))
      (more {a = binary_bounded (Until backward)} (λ _ _ _ _ h g b. (h, g, b))
      (more {a = unary_bounded (Eventually backward)} (λ _ _ _ h b. (h, b))
      (more {a = unary_bounded (Always backward)} (λ _ _ _ h b. (h, b))
      (more {a = binary_bounded (Surrounded true)} (λ _ _ _ _ h g b. (h, g, b)) none)))))))))))))))

constant_fits : (s : List ℕ) (at : ℕ) (c : ℤ) → constant_at s at ≡ accepted c → InBits 27 c
unfolding constant_at
constant_fits s at c e =
    let clear : Bool = eqb (bits 27 1 (word_at s at)) 0 in
    let rest = (require_e (is_kind 8 s at) 12 at (require clear 12 at (accepted (sample_of (word_at s at)))) c e).1 in
    let same = (require_e clear 12 at (accepted (sample_of (word_at s at))) c rest).1 in
    subst (InBits 27) (same_accepted same) (sample_bits (word_at s at))

bounds_fit : (s : List ℕ) (at : ℕ) (b : ℕ × ℕ) → bounds_at s at ≡ accepted b → Bounds b.0 b.1
unfolding bounds_at
bounds_fit s at b e =
    let lower : ℕ = payload_of (word_at s at) in
    let upper : ℕ = payload_of (word_at s (at + 1)) in
    let third : Checked (ℕ × ℕ) = require (leb lower upper) 12 (at + 1) (accepted (lower, upper)) in
    let e₁ = (require_e (is_kind 6 s at) 12 at (require (is_kind 7 s (at + 1)) 12 (at + 1) third) b e).1 in
    let e₂ = (require_e (is_kind 7 s (at + 1)) 12 (at + 1) third b e₁).1 in
    let (order, same) = require_e (leb lower upper) 12 (at + 1) (accepted (lower, upper)) b e₂ in
    subst (λ (c : ℕ × ℕ). Bounds c.0 c.1) (same_accepted same) (record { order = leb→le lower upper order; small = omega arith })

-- what an accepted operator was made of
module _ (s : List ℕ) (v k : ℕ) (P : Operator → Type 0) where
  abbrev Says : Operator × ℕ → Type 0
  Says read = P read.0

  by_code : (code : Code) → Fits v k P code → (at left right : ℕ) (read : Operator × ℕ) → operator_by s code at left right v k ≡ accepted read → Says read
  by_code (constant o) fit at left right read e =
      let same = (require_e (ltb left unused && ltb right unused) 11 at (plain at o) read e).1 in
      subst Says (same_accepted same) fit
  by_code (atom o) fit at left right read e =
      let (fields, rest) = require_e (ltb left v && ltb right unused) 11 at (with_constant s at (o left)) read e in
      let (c, hc, same) = bind_accepted (constant_at s (at + 1)) (λ c. accepted (o left c, at + 2)) rest in
      subst Says (same_accepted same) (fit left c (ltb→lt left v (and_l (ltb left v) _ fields)) (constant_fits s (at + 1) c hc))
  by_code (unary o) fit at left right read e =
      let (fields, same) = require_e (ltb left k && ltb right unused) 11 at (plain at (o left)) read e in
      subst Says (same_accepted same) (fit left (ltb→lt left k (and_l (ltb left k) _ fields)))
  by_code (binary o) fit at left right read e =
      let (fields, same) = require_e (ltb left k && ltb right k) 11 at (plain at (o left right)) read e in
      subst Says (same_accepted same) (fit left right (ltb→lt left k (and_l (ltb left k) _ fields)) (ltb→lt right k (and_r (ltb left k) _ fields)))
  by_code (unary_bounded o) fit at left right read e =
      let (fields, rest) = require_e (ltb left k && ltb right unused) 11 at (with_bounds s at (o left)) read e in
      let (b, hb, same) = bind_accepted (bounds_at s (at + 1)) (λ b. accepted (o left b.0 b.1, at + 3)) rest in
      subst Says (same_accepted same)
      (fit left b.0 b.1 (ltb→lt left k (and_l (ltb left k) _ fields)) (bounds_fit s (at + 1) b hb))
  by_code (binary_bounded o) fit at left right read e =
      let (fields, rest) = require_e (ltb left k && ltb right k) 11 at (with_bounds s at (o left right)) read e in
      let (b, hb, same) = bind_accepted (bounds_at s (at + 1)) (λ b. accepted (o left right b.0 b.1, at + 3)) rest in
      subst Says (same_accepted same)
      (fit left right b.0 b.1 (ltb→lt left k (and_l (ltb left k) _ fields)) (ltb→lt right k (and_r (ltb left k) _ fields)) (bounds_fit s (at + 1) b hb))
  by_code unknown fit at left right read e = absurd (never e)

  operator_says : (at : ℕ) (read : Operator × ℕ) → Fits v k P (code_of (code_field (word_at s at))) → operator_at s v k at ≡ accepted read → P read.0
  unfolding operator_at
  operator_says at read fit e = let w : ℕ = word_at s at in by_code (code_of (code_field w)) fit at (left_field w) (right_field w) read e

pub operator_sound : (s : List ℕ) (v k at : ℕ) (read : Operator × ℕ) → operator_at s v k at ≡ accepted read → Sound v k read.0
operator_sound s v k at read = operator_says s v k (Sound v k) at read (each_at (codes_fit v k) (code_field (word_at s at)) unknown unknown tt)

pub read_sound : (s : List ℕ) (v k at : ℕ) {o : Operator} {next : ℕ} → accepted (o, next) ≡ operator_at s v k at → SoundSomewhere o
read_sound s v k at {o} {next} reads = record { signals = v; lines = k; sound = operator_sound s v k at (o, next) (sym reads) }

-- ---- the extent of a sound line depends on the lines before it alone
pub extent_same : (T v k : ℕ) (f g : ℕ → Extent) → ((i : ℕ) → i < k → f i ≡ g i) → (o : Operator) → Sound v k o → extent_of T f o ≡ extent_of T g o
extent_same T v k f g h True b = refl
extent_same T v k f g h (AtLeast x c) b = refl
extent_same T v k f g h (AtMost x c) b = refl
extent_same T v k f g h (Not i) b = h i b
extent_same T v k f g h (And i j) b = ap₂ common (h i b.0) (h j b.1)
extent_same T v k f g h (Until side i j lower upper) b = ap₂ (λ m n. looking side upper (common m n)) (h i b.0) (h j b.1)
extent_same T v k f g h (Somewhere i lower upper) b = h i b.0
extent_same T v k f g h (Surrounded islands i j lower upper) b = ap₂ common (h i b.0) (h j b.1)
extent_same T v k f g h (Or i j) b = ap₂ common (h i b.0) (h j b.1)
extent_same T v k f g h (Eventually side i lower upper) b = ap (looking side upper) (h i b.0)
extent_same T v k f g h (Always side i lower upper) b = ap (looking side upper) (h i b.0)
extent_same T v k f g h (Everywhere i lower upper) b = h i b.0

-- ---- a line, and all lines
-- also of a line that is not there
pub good_end : (v T : ℕ) (lines : List Line) → GoodTable v T lines → (i : ℕ) → end_of (line_in lines i).extent ≤ T
good_end v T lines good i = go (dec_lt i (length lines))
  where
    go : Dec (i < length lines) → end_of (line_in lines i).extent ≤ T
    go (yes h) = (good i h).ends
    go (no h) = rw (get_or-eq_default lines no_line {n = i} (omega arith)) zero-le

-- a line that is read has the operator at its word, and a sample
record LineMade (s : List ℕ) (v T k : ℕ) (extents : ℕ → Extent) (at : ℕ) (line : Line) : Type 0 where
  operator : Operator × ℕ
  reads : operator_at s v k at ≡ accepted operator
  some : 1 ≤ (extent_of T extents operator.0).length
  same : record { operator = operator.0; extent = extent_of T extents operator.0 } ≡ line

line_made : (s : List ℕ) (v T k : ℕ) (extents : ℕ → Extent) (at : ℕ) (read : Line × ℕ) → line_at s v T k extents at ≡ accepted read → LineMade s v T k extents at read.0
unfolding line_at
line_made s v T k extents at read e =
    let (o, ho, rest) = bind_accepted (operator_at s v k at) _ e in
    let extent : Extent = extent_of T extents o.0 in
    let (some, same) = require_e (leb 1 extent.length) 13 at (accepted (record { operator = o.0; extent = extent }, o.1)) read rest in
    record { operator = o; reads = ho; some = leb→le 1 extent.length some; same = ap (λ (r : Line × ℕ). r.0) (same_accepted same) }

pub line_good : (s : List ℕ) (v T : ℕ) (lines : List Line) (at : ℕ) (read : Line × ℕ) → GoodTable v T lines
    → line_at s v T (length lines) (extents_of lines) at ≡ accepted read → GoodLine v T (extents_of lines) (length lines) read.0
line_good s v T lines at read good e =
    let made = line_made s v T (length lines) (extents_of lines) at read e in
    subst (GoodLine v T (extents_of lines) (length lines)) made.same (record {
      some = made.some;
      ends = extent_end T (extents_of lines) (good_end v T lines good) made.operator.0 made.some;
      extent = refl;
      sound = operator_sound s v (length lines) at made.operator made.reads;
    })

-- what is good with some extents is good with others that are the same for the lines before
good_same : (v T : ℕ) (f g : ℕ → Extent) (k : ℕ) (line : Line) → ((i : ℕ) → i < k → f i ≡ g i) → GoodLine v T f k line → GoodLine v T g k line
good_same v T f g k line same good = record {
  some = good.some;
  ends = good.ends;
  extent = good.extent ∙ extent_same T v k f g same line.operator good.sound;
  sound = good.sound;
}

-- one good line more
pub good_more : (v T : ℕ) (lines : List Line) (line : Line) → GoodTable v T lines → GoodLine v T (extents_of lines) (length lines) line → GoodTable v T (lines ++ (line ∷ []))
good_more v T lines line good last k h =
    let longer : List Line = lines ++ (line ∷ []) in
    let l = length-append lines (line ∷ []) in
    let kept : (i : ℕ) → i < length lines → extents_of lines i ≡ extents_of longer i = λ i b. sym (ap (λ (x : Line). x.extent) (get_or-append lines (line ∷ []) no_line i b)) in
    ⊎_elim
    (λ e. subst (GoodLine v T (extents_of longer) k) (sym (get_or_at lines line [] no_line k (sym e)))
    (subst (λ m. GoodLine v T (extents_of longer) m line) (sym e) (good_same v T (extents_of lines) (extents_of longer) (length lines) line kept last)))
    (λ b. subst (GoodLine v T (extents_of longer) k) (sym (get_or-append lines (line ∷ []) no_line k b))
    (good_same v T (extents_of lines) (extents_of longer) k (line_in lines k) (λ i a. kept i (le_trans a (le_of_lt b))) (good k b)))
    (below (omega arith))

-- ---- all lines
-- they are good
pub table_good : (s : List ℕ) (v T at : ℕ) (found : List Line × ℕ) → lines_from s v T most_lines [] at ≡ accepted found → GoodLines v T most_lines found.0
table_good s v T at found e =
    let all = lines_kept s v T (GoodTable v T) (λ lines next read good _ reads. good_more v T lines read.0 good (line_good s v T lines next read good reads))
    most_lines [] at (λ k h. absurd (not-suc-le-zero h)) (omega arith) e in
    record { good = all.kept; some = all.some; bound = all.bound }

-- what everything has that the codes of the line words say, all lines have
pub table_says : (s : List ℕ) (v T at : ℕ) (found : List Line × ℕ) (P : Operator → Type 0)
    → ((k i : ℕ) → is_kind 5 s i ≡ true → Fits v k P (code_of (code_field (word_at s i)))) → lines_from s v T most_lines [] at ≡ accepted found → LinesFit P found.0
table_says s v T at found P fits e =
    (lines_kept s v T (LinesFit P) (λ lines next read all kind_5 reads.
    let made = line_made s v T (length lines) (extents_of lines) next read reads in
    each_append all (more (subst (λ (line : Line). P line.operator) made.same
    (operator_says s v (length lines) P next made.operator (fits (length lines) next kind_5) made.reads)) none))
    most_lines [] at none (omega arith) e).kept

-- a line word does not have the code that none has
pub without_code : (code : ℕ) (s : List ℕ) → has_code code s ≡ false → (i : ℕ) → is_kind 5 s i ≡ true → eqb (code_field (word_at s i)) code ≡ false
without_code code s absent i kind_5 = go s absent i (kind_told 5 s i kind_5).1
  where
    go : (s : List ℕ) → has_code code s ≡ false → (i : ℕ) → kind_of (word_at s i) ≡ 5 → eqb (code_field (word_at s i)) code ≡ false
    go [] absent i five = absurd (omega arith)
    go (w ∷ s) absent zero five = and_rest (eqb (kind_of w) 5) (eqb (code_field w) code) (or_false (line_of code w) (has_code code s) absent).0 (eq-eqb (kind_of w) 5 five)
    go (w ∷ s) absent (suc i) five = go s (or_false (line_of code w) (has_code code s) absent).1 i five

-- the constants of a good table are of 27 bits
sound_constant : (v k : ℕ) (o : Operator) → Sound v k o → ConstantIn (InBits 27) o
sound_constant v k True h = tt
sound_constant v k (AtLeast x c) h = h.1
sound_constant v k (AtMost x c) h = h.1
sound_constant v k (Not i) h = tt
sound_constant v k (And i j) h = tt
sound_constant v k (Until side i j lower upper) h = tt
sound_constant v k (Somewhere i lower upper) h = tt
sound_constant v k (Surrounded islands i j lower upper) h = tt
sound_constant v k (Or i j) h = tt
sound_constant v k (Eventually side i lower upper) h = tt
sound_constant v k (Always side i lower upper) h = tt
sound_constant v k (Everywhere i lower upper) h = tt

pub good_constants : (v T : ℕ) (lines : List Line) → GoodTable v T lines → ConstantsIn (InBits 27) lines
good_constants v T lines good = all_from (λ (line : Line). ConstantIn (InBits 27) line.operator) no_line lines (λ k h. sound_constant v k (line_in lines k).operator (good k h).sound)
