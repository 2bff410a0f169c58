-- Rows are written part by part: so many numbers from an index on, none yet, one more, all of them; and a part that begins where the written places end.
use mathlib.Core.Path.{◌≡◌, refl, ap, subst, ◌∙◌}
use mathlib.Core.Logic.{⊎_elim}
use mathlib.Core.List.{List}
use Prim.Native.Nat.{ℕ, ◌+◌, ◌-◌, ◌*◌, ◌/◌, ◌%◌, ◌≤◌, ◌<◌, min}
use native.Mathlib.Omega.{arith}
use borrow.Author.Count.{below_more}
use lib.ListN.{length, get_or, set, length-set}
use lib.Seq.{get_or-set_same, get_or-set_other}
use Rattle.values.proofs.Naturals.{le_or_lt}
use Rattle.operators.proofs.RowLaws.{Passed}
use Rattle.windows.specs.declared.group.Group.{Group}
use Rattle.windows.specs.Groups.{group_size, PartLeft}

pub part_none : (first : ℕ) (f : ℕ → ℕ) (row : List ℕ) → PartLeft first 0 f row row
part_none first f row = record { written = λ lane b. absurd (omega arith); below = λ l b. refl; above = λ l b. refl; long = refl }

pub part_more : {first n : ℕ} {f : ℕ → ℕ} {before row : List ℕ} (v : ℕ) → PartLeft first n f before row → first + n < length before → v ≡ f n → PartLeft first (n + 1) f before (set row (first + n) v)
part_more {first} {n} {f} {before} {row} v part room e = record {
  written = below_more (λ k. get_or (set row (first + n) v) (first + k) 0 ≡ f k) n
      (λ k b. get_or-set_other row (first + n) (first + k) v 0 (λ q. absurd (omega arith)) ∙ part.written k b)
      (get_or-set_same row (first + n) v 0 (omega (arith, part.long)) ∙ e);
  below = λ l b. get_or-set_other row (first + n) l v 0 (λ q. absurd (omega arith)) ∙ part.below l b;
  above = λ l b. get_or-set_other row (first + n) l v 0 (λ q. absurd (omega arith)) ∙ part.above l (omega arith);
  long = length-set row (first + n) v ∙ part.long;
}

pub part_all : {first n m : ℕ} {f : ℕ → ℕ} {before after : List ℕ} → PartLeft first n f before after → n ≡ m → PartLeft first m f before after
part_all {first} {f = f} {before} {after} part e = subst (λ k. PartLeft first k f before after) e part

pub part_same : {first n : ℕ} {f g : ℕ → ℕ} {before after : List ℕ} → PartLeft first n f before after → ((lane : ℕ) → lane < n → f lane ≡ g lane) → PartLeft first n g before after
part_same part e = record { written = λ lane b. part.written lane b ∙ e lane b; below = part.below; above = part.above; long = part.long }

-- a part that begins where the written places end
pub part_passed : {places first from count : ℕ} {f : ℕ → ℕ} {before row after : List ℕ} → Passed places f before row first → PartLeft from count (λ lane. f (from + lane)) row after → from ≡ first
    → first + count ≤ places → Passed places f before after (first + count)
part_passed {places} {first} {from} {count} {f} {before} {row} {after} passed part e inside = record {
  some = inside;
  left = record {
    filled = record { at = λ l b. ⊎_elim (there l b) (here l) (le_or_lt first l) };
    kept = λ l b. part.above l (omega arith) ∙ passed.left.kept l (omega arith);
    long = part.long ∙ passed.left.long;
  };
}
  where
    there : (l : ℕ) → l < first + count → first ≤ l → get_or after l 0 ≡ f l
    there l b h = let same : from + (l - from) ≡ l = omega arith in subst (λ (k : ℕ). get_or after k 0 ≡ f k) same (part.written (l - from) (omega arith))

    here : (l : ℕ) → l < first → get_or after l 0 ≡ f l
    here l h = part.below l (omega arith) ∙ passed.left.filled.at l h

-- so many groups cover the places: the places of those before one are written, and then its own
pub group_passed : {places groups k : ℕ} {group : Group} {f : ℕ → ℕ} {before row after : List ℕ} → groups ≡ places / group_size + min 1 (places % group_size) → k < groups
    → group ≡ record { first = k * group_size; count = min (places - k * group_size) group_size } → Passed places f before row (min (k * group_size) places)
    → PartLeft group.first group.count (λ lane. f (group.first + lane)) row after → Passed places f before after (min ((k + 1) * group_size) places)
group_passed {places} {groups} {k} {group} {f} {before} {row} {after} all inside here passed part =
    let first : group.first ≡ k * group_size = ap (λ (g : Group). g.first) here in
    let count : group.count ≡ min (places - k * group_size) group_size = ap (λ (g : Group). g.count) here in
    let done : min (k * group_size) places + group.count ≡ min ((k + 1) * group_size) places = omega (arith, all, inside, count) in
    subst (λ (n : ℕ). Passed places f before after n) done (part_passed passed part (omega (arith, all, inside, first)) (omega (arith, all, inside, count)))
