-- Rows are written place by place, each number from a law f: none yet, one more, all of them; and what a turned number is.
use mathlib.Core.Path.{◌≡◌, refl, sym, subst, ◌∙◌}
use mathlib.Core.Bool.{Bool, true, false}
use mathlib.Core.List.{List, ◌++◌}
use Prim.Native.Nat.{ℕ, ◌+◌, ◌≤◌, ◌<◌}
use native.Mathlib.Omega.{arith}
use borrow.Author.Count.{below_more}
use lib.ListN.{length, get_or, set, take, length-set}
use lib.Seq.{get_or-set_same, get_or-set_other, length-take-le, set-append_left}
use Rattle.logic.specs.Table.{Signal}
use Rattle.values.specs.Chain.{chains, highest}
use Rattle.values.specs.Signals.{turned}
use Rattle.operators.specs.Rows.{RowLeft, turned_to}

-- the first l places of a row have been written: what each loop over the places keeps
pub record Passed (places : ℕ) (f : ℕ → ℕ) (before row : List ℕ) (l : ℕ) : Type 0 where
  pub some : l ≤ places
  pub left : RowLeft l f before row

pub none_passed : (places : ℕ) (f : ℕ → ℕ) (row : List ℕ) → Passed places f row row 0
none_passed places f row = record {
  some = omega arith;
  left = record { filled = record { at = λ l b. absurd (omega arith) }; kept = λ l b. refl; long = refl };
}

pub one_passed : {places : ℕ} {f : ℕ → ℕ} {before row : List ℕ} {l : ℕ} (v : ℕ) → Passed places f before row l → l < places → places ≤ length before → v ≡ f l
    → Passed places f before (set row l v) (l + 1)
one_passed {places} {f} {before} {row} {l} v passed inside room e =
    let left = passed.left in
    record {
      some = omega arith;
      left = record {
        filled = record {
          at = below_more (λ k. get_or (set row l v) k 0 ≡ f k) l
              (λ k b. get_or-set_other row l k v 0 (λ q. absurd (omega arith)) ∙ left.filled.at k b)
              (get_or-set_same row l v 0 (omega (arith, left.long)) ∙ e);
        };
        kept = λ k b. get_or-set_other row l k v 0 (λ q. absurd (omega arith)) ∙ left.kept k (omega arith);
        long = length-set row l v ∙ left.long;
      };
    }

-- the same where a loop goes over the first places of a row, and the rest stands after them
pub in_front : {places l : ℕ} (row : List ℕ) → l < length (take places row) → places ≤ length row → l < places
in_front {places} row b room = omega (arith, b, length-take-le places row room)

pub front_passed : {places : ℕ} {f : ℕ → ℕ} {before : List ℕ} (front rest : List ℕ) {l : ℕ} (v : ℕ) → Passed places f before (front ++ rest) l → l < length front → l < places
    → places ≤ length before → v ≡ f l → Passed places f before (set front l v ++ rest) (l + 1)
front_passed front rest {l} v passed b inside room e = rw (sym (set-append_left front rest l v b)) (one_passed v passed inside room e)

pub all_passed : {places : ℕ} {f : ℕ → ℕ} {before row : List ℕ} {l : ℕ} → Passed places f before row l → places ≤ l → RowLeft places f before row
all_passed {places} {f} {before} {row} {l} passed ended = let e : l ≡ places = omega (arith, passed.some) in subst (λ k. RowLeft k f before row) e passed.left

-- the same numbers by another name
pub left_same : {f g : ℕ → ℕ} {before after : List ℕ} {n : ℕ} → RowLeft n f before after → ((l : ℕ) → l < n → f l ≡ g l) → RowLeft n g before after
left_same left e = record { filled = record { at = λ l b. left.filled.at l b ∙ e l b }; kept = left.kept; long = left.long }

-- ---- a number and its opposite

pub turned_number : (negated : Bool) (f : Signal chains) (t l : ℕ) → turned_to negated (f t l) ≡ turned negated f t l
turned_number true f t l = refl
turned_number false f t l = refl

pub turned_small : (negated : Bool) (f : Signal chains) (t l : ℕ) → f t l ≤ highest → turned negated f t l ≤ highest
turned_small true f t l h = omega arith
turned_small false f t l h = h

pub turned_back : (negated : Bool) (f : Signal chains) (t l : ℕ) → f t l ≤ highest → turned_to negated (turned negated f t l) ≡ f t l
turned_back true f t l h = omega arith
turned_back false f t l h = refl
