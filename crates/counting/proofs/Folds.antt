-- What an iterator's fold comes to, and that it may be called on at each item.
use mathlib.Core.Path.{◌≡◌, refl, sym, subst, ap, ◌∙◌}
use mathlib.Core.List.{List, [], ◌∷◌, map}
use Prim.Native.Nat.{◌<◌}
use lib.ListN.{length, length-map}
use denote.Param.Members.{Mut}
use Rattle.std.specs.declared.option.Option.{Option}
use Rattle.std.specs.declared.option.Option.TheVariants.{Some}
use Rattle.std.specs.Fn.{Called, Takes}
use Rattle.std.specs.Iterator.{FoldsItems, FoldTurn, CallableInFold, ActsAsOnTwo}
use Rattle.std.specs.List.{fold}
use Rattle.std.proofs.lemmas.Fn.{fold_over, serves_by}
use Rattle.std.proofs.lemmas.List.{map_push}
use Rattle.std.proofs.lemmas.List.Sums.{fold-append}
use Rattle.std.proofs.lemmas.Iterator.{YieldsList}
use Rattle.std.proofs.lemmas.Iterator.Consumers.{YieldsList-turn}

-- where each call gives h of the total and of what v reads of the item
pub total_of : {S A B C F : Type 0} {steps : S → Option A → S → Type 0} {v : A → B} {g : Mut F (C × (A × Unit {0})) C} {s : S} {f : F} {first last : C} {all : List B}
    → FoldsItems steps g s f first last → (h : C → B → C) → ActsAsOnTwo g f (λ a x. h a (v x)) → YieldsList steps v s all → last ≡ fold h first all
total_of {steps = steps} {v} {g} {s} {f} {first} {last} {all} ran h acts listed =
    fold_over steps v g (λ xs b. b ≡ fold h first xs) f
    (λ xs a x b later e call. let (same, made) = acts a x b later call in (made ∙ ap (λ m. h m (v x)) e ∙ sym (fold-append h first xs (v x ∷ [])), same))
    s all first last listed.runs refl ran

-- and the total so far is the fold over the items before
pub callable_of : {S A B C F : Type 0} {steps : S → Option A → S → Type 0} {v : A → B} {g : Mut F (C × (A × Unit {0})) C} {s : S} {f : F} {first : C} {all : List B}
    (h : C → B → C) → ActsAsOnTwo g f (λ a x. h a (v x)) → YieldsList steps v s all
    → ((before : List B) (x : A) → length before < length all → Takes g f (fold h first before, (x, tt))) → CallableInFold steps g s f first
callable_of {F = F} {steps} {v} {g} {s} {f} {first} h acts listed takes =
    serves_by (FoldTurn g) (λ xs q. (q.0 ≡ f) × (q.1 ≡ fold h first (map v xs)))
    (λ xs q x w j call.
    let (same, made) = acts q.1 x w.1 w.0 (subst (λ (y : F). Called g y (q.1, (x, tt)) w.1 w.0) j.0 call) in
    (same, made ∙ ap (λ m. h m (v x)) j.1 ∙ sym (fold-append h first (map v xs) (v x ∷ [])) ∙ ap (fold h first) (sym (map_push v xs x))))
    steps (λ p x. Takes g p.0 (p.1, (x, tt))) s (f, first) (refl, refl)
    (λ xs t q x u y e j.
    let turn = YieldsList-turn listed xs t y (Some x) u x refl e in
    rw (j.0, j.1) (takes (map v xs) x (rw (length-map xs v) turn.0)))
