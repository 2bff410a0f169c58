-- Two lists related element by element, and one list whose every element has a property.
use Rattle.std.specs.Prelude.{List, [], ◌∷◌}

pub data Each {A B : Type 0} (Rel : A → B → Type 0) : List A → List B → Type 0 where
  none : Each Rel [] []
  more : {a : A} {b : B} {l : List A} {m : List B} → Rel a b → Each Rel l m → Each Rel (a ∷ l) (b ∷ m)

abbrev pub All : {A : Type 0} → (A → Type 0) → List A → Type 0
All P l = Each (λ a _. P a) l l
