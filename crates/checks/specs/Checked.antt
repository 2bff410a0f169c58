-- A check goes front to back and the first fault counts: it accepts with what it has read, or refuses with a number and a place.
use Rattle.std.specs.Prelude.{ℕ, Bool, true, false, ◌&&◌, List, ltb, leb, eqb, length, get_or}
use Rattle.words.specs.Word.{kind_of}

pub data Checked (A : Type 0) : Type 0 where
  accepted : A → Checked A
  refused : ℕ → ℕ → Checked A

infixl 20 ◌>>=◌
-- one check after the other
abbrev pub ◌>>=◌ : {A B : Type 0} → Checked A → (A → Checked B) → Checked B
accepted a >>= next = next a
refused number place >>= next = refused number place

-- what is made of what was accepted
abbrev pub mapped : {A B : Type 0} → (A → B) → Checked A → Checked B
mapped f checked = checked >>= λ found. accepted (f found)

-- go on where the test holds, else refuse
abbrev pub require : {A : Type 0} → Bool → ℕ → ℕ → Checked A → Checked A
require true number place next = next
require false number place next = refused number place

abbrev pub between : ℕ → ℕ → ℕ → Bool
between low high x = leb low x && leb x high

-- the word at an index, 0 past the end
abbrev pub word_at : List ℕ → ℕ → ℕ
word_at s at = get_or s at 0

-- the word at an index is there and of this kind
unfoldable pub is_kind : ℕ → List ℕ → ℕ → Bool
is_kind kind s at = ltb at (length s) && eqb (kind_of (word_at s at)) kind
