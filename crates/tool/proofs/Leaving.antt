-- What a tool makes that refuses, or that has written the words that it was to make: what is promised of it, by the words as they were lent.
use mathlib.Core.Path.{◌≡◌, sym, ap, ap₂, ◌∙◌}
use mathlib.Core.List.{List}
use Prim.Native.Nat.{ℕ, ◌*◌, ◌<◌, ◌≤◌}
use native.Mathlib.Omega.{arith}
use lib.ListN.{length, take, replicate, length-drop}
use borrow.Author.Tests.{le-leb, lt-leb}
use Rattle.std.specs.Prelude.{Ok, Err}
use Rattle.words.specs.Bytes.{words_of, after_words}
use Rattle.words.specs.Rows.{padded}
use Rattle.words.proofs.Words.{words_count}
use Rattle.checks.specs.declared.fault.Refusal.{Refusal}
use Rattle.checks.specs.Faults.{fault_number}
use Rattle.checks.specs.Checked.{accepted}
use Rattle.tool.specs.Tool.{Left, refusal, whole, left, told_by, Makes}

-- there is room for what was made, or there is not
module _ (words : List ℕ) (first room : ℕ) where
  pub room_for : length words ≤ room → left (accepted words) first room ≡ whole room words
  unfolding left
  room_for h = simp (le-leb (length words) room h)

  pub no_room_for : room < length words → left (accepted words) first room ≡ refusal room 15 first
  unfolding left
  no_room_for h = simp (lt-leb (length words) room h)

-- as many bytes hold as many words
pub same_words : (before output : List ℕ) → length before ≡ length output → length (words_of before) ≡ length (words_of output)
same_words before output kept = omega (arith, words_count before, words_count output)

pub same_tail : (before output : List ℕ) → length before ≡ length output → length (after_words before) ≡ length (after_words output)
same_tail before output kept =
    omega (arith, same_words before output kept, length-drop (length (words_of before) * 4) before, length-drop (length (words_of output) * 4) output)

-- a refusal, whatever stands in the output
pub refusal_made : (l : Left) (r : Refusal) (room : ℕ) (output : List ℕ) → length output ≡ room → l ≡ refusal room (fault_number r.fault) r.place → Makes l (Err r) output
refusal_made l r room output long left = record {
  told = ap (λ (l : Left). l.told) (sym left);
  room = tt;
  words = ap (λ n. replicate n 0) long ∙ ap (λ (l : Left). l.output) (sym left);
}

-- the words that were to be made stand at the front
pub words_made : (l : Left) (made : List ℕ) (count room : ℕ) (output : List ℕ) → length output ≡ room → count ≡ length made → count ≤ room → take count output ≡ made
    → l ≡ whole room made → Makes l (Ok count) output
words_made l made count room output long counted inside front left = record {
  told = ap (λ words. told_by (Ok words)) counted ∙ ap (λ (l : Left). l.told) (sym left);
  room = omega arith;
  words = ap₂ padded front long ∙ ap (λ (l : Left). l.output) (sym left);
}
