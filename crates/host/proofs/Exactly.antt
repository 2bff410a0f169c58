-- The host's lookup gives 0 exactly where document 01 says so ("The answer"): the bytes are not whole words or these no whole answer, or the
-- line, the sample or the place is not in it.
use mathlib.Core.Path.{◌≡◌}
use mathlib.Core.Logic.{◌⊎◌, inl, inr, ⊎_elim}
use mathlib.Core.Bool.{not}
use mathlib.Core.List.{List}
use Prim.Native.Nat.{ℕ, ◌%◌}
use lib.Dec.{T, eqb}
use lib.ListN.{length}
use Rattle.words.specs.Bytes.{words_of}
use Rattle.lookup.specs.Lookup.{whole_answer}
use Rattle.lookup.proofs.Exactly.{zero_chosen, chosen_zero, NotInIt, zero_exactly}
use Rattle.host.specs.Host.{host_looked_up}

module _ (answer : List ℕ) (i t l : ℕ) where
  abbrev pub NoVerdict : Type 0
  NoVerdict = T (not (eqb (length answer % 4) 0)) ⊎ (T (not (whole_answer (words_of answer))) ⊎ NotInIt (words_of answer) i t l)

  pub bytes_zero_exactly : (host_looked_up answer i t l ≡ 0 → NoVerdict) × (NoVerdict → host_looked_up answer i t l ≡ 0)
  unfolding host_looked_up
  bytes_zero_exactly = (
    λ zero. ⊎_elim inl (λ words. inr ((zero_exactly (words_of answer) i t l).0 words)) (chosen_zero (eqb (length answer % 4) 0) _ zero),
    λ none. zero_chosen (eqb (length answer % 4) 0) _ (⊎_elim inl (λ words. inr ((zero_exactly (words_of answer) i t l).1 words)) none),
  )
