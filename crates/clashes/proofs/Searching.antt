-- One correction after the other and one part after the other: what is known when the next one comes, what its turn decides, and that values agree where all have passed.
use mathlib.Core.Path.{◌≡◌, refl, sym, ap, subst, ◌∙◌}
use mathlib.Core.Logic.{⊎_elim}
use mathlib.Core.Bool.{true, false, not}
use mathlib.Core.List.{List}
use Prim.Native.Nat.{ℕ, zero, suc, ◌+◌, ◌*◌, ◌<◌, ◌≤◌, min}
use native.Mathlib.Decide.{dec_lt}
use native.Mathlib.Omega.{arith}
use borrow.Author.Tests.{not-true}
use lib.Dec.{T}
use lib.ListN.{length, replicate, length-replicate}
use Rattle.counting.proofs.Tests.{holds, below}
use Rattle.words.specs.Bytes.{words_of}
use Rattle.words.proofs.Words.{words_count}
use Rattle.words.proofs.Zeros.{zero_words}
use Rattle.checks.specs.Checked.{accepted, refused}
use Rattle.checks.proofs.Checks.{require_accepted}
use Rattle.corrections.specs.declared.correction.Grid.{Grid}
use Rattle.corrections.specs.Corrections.{value, same_revision, in_turn, disagrees_with, agrees}
use Rattle.corrections.proofs.Turns.{turn_refused, each_passed}
use Rattle.clashes.specs.declared.Part.{Part}
use Rattle.clashes.specs.Chains.{part_before, Chained, HeadsFit, Searched, First, Next, PartNext}
use Rattle.clashes.proofs.Chaining.{no_chains}
use Rattle.clashes.proofs.Disagreeing.{disagrees_more, one_value}

-- as many bytes hold as many words
as_many : (bytes lent : List ℕ) → length bytes ≡ length lent → length (words_of lent) ≡ length (words_of bytes)
as_many bytes lent long = omega (arith, words_count bytes, words_count lent)

module _ (c : List ℕ) (g : Grid) where
  agreed_told : (k : ℕ) → agrees c g k ≡ accepted tt → disagrees_with c g k k ≡ false
  unfolding agrees
  agreed_told k e = not-true _ (require_accepted (not (disagrees_with c g k k)) 20 (k * 3) (accepted tt) e).0

  -- a list that has passed: what has the same sample and revision has the same value
  pub values_agree : (n : ℕ) → in_turn (agrees c g) n ≡ accepted tt → (i k : ℕ) → i < n → k < n → T (same_revision c g i k) → value c i ≡ value c k
  values_agree n passed = one_value c g n (λ i l. agreed_told i (each_passed (agrees c g) n passed i l))

  -- ---- a search that has come to an end
  all_agreed : (n : ℕ) → ((k : ℕ) → k < n → disagrees_with c g k k ≡ false) → in_turn (agrees c g) n ≡ accepted tt
  unfolding in_turn agrees
  all_agreed zero h = refl
  all_agreed (suc n) h = rw (all_agreed n (λ k l. h k (omega arith)), h n (omega arith)) refl

  searched_all : (n found : ℕ) → Searched c g n found → found ≤ n → in_turn (agrees c g) found ≡ accepted tt
  searched_all n found searched h = all_agreed found (λ k l. let all : min k n ≡ k = omega arith in subst (λ (m : ℕ). disagrees_with c g k m ≡ false) all (searched k l))

  module _ (n found : ℕ) (first : First c g n n found) where
    pub clash_told : found < n → in_turn (agrees c g) n ≡ refused 20 (found * 3)
    unfolding agrees
    clash_told l = turn_refused (agrees c g) found n (searched_all n found first.searched first.inside) (rw (first.clash l) refl) l

    pub none_told : n ≤ found → in_turn (agrees c g) n ≡ accepted tt
    none_told h = let all : found ≡ n = omega (arith, first.inside) in subst (λ (m : ℕ). in_turn (agrees c g) m ≡ accepted tt) all (searched_all n found first.searched first.inside)

  -- ---- part by part
  pub nothing_found : (n end : ℕ) → Searched c g n end → First c g n end end
  nothing_found n end searched = record { inside = omega arith; searched = searched; clash = λ l. absurd (omega arith) }

  pub first_start : (n : ℕ) → First c g 0 n n
  unfolding disagrees_with
  first_start n = nothing_found 0 n (λ k l. let none : min k 0 ≡ 0 = omega arith in rw none refl)

  pub first_on : (m n end count found : ℕ) → First c g m count end → First c g n end found → First c g n count found
  first_on m n end count found before first = record {
    inside = omega (arith, before.inside, first.inside);
    searched = first.searched;
    clash = λ l. clash l (dec_lt found end);
  }
    where
      clash : found < count → Dec (found < end) → disagrees_with c g found found ≡ true
      clash l (yes inside) = first.clash inside
      clash l (no outside) = let same : end ≡ found = omega (arith, first.inside) in subst (λ (k : ℕ). disagrees_with c g k k ≡ true) same (before.clash (omega arith))

  pub first_end : (n count end : ℕ) → end ≤ n → First c g n count end → First c g count count end
  first_end n count end h first = record {
    inside = first.inside;
    searched = λ k l. let same : min k n ≡ min k count = omega (arith, first.inside) in subst (λ (m : ℕ). disagrees_with c g k m ≡ false) same (first.searched k l);
    clash = first.clash;
  }

  -- in words that are all zero no part is chained
  pub begins_anew : (p : Part) (end : ℕ) (lent bytes after : List ℕ) → after ≡ replicate (length bytes) 0 → length bytes ≡ length lent
      → HeadsFit p.heads p.size (length (words_of lent)) → p.from ≤ end → Searched c g p.from end → PartNext c g p (words_of after) end
  begins_anew p end lent bytes after zeros long room begins searched = record {
    room = subst (HeadsFit p.heads p.size) (as_many after lent (ap length zeros ∙ length-replicate (length bytes) 0 ∙ long)) room;
    begins = begins;
    chained = subst (λ (w : List ℕ). Chained c g p w 0) (sym (ap words_of zeros ∙ zero_words bytes)) (no_chains c g p (length (words_of bytes)));
    searched = searched;
  }

  -- ---- one correction after the other
  module _ (p : Part) (k : ℕ) (begun : p.from ≤ k) where
    -- as far as the part goes
    reach : p.from + part_before p k ≡ min k (p.from + p.size)
    reach = omega arith

    pub comes_next : (lent bytes : List ℕ) (end : ℕ) → PartNext c g p (words_of lent) end → k < end → length bytes ≡ length lent
        → Chained c g p (words_of bytes) (part_before p k) → Searched c g (p.from + p.size) k → Next c g p (words_of bytes) k
    comes_next lent bytes end part inside long chained searched = record {
      room = subst (HeadsFit p.heads p.size) (as_many bytes lent long) part.room;
      begun = begun;
      chained = chained;
      agreed = λ i l. let all : min i (p.from + p.size) ≡ i = omega (arith, reach) in subst (λ (m : ℕ). disagrees_with c g i m ≡ false) all (searched i (omega (arith, reach)));
      apart = let all : min k p.from ≡ p.from = omega arith in subst (λ (m : ℕ). disagrees_with c g k m ≡ false) all (part.searched k inside);
    }

    pub found_here : (end : ℕ) → k < end → Searched c g (p.from + p.size) k → disagrees_with c g k (p.from + part_before p k) ≡ true → First c g (p.from + p.size) end k
    found_here end inside searched told = record {
      inside = omega arith;
      searched = searched;
      clash = λ _. holds _ (disagrees_more c g k (p.from + part_before p k) k (omega (arith, reach)) (rw told tt));
    }

    pub searched_on : Searched c g (p.from + p.size) k → disagrees_with c g k (p.from + part_before p k) ≡ false → Searched c g (p.from + p.size) (k + 1)
    searched_on searched told i l = ⊎_elim
        (λ here. rw here (subst (λ (m : ℕ). disagrees_with c g k m ≡ false) reach told))
        (λ before. searched i before)
        (below (omega arith))

  -- before the part every one has been compared with all before it
  pub searched_before : (p : Part) (end : ℕ) → p.from ≤ end → Searched c g p.from end → Searched c g (p.from + p.size) p.from
  searched_before p end h searched k l =
      let same : min k p.from ≡ min k (p.from + p.size) = omega arith in
      subst (λ (m : ℕ). disagrees_with c g k m ≡ false) same (searched k (omega arith))
