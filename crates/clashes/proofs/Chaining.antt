-- Chains through lent words: there are none at first, one correction more of the part goes to the front of its chain, and the links of a chain lead through all candidates.
use mathlib.Core.Path.{◌≡◌, refl, sym, ap, ap₂, subst, subst₂, ◌∙◌}
use mathlib.Core.Logic.{⊎_elim}
use mathlib.Core.Bool.{Bool, true, false}
use mathlib.Core.List.{List}
use Prim.Native.Nat.{ℕ, zero, suc, ◌+◌, ◌-◌, ◌*◌, ◌%◌, ◌<◌, ◌≤◌}
use native.Mathlib.Nat.{mod-lt}
use native.Mathlib.Decide.{ℕ_discrete, dec_lt}
use native.Mathlib.Omega.{arith}
use borrow.Author.Tests.{eqb-true, eq-eqb, ne_eqb}
use lib.Dec.{T, eqb}
use lib.ListN.{length, set, replicate, length-set}
use lib.Seq.{get_or-set_same, get_or-set_other}
use Rattle.counting.proofs.Tests.{holds, and_i, and_l, and_r, or_r, or_e}
use Rattle.words.proofs.Zeros.{zero_at}
use Rattle.checks.specs.Checked.{word_at}
use Rattle.checks.proofs.Tests.{equal}
use Rattle.corrections.specs.declared.correction.Grid.{Grid}
use Rattle.corrections.specs.Corrections.{revision, target}
use Rattle.clashes.specs.declared.Part.{Part}
use Rattle.clashes.specs.Chains.{last_below, spread, chain_of, same_in_part, alone, in_chain, candidate, part_before, Chained, earlier}
use Rattle.clashes.proofs.LastBelow.{last_more, last_same}
use Rattle.clashes.proofs.Disagreeing.{same_told}

-- there are as many chains as heads
pub chain_inside : (c : List ℕ) (g : Grid) (heads k : ℕ) → (heads ≡ 0 → ⊥) → chain_of c g heads k < heads
chain_inside c g heads k some = mod-lt (target c g k + revision c k * spread) (omega arith)

module _ (c : List ℕ) (g : Grid) (p : Part) where
  -- the chain of a correction, and that of one of the part
  abbrev chain : ℕ → ℕ
  chain = chain_of c g p.heads

  abbrev of_part : ℕ → ℕ
  of_part j = chain (p.from + j)

  -- ---- candidates
  pub same_candidate : (j k : ℕ) → T (alone c g p (p.from + j) j) → T (same_in_part c g p k j) → T (candidate c g p k j)
  same_candidate j k first same =
      let told = same_told c g (p.from + j) k same in
      or_r (eqb p.heads 0) _ (and_i (alone c g p (p.from + j) j) _ first (equal (of_part j) (chain k) (ap₂ (λ (t r : ℕ). (t + r * spread) % p.heads) told.0 told.1)))

  -- without heads all are, with heads those of one chain
  pub all_candidates : (k n : ℕ) → p.heads ≡ 0 → last_below (candidate c g p k) n ≡ n
  unfolding last_below
  all_candidates k zero none = refl
  all_candidates k (suc n) none = rw none refl

  chain_candidates : (k n : ℕ) → (p.heads ≡ 0 → ⊥) → last_below (candidate c g p k) n ≡ last_below (in_chain c g p (chain k)) n
  chain_candidates k n some = last_same _ _ n (λ i l. rw (ne_eqb p.heads 0 some) refl)

  module _ (links : List ℕ) (n : ℕ) (chained : Chained c g p links n) where
    -- the last candidate of all, by its head, and the candidate before one, by its link
    pub head_last : (k : ℕ) → (p.heads ≡ 0 → ⊥) → word_at links (chain k) ≡ last_below (candidate c g p k) n
    head_last k some = chained.headed (chain k) (chain_inside c g p.heads k some) ∙ sym (chain_candidates k n some)

    pub link_earlier : (j k : ℕ) → j < n → T (candidate c g p k j) → earlier p.heads links j ≡ last_below (candidate c g p k) j
    link_earlier j k l h = by (ℕ_discrete p.heads 0)
      where
        by : Dec (p.heads ≡ 0) → earlier p.heads links j ≡ last_below (candidate c g p k) j
        by (yes none) = rw (eq-eqb p.heads 0 none) (sym (all_candidates k j none))
        by (no some) =
            let met : T (in_chain c g p (chain k) j) = ⊎_elim (λ z. absurd (subst T (ne_eqb p.heads 0 some) z)) (λ x. x) (or_e (eqb p.heads 0) _ h) in
            let first : T (alone c g p (p.from + j) j) = and_l (alone c g p (p.from + j) j) _ met in
            let same : of_part j ≡ chain k = eqb-true _ _ (holds _ (and_r (alone c g p (p.from + j) j) _ met)) in
            rw (ne_eqb p.heads 0 some) (chained.linked j l first (omega arith) ∙ ap (λ (b : ℕ). last_below (in_chain c g p b) j) same ∙ sym (chain_candidates k j some))

  -- ---- the chains of no correction, and of one more
  pub no_chains : (room : ℕ) → Chained c g p (replicate room 0) 0
  unfolding last_below
  no_chains room = record { headed = λ b l. zero_at room b; linked = λ j l _ _. absurd (omega arith) }

  pub without_heads : (links : List ℕ) (n : ℕ) → p.heads ≡ 0 → Chained c g p links n
  without_heads links n none = record { headed = λ b l. absurd (omega arith); linked = λ j l _ some. absurd (omega arith) }

  module _ (links : List ℕ) (n : ℕ) (chained : Chained c g p links n) where
    -- one that is not the first of its sample and revision is in no chain
    not_alone : alone c g p (p.from + n) n ≡ false → Chained c g p links (n + 1)
    not_alone other = record {
      headed = λ b l. chained.headed b l ∙ sym (last_more (in_chain c g p b) n ∙ rw other refl);
      linked = λ j l first some. by j l first some (ℕ_discrete j n);
    }
      where
        by : (j : ℕ) → j < n + 1 → T (alone c g p (p.from + j) j) → 0 < p.heads → Dec (j ≡ n) → word_at links (p.heads + j) ≡ last_below (in_chain c g p (of_part j)) j
        by j l first some (yes e) = absurd (subst T other (subst (λ (m : ℕ). T (alone c g p (p.from + m) m)) e first))
        by j l first some (no e) = chained.linked j (omega arith) first some

    module _ (first : alone c g p (p.from + n) n ≡ true) (some : p.heads ≡ 0 → ⊥) (room : p.heads + n < length links) where
      abbrev front : ℕ
      front = of_part n

      abbrev with_link : List ℕ
      with_link = set links (p.heads + n) (word_at links front)

      front_inside : front < p.heads
      front_inside = chain_inside c g p.heads (p.from + n) some

      headed_more : (b : ℕ) → b < p.heads → word_at (set with_link front (n + 1)) b ≡ last_below (in_chain c g p b) (n + 1)
      headed_more b l = by (ℕ_discrete front b)
        where
          by : Dec (front ≡ b) → word_at (set with_link front (n + 1)) b ≡ last_below (in_chain c g p b) (n + 1)
          by (yes e) = subst (λ (x : ℕ). word_at (set with_link front (n + 1)) x ≡ last_below (in_chain c g p x) (n + 1)) e
              (get_or-set_same with_link front (n + 1) 0 (omega (arith, front_inside, length-set links (p.heads + n) (word_at links front)))
              ∙ sym (last_more (in_chain c g p front) n ∙ rw (first, eq-eqb front front refl) refl))
          by (no e) =
              get_or-set_other with_link front b (n + 1) 0 (λ q. e (sym q))
              ∙ get_or-set_other links (p.heads + n) b (word_at links front) 0 (λ q. omega arith)
              ∙ chained.headed b l
              ∙ sym (last_more (in_chain c g p b) n ∙ rw (first, ne_eqb front b e) refl)

      linked_more : (j : ℕ) → j < n + 1 → T (alone c g p (p.from + j) j) → word_at (set with_link front (n + 1)) (p.heads + j) ≡ last_below (in_chain c g p (of_part j)) j
      linked_more j l fresh = get_or-set_other with_link front (p.heads + j) (n + 1) 0 (λ q. omega (arith, front_inside)) ∙ by (ℕ_discrete j n)
        where
          by : Dec (j ≡ n) → word_at with_link (p.heads + j) ≡ last_below (in_chain c g p (of_part j)) j
          by (yes e) = rw e (get_or-set_same links (p.heads + n) (word_at links front) 0 room ∙ chained.headed front front_inside)
          by (no e) = get_or-set_other links (p.heads + n) (p.heads + j) (word_at links front) 0 (λ q. e (omega arith)) ∙ chained.linked j (omega arith) fresh (omega arith)

      entered : Chained c g p (set with_link front (n + 1)) (n + 1)
      entered = record { headed = headed_more; linked = λ j l fresh _. linked_more j l fresh }

  -- ---- correction k: it comes in, it has one like it in the part, or it stands behind the part
  module _ (links : List ℕ) (k : ℕ) (begun : p.from ≤ k) (chained : Chained c g p links (part_before p k)) where
    module _ (inside : k - p.from < p.size) where
      number : p.from + (k - p.from) ≡ k
      number = omega arith

      before : part_before p k ≡ k - p.from
      before = omega arith

      more : (k - p.from) + 1 ≡ part_before p (k + 1)
      more = omega arith

      -- by its number in the part
      alone_there : {t : Bool} → alone c g p k (part_before p k) ≡ t → alone c g p (p.from + (k - p.from)) (k - p.from) ≡ t
      alone_there {t} e = subst₂ (λ (i n : ℕ). alone c g p i n ≡ t) (sym number) before e

      pub comes_in : alone c g p k (part_before p k) ≡ true → (p.heads ≡ 0 → ⊥) → p.heads + (k - p.from) < length links
          → Chained c g p (set (set links (p.heads + (k - p.from)) (word_at links (chain k))) (chain k) (k - p.from + 1)) (part_before p (k + 1))
      comes_in first some room =
          let n : ℕ = k - p.from in
          subst (Chained c g p (set (set links (p.heads + n) (word_at links (chain k))) (chain k) (n + 1))) more
          (subst (λ (i : ℕ). Chained c g p (set (set links (p.heads + n) (word_at links (chain i))) (chain i) (n + 1)) (n + 1)) number
          (entered links n (subst (Chained c g p links) before chained) (alone_there first) some room))

      like_another : alone c g p k (part_before p k) ≡ false → Chained c g p links (part_before p (k + 1))
      like_another other = subst (Chained c g p links) more (not_alone links (k - p.from) (subst (Chained c g p links) before chained) (alone_there other))

    pub stays_out : p.size ≤ k - p.from → Chained c g p links (part_before p (k + 1))
    stays_out full = let same : part_before p k ≡ part_before p (k + 1) = omega arith in subst (Chained c g p links) same chained

    pub not_entered : alone c g p k (part_before p k) ≡ false → Chained c g p links (part_before p (k + 1))
    not_entered other = by (dec_lt (k - p.from) p.size)
      where
        by : Dec (k - p.from < p.size) → Chained c g p links (part_before p (k + 1))
        by (yes inside) = like_another inside other
        by (no outside) = stays_out (omega arith)
