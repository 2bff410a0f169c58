-- The search in a part for an earlier correction of the sample and revision of k, from candidate to candidate: none is passed over, and where no candidate has them no
-- correction of the part has, as the first that had would be one.
use mathlib.Core.Path.{◌≡◌, refl, sym, ap, subst, ◌∙◌}
use mathlib.Core.Logic.{⊎_elim}
use mathlib.Core.Bool.{true, false, not}
use mathlib.Core.List.{List}
use Rattle.std.specs.Prelude.{Option, None, Some}
use Prim.Native.Nat.{ℕ, zero, suc, ◌+◌, ◌-◌, ◌<◌, ◌≤◌}
use native.Mathlib.Decide.{ℕ_discrete, dec_lt}
use native.Mathlib.Omega.{arith}
use lib.Dec.{T, eqb, eqb→eq}
use Rattle.counting.proofs.Tests.{fails, dec_T}
use Rattle.checks.proofs.Tests.{equal}
use Rattle.corrections.specs.declared.correction.Grid.{Grid}
use Rattle.corrections.specs.Corrections.{value, same_revision, disagrees_with}
use Rattle.clashes.specs.declared.Part.{Part}
use Rattle.clashes.specs.Chains.{last_below, number_before, same_in_part, alone, candidate, part_before, Next, FoundSame, earlier}
use Rattle.clashes.proofs.LastBelow.{last_bound, last_passes, last_none, none_after}
use Rattle.clashes.proofs.Chaining.{same_candidate, link_earlier}
use Rattle.clashes.proofs.Disagreeing.{same_trans, none_decides, one_decides}

-- a number by one more than itself, 0 for none
abbrev pub one_more : Option ℕ → ℕ
one_more None = 0
one_more (Some j) = suc j

one_more_before : (n : ℕ) → one_more (number_before n) ≡ n
one_more_before zero = refl
one_more_before (suc n) = refl

-- `after` is one more than the next of the part to be looked at, 0 for none: a candidate, and no candidate from there on has the sample and revision
pub record Walking (c : List ℕ) (g : Grid) (p : Part) (k after : ℕ) : Type 0 where
  pub inside : after ≤ part_before p k
  pub passed : (j : ℕ) → after ≤ j → j < part_before p k → T (candidate c g p k j) → same_in_part c g p k j ≡ false
  pub comes : (j : ℕ) → after ≡ suc j → T (candidate c g p k j)

module _ (c : List ℕ) (g : Grid) (p : Part) (k : ℕ) where
  -- no candidate lies between the last below n and n
  not_there : (n j : ℕ) → last_below (candidate c g p k) n ≤ j → j < n → T (candidate c g p k j) → same_in_part c g p k j ≡ false
  not_there n j h l it = absurd (subst T (none_after (candidate c g p k) n j h l) it)

  pub walk_start : (found : Option ℕ) → found ≡ number_before (last_below (candidate c g p k) (part_before p k)) → Walking c g p k (one_more found)
  walk_start found e =
      let told = ap one_more e ∙ one_more_before (last_below (candidate c g p k) (part_before p k)) in
      record {
        inside = omega (arith, told, last_bound (candidate c g p k) (part_before p k));
        passed = λ j h l. not_there (part_before p k) j (omega (arith, told)) l;
        comes = λ j f. last_passes (candidate c g p k) (part_before p k) j (sym told ∙ f);
      }

  module _ (links : List ℕ) (next : Next c g p links k) (j : ℕ) (walking : Walking c g p k (suc j)) (later : Option ℕ) (e : later ≡ number_before (earlier p.heads links j)) where
    -- the link leads to the last candidate before
    linked_to : one_more later ≡ last_below (candidate c g p k) j
    linked_to =
        ap one_more e ∙ one_more_before (earlier p.heads links j)
        ∙ link_earlier c g p links (part_before p k) next.chained j k (omega (arith, walking.inside)) (walking.comes j refl)

    pub walk_less : one_more later < suc j
    walk_less = omega (arith, linked_to, last_bound (candidate c g p k) j)

    pub walk_on : same_in_part c g p k j ≡ false → Walking c g p k (one_more later)
    walk_on other = record {
      inside = omega (arith, walk_less, walking.inside);
      passed = λ m h l it. passed m h l it (ℕ_discrete m j) (dec_lt m j);
      comes = λ m h. last_passes (candidate c g p k) j m (sym linked_to ∙ h);
    }
      where
        passed : (m : ℕ) → one_more later ≤ m → m < part_before p k → T (candidate c g p k m) → Dec (m ≡ j) → Dec (m < j) → same_in_part c g p k m ≡ false
        passed m h l it (yes same) _ = subst (λ (n : ℕ). same_in_part c g p k n ≡ false) (sym same) other
        passed m h l it (no apart) (yes below) = not_there j m (omega (arith, linked_to)) below it
        passed m h l it (no apart) (no above) = walking.passed m (omega arith) l it

  -- ---- what is found
  pub walk_found : (j : ℕ) → Walking c g p k (suc j) → same_in_part c g p k j ≡ true → FoundSame c g p k (Some j)
  walk_found j walking same = (walking.inside, rw same tt)

  -- the first that had the sample and revision would be a candidate
  nobody : Walking c g p k 0 → (bound j : ℕ) → j < bound → j < part_before p k → T (same_in_part c g p k j) → ⊥
  nobody walking zero j h l same = omega arith
  nobody walking (suc bound) j h l same = ⊎_elim
      (λ first. subst T (walking.passed j (omega arith) l (same_candidate c g p j k first same)) same)
      (λ other. earlier_one (nobody walking bound) (last_below (same_in_part c g p (p.from + j)) j) refl other)
      (dec_T (alone c g p (p.from + j) j))
    where
      earlier_one : ((i : ℕ) → i < bound → i < part_before p k → T (same_in_part c g p k i) → ⊥)
          → (n : ℕ) → last_below (same_in_part c g p (p.from + j)) j ≡ n → T (not (eqb (last_below (same_in_part c g p (p.from + j)) j) 0)) → ⊥
      earlier_one before zero e other = subst (λ (n : ℕ). T (not (eqb n 0))) e other
      earlier_one before (suc i) e other =
          let inside : i < j = omega (arith, last_bound (same_in_part c g p (p.from + j)) j) in
          let like : T (same_in_part c g p (p.from + j) i) = last_passes (same_in_part c g p (p.from + j)) j i e in
          before i (omega arith) (omega arith) (same_trans c g (p.from + i) (p.from + j) k like same)

  pub walk_over : Walking c g p k 0 → FoundSame c g p k None
  walk_over walking = equal _ 0 (last_none (same_in_part c g p k) (part_before p k) (λ j l. nobody walking (suc j) j (omega arith) l))

  -- ---- what it decides
  module _ (links : List ℕ) (next : Next c g p links k) where
    pub alone_agrees : FoundSame c g p k None → disagrees_with c g k (p.from + part_before p k) ≡ false
    alone_agrees none = none_decides c g k p.from (p.from + part_before p k) next.apart other
      where
        other : (i : ℕ) → p.from ≤ i → i < p.from + part_before p k → same_revision c g i k ≡ false
        other i h l =
            let number : p.from + (i - p.from) ≡ i = omega arith in
            let nobody : last_below (same_in_part c g p k) (part_before p k) ≡ 0 = eqb→eq _ 0 none in
            subst (λ (n : ℕ). same_revision c g n k ≡ false) number (none_after (same_in_part c g p k) (part_before p k) (i - p.from) (omega arith) (omega arith))

    module _ (j : ℕ) (found : FoundSame c g p k (Some j)) where
      pub found_decides : disagrees_with c g k (p.from + part_before p k) ≡ not (eqb (value c (p.from + j)) (value c k))
      found_decides = one_decides c g (p.from + part_before p k) next.agreed k (p.from + j) (omega (arith, found.0)) found.1

      pub not_alone : alone c g p k (part_before p k) ≡ false
      not_alone = fails _ (⊎_elim (λ none. absurd (there none)) (λ some. some) (dec_T (alone c g p k (part_before p k))))
        where
          there : T (alone c g p k (part_before p k)) → ⊥
          there none =
              let nobody : last_below (same_in_part c g p k) (part_before p k) ≡ 0 = eqb→eq _ 0 none in
              subst T (none_after (same_in_part c g p k) (part_before p k) j (omega arith) found.0) found.1
