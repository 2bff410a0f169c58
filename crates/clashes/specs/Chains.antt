-- For contracts alone: how an earlier correction of a sample and revision is found without going through all of them. The list is gone through in parts. Of a part the lent
-- words hold chains: first so many heads, one for each chain, then a link for each correction of the part, which are counted from its first. Only the first of each
-- sample and revision is in a chain. A head tells the last of its chain, and a link the one before its own, each by one more than its number, 0 for none. Without
-- heads every correction of the part is a candidate.
use Rattle.std.specs.Prelude.{ℕ, zero, suc, ◌+◌, ◌-◌, ◌*◌, ◌%◌, ◌<◌, ◌≤◌, ◌^◌, min, ◌≡◌, Bool, true, false, cond, ◌&&◌, ◌||◌, List, Option, None, Some, T, eqb, length}
use Rattle.checks.specs.Checked.{word_at}
use Rattle.corrections.specs.declared.correction.Grid.{Grid}
use Rattle.corrections.specs.Corrections.{revision, target, same_revision, disagrees_with}
use Rattle.clashes.specs.declared.Part.{Part}

-- one more than the last number below n that passes, 0 for none
unfoldable pub last_below : (ℕ → Bool) → ℕ → ℕ
last_below test zero = 0
last_below test (suc n) = cond (test n) (suc n) (last_below test n)

-- the number that is told by one more than itself, 0 for none
abbrev pub number_before : ℕ → Option ℕ
number_before zero = None
number_before (suc j) = Some j

-- How far the chains of one revision and of the next lie apart. Any number would do; this one keeps revisions of neighbouring samples out of one chain.
abbrev pub spread : ℕ
spread = 65537

-- the chain of a correction, by its sample and its revision
abbrev pub chain_of : List ℕ → Grid → (heads : ℕ) → ℕ → ℕ
chain_of c g heads i = (target c g i + revision c i * spread) % heads

-- how many corrections of a part come before correction k
abbrev pub part_before : Part → ℕ → ℕ
part_before p k = min (k - p.from) p.size

module _ (c : List ℕ) (g : Grid) (p : Part) where
  -- correction j of the part has the sample and the revision of k
  abbrev pub same_in_part : ℕ → ℕ → Bool
  same_in_part k j = same_revision c g (p.from + j) k

  -- none of the first n of the part has
  abbrev pub alone : (k n : ℕ) → Bool
  alone k n = eqb (last_below (same_in_part k) n) 0

  abbrev pub in_chain : ℕ → ℕ → Bool
  in_chain chain j = alone (p.from + j) j && eqb (chain_of c g p.heads (p.from + j)) chain

  -- correction j of the part is a candidate for k: the first of its sample and revision is
  abbrev pub candidate : ℕ → ℕ → Bool
  candidate k j = eqb p.heads 0 || in_chain (chain_of c g p.heads k) j

  -- the chains of the first n corrections of the part
  pub record Chained (links : List ℕ) (n : ℕ) : Type 0 where
    pub headed : (b : ℕ) → b < p.heads → word_at links b ≡ last_below (in_chain b) n
    pub linked : (j : ℕ) → j < n → T (alone (p.from + j) j) → 0 < p.heads → word_at links (p.heads + j) ≡ last_below (in_chain (chain_of c g p.heads (p.from + j))) j

-- where there are heads, there is a link for each correction, and its number fits a word
abbrev pub HeadsFit : (heads size room : ℕ) → Type 0
HeadsFit heads size room = 0 < heads → (heads + size ≤ room) × (size < 2 ^ 32)

-- the candidate before j, by what its link says
abbrev pub earlier : (heads : ℕ) (links : List ℕ) (j : ℕ) → ℕ
earlier heads links j = cond (eqb heads 0) j (word_at links (heads + j))

-- a correction of the part that has the sample and revision of k and comes before it, by its number in the part; none only if there is none
abbrev pub FoundSame : List ℕ → Grid → Part → (k : ℕ) → Option ℕ → Type 0
FoundSame c g p k None = T (alone c g p k (part_before p k))
FoundSame c g p k (Some j) = (j < part_before p k) × T (same_in_part c g p k j)

module _ (c : List ℕ) (g : Grid) where
  -- no correction below `end` disagrees with one before it among the first n
  abbrev pub Searched : (n end : ℕ) → Type 0
  Searched n end = (k : ℕ) → k < end → disagrees_with c g k (min k n) ≡ false

  -- the first below `end` that does, `end` if there is none
  pub record First (n end found : ℕ) : Type 0 where
    pub inside : found ≤ end
    pub searched : Searched n found
    pub clash : found < end → disagrees_with c g found found ≡ true

  -- correction k comes next: it disagrees with none before the part; those of the part before it are chained and agree
  pub record Next (p : Part) (links : List ℕ) (k : ℕ) : Type 0 where
    pub room : HeadsFit p.heads p.size (length links)
    pub begun : p.from ≤ k
    pub chained : Chained c g p links (part_before p k)
    pub agreed : (i : ℕ) → i < p.from + part_before p k → disagrees_with c g i i ≡ false
    pub apart : disagrees_with c g k p.from ≡ false

  -- a part is to be chained, and those below `end` to be compared with it, of which none disagrees with one before the part
  pub record PartNext (p : Part) (links : List ℕ) (end : ℕ) : Type 0 where
    pub room : HeadsFit p.heads p.size (length links)
    pub begins : p.from ≤ end
    pub chained : Chained c g p links 0
    pub searched : Searched p.from end

-- a part has at least one correction, if there is one, and no more than there are
pub record PartFits (p : Part) (count room : ℕ) : Type 0 where
  pub some : 0 < count → 0 < p.size
  pub few : p.size ≤ count
  pub linked : HeadsFit p.heads p.size room
