-- For contracts alone: the same as in `Chains`, of a list as the code has it and of links in bytes.
use Rattle.std.specs.Prelude.{ℕ, ◌+◌, ◌<◌, ◌≤◌, Bool, List, Option, T}
use Rattle.words.specs.Bytes.{words_of}
use Rattle.checks.specs.Checked.{Checked}
use Rattle.corrections.specs.declared.list.Corrections.{Corrections}
use Rattle.corrections.specs.Corrections.{in_turn, disagrees_with, agrees}
use Rattle.clashes.specs.declared.Part.{Part}
use Rattle.clashes.specs.Chains.{last_below, number_before, alone, candidate, part_before, Chained, FoundSame, First, Next, PartNext}

module _ (list : Corrections) where
  abbrev c : List ℕ
  c = words_of list.words.now

  -- no two of its corrections disagree, or the first that disagrees with one before it is told
  abbrev pub agrees_in : Checked (Unit {0})
  agrees_in = in_turn (agrees c list.grid) list.count

  abbrev pub FirstIn : (n end found : ℕ) → Type 0
  FirstIn n end found = First c list.grid n end found

  module _ (part : Part) where
    abbrev pub NextIn : (links : List ℕ) (k : ℕ) → Type 0
    NextIn links k = (k < list.count) × Next c list.grid part (words_of links) k

    abbrev pub PartNextIn : (links : List ℕ) (end : ℕ) → Type 0
    PartNextIn links end = (end ≤ list.count) × PartNext c list.grid part (words_of links) end

    -- the corrections of the part before correction k are chained
    abbrev pub ChainedIn : (links : List ℕ) (k : ℕ) → Type 0
    ChainedIn links k = Chained c list.grid part (words_of links) (part_before part k)

    -- of those before correction k: the last candidate, one of its sample and revision, that there is none, and whether k disagrees with one up to the end of the part
    abbrev pub last_in : ℕ → Option ℕ
    last_in k = number_before (last_below (candidate c list.grid part k) (part_before part k))

    abbrev pub FoundIn : ℕ → Option ℕ → Type 0
    FoundIn k found = FoundSame c list.grid part k found

    abbrev pub AloneIn : ℕ → Type 0
    AloneIn k = T (alone c list.grid part k (part_before part k))

    abbrev pub disagrees_in : ℕ → Bool
    disagrees_in k = disagrees_with c list.grid k (part.from + part_before part k)
