-- What the tool leaves, by the bytes that it is lent; and, for inner contracts, what stands in the output while the corrections are written.
use Rattle.std.specs.Prelude.{◌≡◌, cond, List, ℕ, ◌<◌, ◌≤◌, max, ltb, eqb, length, take, set}
use Rattle.words.specs.Bytes.{words_of}
use Rattle.checks.specs.Checked.{accepted, ◌>>=◌, word_at}
use Rattle.sheet.specs.declared.check.Layout as Code
use Rattle.corrections.specs.declared.correction.Grid.{Grid}
use Rattle.corrections.specs.declared.list.Corrections.{Corrections}
use Rattle.corrections.specs.Corrections.{count, revision, value, target, in_turn, agrees}
use Rattle.tool.specs.Tool.{Left, left}
use Rattle.correcting.specs.Corrected.{highest, word_after, corrected_words, corrected}

-- of sheet, list and output; of the output only how many words there are counts
abbrev pub corrected_in : (sheet list output : List ℕ) → Left
corrected_in sheet list output = left (corrected (words_of sheet) (words_of list)) (length (words_of sheet)) (length (words_of output))

-- the same of a valid sheet and a list that has passed 19
abbrev pub applied_in : (sheet list output : List ℕ) → Grid → Left
applied_in sheet list output g =
    left (in_turn (agrees (words_of list) g) (count (words_of list)) >>= λ _. accepted (corrected_words (words_of sheet) (words_of list) g)) (length (words_of sheet)) (length (words_of output))

abbrev pub grid_in : Code.Layout → Grid
grid_in layout = record { start = layout.recording; places = layout.places; signals = layout.signals; samples = layout.samples }

-- ---- First each corrected sample gives way to the highest revision among its corrections, which is no word of a sample, then that to the value.
-- one more than the highest revision can be
abbrev pub after_revisions : ℕ
after_revisions = 256

-- a sample, or a revision that is lower, gives way to a revision
abbrev pub raised_to : (revision word : ℕ) → ℕ
raised_to revision word = max (cond (ltb word after_revisions) word 0) revision

-- a revision gives way to its value
abbrev pub given_way : (revision value word : ℕ) → ℕ
given_way revision value word = cond (eqb word revision) value word

module _ (c : List ℕ) (g : Grid) where
  -- the words with correction k raised, and with its value put in the place of its revision
  abbrev pub raised_once : List ℕ → ℕ → List ℕ
  raised_once words k = set words (target c g k) (raised_to (revision c k) (word_at words (target c g k)))

  abbrev pub settled_once : List ℕ → ℕ → List ℕ
  settled_once words k = set words (target c g k) (given_way (revision c k) (value c k) (word_at words (target c g k)))

  -- the word at an index after the first n corrections have been raised
  abbrev pub raised_by : (index word n : ℕ) → ℕ
  raised_by index word n = cond (eqb (highest c g index n) 0) word (highest c g index n)

  -- the first n corrections are all, and each is aimed at a word that is there
  pub record Targets (n : ℕ) (words : List ℕ) : Type 0 where
    pub all : n ≡ count c
    pub inside : (k : ℕ) → k < n → target c g k < length words

  -- and each of these words is no revision
  abbrev pub NoRevisions : List ℕ → Type 0
  NoRevisions words = (k : ℕ) → k < count c → after_revisions ≤ word_at words (target c g k)

  -- what stands when all have been raised, and when all values have taken their places
  abbrev pub AllRaised : (before after : List ℕ) → Type 0
  AllRaised before after = (index : ℕ) → word_at after index ≡ raised_by index (word_at before index) (count c)

  abbrev pub AllCorrected : (before after : List ℕ) → Type 0
  AllCorrected before after = (index : ℕ) → word_at after index ≡ word_after c g index (word_at before index) (count c)

  -- whatever stood before all were raised, the values have taken the places of their revisions
  abbrev pub AllSettled : (raised after : List ℕ) → Type 0
  AllSettled raised after = (before : List ℕ) → AllRaised before raised → AllCorrected before after

-- ---- the same, of a list as the code has it and of words in bytes
module _ (list : Corrections) where
  abbrev listed : List ℕ
  listed = words_of list.words.now

  -- correction k is aimed at a word that is there
  abbrev pub ReachesIn : (output : List ℕ) → ℕ → Type 0
  ReachesIn output k = (k < list.count) × (target listed list.grid k < length (words_of output))

  abbrev pub TargetsIn : List ℕ → Type 0
  TargetsIn output = Targets listed list.grid list.count (words_of output)

  abbrev pub NoRevisionsIn : List ℕ → Type 0
  NoRevisionsIn output = NoRevisions listed list.grid (words_of output)

  abbrev pub raised_in : (output : List ℕ) → ℕ → List ℕ
  raised_in output k = raised_once listed list.grid (words_of output) k

  abbrev pub settled_in : (output : List ℕ) → ℕ → List ℕ
  settled_in output k = settled_once listed list.grid (words_of output) k

  abbrev pub AllRaisedIn : (before after : List ℕ) → Type 0
  AllRaisedIn before after = AllRaised listed list.grid (words_of before) (words_of after)

  abbrev pub AllSettledIn : (raised after : List ℕ) → Type 0
  AllSettledIn raised after = AllSettled listed list.grid (words_of raised) (words_of after)

  -- the sheet with its corrections stands at the front
  abbrev pub CorrectedIn : (sheet output : List ℕ) → Type 0
  CorrectedIn sheet output = take (length (words_of sheet)) (words_of output) ≡ corrected_words (words_of sheet) listed list.grid

  -- a valid sheet with a list that has passed, and room for it
  pub record Ready (sheet output : List ℕ) : Type 0 where
    pub targets : TargetsIn sheet
    pub samples : NoRevisionsIn sheet
    pub room : length (words_of sheet) ≤ length (words_of output)

  -- what is left of both
  abbrev pub left_in : (sheet output : List ℕ) → Left
  left_in sheet output = applied_in sheet list.words.now output list.grid
