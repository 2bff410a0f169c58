-- What the operators at one sample leave in a row: their values on the samples of a sheet and on the signals in the words of an answer, and the duals,
-- the opposite of an operator on opposites. These are for contracts inside the engine: no promise to a host speaks of them.
use Rattle.std.specs.Prelude.{◌≡◌, Bool, true, false, cond, List, ℕ, ◌+◌, ◌*◌, ◌<◌, ◌≤◌, ℤ, ◌-ℤ◌, length, get_or}
use Rattle.words.specs.Word.{sample_of}
use Rattle.words.specs.Bytes.{words_of}
use Rattle.formulas.specs.Formulas.{Recording, InBits}
use Rattle.logic.specs.Table.{Signal}
use Rattle.values.specs.Chain.{chains, chain_lattice, chain_opposite}
use Rattle.values.specs.Signals.{signal_in, turned}
use Rattle.operators.specs.declared.signals.Operand.{Operand}

-- the first n numbers of a row
pub record Filled (n : ℕ) (f : ℕ → ℕ) (row : List ℕ) : Type 0 where
  pub at : (l : ℕ) → l < n → get_or row l 0 ≡ f l

-- a row whose first n numbers were written, and no others
pub record RowLeft (n : ℕ) (f : ℕ → ℕ) (before after : List ℕ) : Type 0 where
  pub filled : Filled n f after
  pub kept : (l : ℕ) → n ≤ l → get_or after l 0 ≡ get_or before l 0
  pub long : length after ≡ length before

-- a number, or its opposite
abbrev pub turned_to : Bool → ℕ → ℕ
turned_to negated c = cond negated (chain_opposite c) c

-- the signal of an operand; its word at a sample and a place is there, or all its words up to sample t
module _ (o : Operand) where
  abbrev pub operand_signal : Signal chains
  operand_signal = signal_in (words_of o.words.now) o.start o.places

  abbrev pub OperandAt : (t l : ℕ) → Type 0
  OperandAt t l = o.start + (t * o.places + l) < length (words_of o.words.now)

  abbrev pub OperandTo : (t : ℕ) → Type 0
  OperandTo t = o.start + (t + 1) * o.places ≤ length (words_of o.words.now)

-- codes 1 and 2: a sample is at least a constant, or at most
abbrev pub atom_value : Bool → ℤ → ℤ → ℕ
atom_value true x c = chains.atom (x -ℤ c)
atom_value false x c = chains.atom (c -ℤ x)

-- the samples that begin with the words: time outermost, then place, then signal
abbrev pub sample_in : List ℕ → (places signals : ℕ) → Recording
sample_in words places signals signal t l = sample_of (get_or words ((t * places + l) * signals + signal) 0)

-- the value of an atom on them; their samples up to sample t are there, the signal is one of them, and a row has room
abbrev pub atom_in : List ℕ → (places signals signal : ℕ) → Bool → ℤ → Signal chains
atom_in words places signals signal atleast c t l = atom_value atleast (sample_in words places signals signal t l) c

abbrev pub AtomReady : List ℕ → (places signals signal : ℕ) → ℤ → ℕ → List ℕ → Type 0
AtomReady words places signals signal c t row = (signal < signals) × ((t + 1) * places * signals ≤ length words) × InBits 27 c × (places ≤ length row)

-- codes 4 and 8: both, or the dual
abbrev pub and_at : Bool → Signal chains → Signal chains → Signal chains
and_at dual left right = turned dual (λ t l. chain_lattice.meet (turned dual left t l) (turned dual right t l))

-- the same on the signals that begin at an index of the words each
abbrev pub and_in : List ℕ → (places : ℕ) → Bool → ℕ → ℕ → Signal chains
and_in words places dual left right = and_at dual (signal_in words left places) (signal_in words right places)

-- the words of both up to sample t are there, and a row has room
abbrev pub AndReady : List ℕ → (places left right t : ℕ) → List ℕ → Type 0
AndReady words places left right t row = (left + (t + 1) * places ≤ length words) × (right + (t + 1) * places ≤ length words) × (places ≤ length row)
