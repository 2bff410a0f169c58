-- What every tool leaves a host written in C (M-105, and so M-107, M-109, M-111 and M-113), in bytes, by what it leaves in words.
use Rattle.std.specs.Prelude.{ℕ, ◌%◌, Bool, cond, ◌&&◌, List, [], ◌∷◌, eqb, length, replicate}
use Rattle.words.specs.Bytes.{bytes_of, halves_of}
use Rattle.words.specs.Rows.{padded}
use Rattle.tool.specs.Tool.{Told, told_numbers, Left}
use Rattle.conversion.specs.Lent.{converted_in}
use Rattle.correcting.specs.Lent.{corrected_in}

-- ---- bytes, of tools and of the engine
abbrev pub multiple : ℕ → ℕ → Bool
multiple size bytes = eqb (bytes % size) 0

-- the refusal of bytes: of lengths that are not whole words, whole distances or a result, and of an input of the program above 32,768 bytes
abbrev pub bytes_refused : ℕ
bytes_refused = 16

abbrev pub zeros : List ℕ → List ℕ
zeros lent = replicate (length lent) 0

-- a result when lengths are not whole: the number and zeros behind it, where it has the right size, and zeros alone elsewhere
abbrev pub refused_bytes : (size : ℕ) → List ℕ → List ℕ
refused_bytes size result = cond (eqb (length result) size) (padded (bytes_of (halves_of (bytes_refused ∷ []))) size) (zeros result)

-- ---- what every tool leaves
-- the result's bytes: three numbers of eight
abbrev pub tool_result_size : ℕ
tool_result_size = 24

abbrev pub told_bytes : Told → List ℕ
told_bytes told = bytes_of (halves_of (told_numbers told))

-- of whether the inputs have whole words, and of the lengths: whole words in the output, and a result
unfoldable pub tool_whole : Bool → ℕ → ℕ → Bool
tool_whole inputs output result = (inputs && multiple 4 output) && eqb result tool_result_size

-- what a tool returns and every byte that it leaves
pub record HostTool : Type 0 where
  pub number : ℕ
  pub output : List ℕ
  pub result : List ℕ

-- lengths that are not whole leave zeros, but for the number in a result of the right size
abbrev pub tool_not_whole : List ℕ → List ℕ → HostTool
tool_not_whole output result = record {
  number = bytes_refused;
  output = zeros output;
  result = cond (eqb (length result) tool_result_size) (told_bytes (record { number = bytes_refused; place = 0; words = 0 })) (zeros result);
}

-- elsewhere the bytes of what it leaves in words
abbrev pub left_in_bytes : Left → HostTool
left_in_bytes left = record {
  number = left.told.number;
  output = bytes_of left.output;
  result = told_bytes left.told;
}

-- by the bytes that are lent: of output and result only how many there are counts
unfoldable pub host_tool : Bool → Left → (output result : List ℕ) → HostTool
host_tool inputs left output result = cond (tool_whole inputs (length output) (length result)) (left_in_bytes left) (tool_not_whole output result)

-- ---- the tools
-- a sheet laid out wide or narrow
abbrev pub host_converted : Bool → (sheet output result : List ℕ) → HostTool
host_converted to sheet output result = host_tool (multiple 4 (length sheet)) (converted_in to sheet output) output result

-- a sheet with late corrections (M-107)
abbrev pub host_corrected : (sheet list output result : List ℕ) → HostTool
host_corrected sheet list output result =
    host_tool (multiple 4 (length sheet) && multiple 4 (length list)) (corrected_in sheet list output) output result
