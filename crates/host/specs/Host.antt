-- Document 01, "The answer" and, for the refusal 16 before all else, "Where a sheet is turned back": what a host written in C and the printing
-- program are given, in bytes, lowest first.
use Rattle.std.specs.Prelude.{ℕ, Bool, cond, ◌&&◌, List, leb, eqb, length}
use Rattle.words.specs.Bytes.{words_of, bytes_of, halves_of}
use Rattle.answers.specs.Judged.{Result, result_numbers, Judged, refusal, judged}
use Rattle.lookup.specs.Lookup.{looked_up}
use Rattle.engine.specs.Lent.{judged_in}
use Rattle.tools.specs.Tools.{multiple, bytes_refused, zeros}

-- ---- the host

-- the result's bytes: five numbers of eight
abbrev pub result_size : ℕ
result_size = 40

abbrev pub result_bytes : Result → List ℕ
result_bytes r = bytes_of (halves_of (result_numbers r))

-- of the lengths: whole words in the sheet and in the answer, whole distances, and a result
unfoldable pub lent_whole : ℕ → ℕ → ℕ → ℕ → Bool
lent_whole sheet distances answer result = multiple 4 sheet && (multiple 4 answer && (multiple 8 distances && eqb result result_size))

-- what `judge` returns and every byte that it leaves
pub record HostJudged : Type 0 where
  pub number : ℕ
  pub answer : List ℕ
  pub distances : List ℕ
  pub result : List ℕ

-- lengths that are not whole leave zeros, but for the number in a result of the right size
abbrev pub not_whole : List ℕ → List ℕ → List ℕ → HostJudged
not_whole distances answer result = record {
  number = bytes_refused;
  answer = zeros answer;
  distances = zeros distances;
  result = cond (eqb (length result) result_size) (result_bytes (record { number = bytes_refused; place = 0; words = 0; rounds = 0; yes = 0 })) (zeros result);
}

-- what the engine leaves
abbrev pub in_bytes : Judged → HostJudged
in_bytes j = record {
  number = j.result.number;
  answer = bytes_of j.answer;
  distances = bytes_of (halves_of j.distances);
  result = result_bytes j.result;
}

-- by the bytes that are lent: of distances, answer and result only how many there are counts
unfoldable pub host_judged : List ℕ → List ℕ → List ℕ → List ℕ → HostJudged
host_judged sheet distances answer result =
    cond (lent_whole (length sheet) (length distances) (length answer) (length result)) (in_bytes (judged_in sheet distances answer)) (not_whole distances answer result)

unfoldable pub host_looked_up : List ℕ → ℕ → ℕ → ℕ → ℕ
host_looked_up answer line sample place = cond (multiple 4 (length answer)) (looked_up (words_of answer) line sample place) 0

-- ---- the printing program

-- the most bytes that it takes, and the distances and answer words that it lends
abbrev pub most_input : ℕ
most_input = 32768

abbrev pub program_distances : ℕ
program_distances = 4096

abbrev pub program_words : ℕ
program_words = 16384

unfoldable pub input_taken : ℕ → Bool
input_taken bytes = multiple 4 bytes && leb bytes most_input

unfoldable pub program_judged : List ℕ → Judged
program_judged input = cond (input_taken (length input)) (judged (words_of input) program_distances program_words) (refusal program_distances program_words bytes_refused 0)
