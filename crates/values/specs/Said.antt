-- The word of a verdict and its margin, and what such a word says: kinds 9 to 12 of "The answer".
use Rattle.std.specs.Prelude.{ℕ, ◌^◌, Bool, true, false, cond, ◌&&◌, ◌||◌, ltb, eqb}
use Rattle.words.specs.Word.{kind_of, payload_of, word_of, signed, unsigned}
use Rattle.logic.specs.Margin.{Margin, minus_infinity, finite, plus_infinity}

-- A yes at minus infinity and a no at plus infinity do not arise (margin and verdict agree); the word 0 that stands for them here says nothing.
abbrev pub verdict_word : Bool → Margin → ℕ
verdict_word true minus_infinity = 0
verdict_word true (finite m) = word_of 9 (unsigned 28 m)
verdict_word true plus_infinity = word_of 11 0
verdict_word false minus_infinity = word_of 12 0
verdict_word false (finite m) = word_of 10 (unsigned 28 m)
verdict_word false plus_infinity = 0

pub data Said : Type 0 where
  says : Bool → Margin → Said
  nothing : Said

-- what a kind and a payload say: kind 9 is not negative, kind 10 not positive, a payload never -2^27, an infinity's payload 0
unfoldable pub said : ℕ → ℕ → Said
said kind payload =
    cond (eqb kind 9 && ltb payload (2 ^ 27)) (says true (finite (signed 28 payload)))
    (cond (eqb kind 10 && (eqb payload 0 || ltb (2 ^ 27) payload)) (says false (finite (signed 28 payload)))
    (cond (eqb kind 11 && eqb payload 0) (says true plus_infinity)
    (cond (eqb kind 12 && eqb payload 0) (says false minus_infinity)
    nothing)))

abbrev pub said_by : ℕ → Said
said_by w = said (kind_of w) (payload_of w)
