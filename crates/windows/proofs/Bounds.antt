-- What the operators over time compute with stays small: values are at most `highest`, and a window has fewer samples than there are bytes.
use mathlib.Core.Path.{◌≡◌}
use mathlib.Core.Bool.{Bool}
use mathlib.Core.List.{List}
use Prim.Native.Nat.{ℕ, suc, ◌+◌, ◌*◌, ◌≤◌, ◌<◌}
use native.Mathlib.Nat.{le_refl, mul-le-mul_right, le-mul_of_pos_right}
use native.Mathlib.Omega.{arith}
use lib.ListN.{length}
use Rattle.words.specs.Bytes.{words_of}
use Rattle.words.proofs.Words.{words_count}
use Rattle.words.proofs.Rows.{in_table}
use Rattle.formulas.specs.Formulas.{Direction, forward}
use Rattle.logic.specs.Table.{Signal, away, until_at, ever_true}
use Rattle.logic.proofs.SoFar.{until_related}
use Rattle.values.specs.Chain.{chains, highest}
use Rattle.values.specs.Signals.{signal_in, turned}
use Rattle.windows.specs.declared.group.Group.{Group}
use Rattle.windows.specs.Groups.{SampleReached}
use Rattle.windows.specs.Reach.{Window, Reached}
use Rattle.windows.specs.Rows.{present_at, ahead, ahead_in, eventually_in}
use Rattle.codes.specs.declared.operator.Bounds.{Bounds}
use Rattle.codes.specs.declared.operator.Direction as Code
use Rattle.codes.specs.declared.operator.Direction.TheVariants.{Forward, Backward}
use Rattle.codes.specs.Decoding.{side_said}
use Rattle.operators.specs.Rows.{turned_to}
use Rattle.operators.proofs.RowLaws.{turned_number, turned_small, turned_back}
use Rattle.operators.proofs.Bounds.{bounded_kept, turned_bound, in_row}

-- ---- no value is beyond `highest`

pub until_bound : (side : Direction) (left right : Signal chains) (lower upper t l : ℕ) → ((u : ℕ) → left u l ≤ highest) → ((u : ℕ) → right u l ≤ highest)
    → until_at chains side left right lower upper t l ≤ highest
unfolding until_at
until_bound side left right lower upper t l low low' = until_related chains chains (λ c _. c ≤ highest) bounded_kept side left right left right t t l lower (suc upper)
    (λ k _. low (away side t k)) (λ k _. low' (away side t k))

pub ahead_bound : (negated : Bool) (words : List ℕ) (start n lower upper t l : ℕ) → ahead (turned negated (signal_in words start n)) lower upper t l ≤ highest
ahead_bound negated words start n lower upper t l =
    until_bound forward (ever_true chains) (turned negated (signal_in words start n)) lower upper t l (λ _. le_refl highest) (λ u. turned_bound negated words start n u l)

-- eventually, or its dual, from the greatest of the window and back again
module _ (dual : Bool) (words : List ℕ) (start n lower upper t l : ℕ) where
  pub eventually_small : eventually_in words n dual start lower upper t l ≤ highest
  eventually_small = turned_small dual _ t l (ahead_bound dual words start n lower upper t l)

  pub eventually_back : turned_to dual (eventually_in words n dual start lower upper t l) ≡ ahead_in words n dual start lower upper t l
  eventually_back = turned_back dual _ t l (ahead_bound dual words start n lower upper t l)

  pub eventually_turned : turned_to dual (ahead_in words n dual start lower upper t l) ≡ eventually_in words n dual start lower upper t l
  eventually_turned = turned_number dual _ t l

-- ---- what is read is there, and its index fits the machine

pub reached_inside : {words : List ℕ} {start places : ℕ} {bounds : Bounds} {t l u : ℕ} → Reached words start places bounds t l → u < t + bounds.upper + 1
    → start + (u * places + l) < length words
reached_inside reached before = omega (arith, in_table before reached.place, reached.window.inside)

pub sample_reached : {words : List ℕ} {start places u : ℕ} {g : Group} {lane : ℕ} → SampleReached words start places u g → lane < g.count → start + (u * places + (g.first + lane)) < length words
sample_reached {places = places} {u} {g} {lane} reached b =
    let place : g.first + lane < places = omega (arith, reached.among) in
    omega (arith, in_row u place, reached.inside)

-- a sample that until or since reads is one from t to t + upper
pub away_inside : (direction : Code.Direction) (upper t k : ℕ) → k ≤ upper → away (side_said direction) (present_at direction upper t) k < t + upper + 1
away_inside Forward upper t k h = omega arith
away_inside Backward upper t k h = omega arith

pub window_reached : {words : List ℕ} {start places lower upper t u : ℕ} (g : Group) → Window words start places lower upper t → u < t + upper + 1 → g.first + g.count ≤ places → SampleReached words start places u g
window_reached {places = places} {u = u} g window before among = record { inside = omega (arith, mul-le-mul_right places before, window.inside); among = among }

-- each sample has a word, and a word has bytes
pub window_end : (bytes : List ℕ) {start places lower upper t : ℕ} → 1 ≤ places → Window (words_of bytes) start places lower upper t → t + upper + 1 ≤ length bytes
window_end bytes {upper = upper} {t} some window = omega (arith, le-mul_of_pos_right (t + upper + 1) some, words_count bytes, window.inside)

pub reached_end : (bytes : List ℕ) {start places : ℕ} {bounds : Bounds} {t l : ℕ} → Reached (words_of bytes) start places bounds t l → t + bounds.upper + 1 ≤ length bytes
reached_end bytes reached = window_end bytes (omega (arith, reached.place)) reached.window
