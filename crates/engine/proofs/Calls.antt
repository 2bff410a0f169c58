-- Calls of the engine, by its contract alone, whatever was lent: what a call leaves is what is judged; so the starred examples hold of calls, the
-- rounds are at most the places, the lookup in what a call left gives the verdicts that are meant, sheets without one-way roads keep every answer,
-- and demand 3 and request M-103 hold of any two calls.
use mathlib.Core.Path.{◌≡◌, sym, ap, subst, subst₂, ◌∙◌}
use mathlib.Core.Bool.{false}
use mathlib.Core.List.{List}
use Prim.Native.Nat.{ℕ, ◌≤◌}
use lib.ListN.{length}
use lib.IntN.{ℤ}
use Rattle.std.specs.Prelude.{Result}
use contract.Lifetimes
use borrow.Fn.Kinds.{Dens, ended_of}
use denote.Triple.Clauses.{AtExit}
use Rattle.words.specs.Bytes.{words_of, numbers_of}
use Rattle.lines.specs.Lines.{has_code}
use Rattle.roads.specs.BothWays.{NoneOneWay}
use Rattle.sheet.specs.Layout.{Layout}
use Rattle.sheet.specs.Recording.{network, recording}
use Rattle.sheet.specs.Alike.{AlikeButSamples, SamplesApart, SamplesRaised}
use Rattle.lookup.specs.Lookup.{verdict_number, said_at, looked_up}
use Rattle.answers.specs.Meant.{meant_at}
use Rattle.answers.specs.Judged.{Judged, judged}
use Rattle.answers.specs.BothWays.{judged_before}
use Rattle.answers.specs.Compared.{decision, Steady, Raised}
use Rattle.answers.proofs.Accepted.{layout_found, judged_rounds, judged_lookup}
use Rattle.answers.proofs.Examples.{StarredExamples, examples_of}
use Rattle.answers.proofs.Compared.{decided_alike}
use Rattle.answers.proofs.BothWays.{answers_kept}
use Rattle.answers.proofs.Steadiness.{steadiness}
use Rattle.answers.proofs.Raising.{raising, yes_no_fewer}
use Rattle.checks.specs.declared.fault.Refusal.{Refusal}
use Rattle.engine.specs.declared.Answered.{Answered}
use Rattle.engine.specs.Lent.{judged_in}
use Rattle.engine.specs.Result.{result_said}
use Rattle.engine.proofs.judge.Reads as judge
use Rattle.engine.proofs.judge.Kinds as kinds
use Rattle.lookup.proofs.lookup.Reads as lookup
use Rattle.lookup.proofs.lookup.Kinds as asks

-- a call: what it was given, what it returned, and what it left, so far as its contract tells
pub record Call : Type 0 where
  pub lifetimes : Lifetimes.Lfts 3
  pub given : Dens lifetimes kinds.ps
  pub result : Result Answered Refusal
  pub left : AtExit (ended_of 3 kinds.ps kinds.r) lifetimes
  pub learnt : judge.Learnt lifetimes given result left

abbrev pub sheet_of : Call → List ℕ
sheet_of c = words_of c.given.0.now

-- how many distances and answer words were lent
abbrev pub distances_lent : Call → ℕ
distances_lent c = length (numbers_of (words_of c.given.1.0.now))

abbrev pub answer_lent : Call → ℕ
answer_lent c = length (words_of c.given.1.1.0.now)

abbrev pub left_by : Call → Judged
left_by c = record { result = result_said c.result; answer = words_of c.left.1.1.0.now; distances = numbers_of (words_of c.left.1.0.now) }

-- what is to be left, by the bytes that were lent
abbrev pub judged_of : Call → Judged
judged_of c = judged_in c.given.0.now c.given.1.0.now c.given.1.1.0.now

pub left_judged : (c : Call) → left_by c ≡ judged_of c
left_judged c = same_parts c.learnt.0 c.learnt.1.0 c.learnt.1.1.0
  where
    same_parts : {j : Judged} → result_said c.result ≡ j.result → words_of c.left.1.1.0.now ≡ j.answer → numbers_of (words_of c.left.1.0.now) ≡ j.distances → left_by c ≡ j
    same_parts result answer distances i = record { result = result i; answer = answer i; distances = distances i }

-- M-106: of a sheet without one-way roads, what was left when every road ran both ways
pub call_kept : (c : Call) → NoneOneWay (sheet_of c) → left_by c ≡ judged_before (sheet_of c) (distances_lent c) (answer_lent c)
call_kept c none = left_judged c ∙ answers_kept (sheet_of c) none (distances_lent c) (answer_lent c)

-- ---- the examples
-- the call is given this sheet, so many distances and so many answer words
pub record Given (c : Call) (s : List ℕ) (distances answer : ℕ) : Type 0 where
  pub sheet : sheet_of c ≡ s
  pub distances_lent_lem : distances_lent c ≡ distances
  pub answer_lent_lem : answer_lent c ≡ answer

pub starred_calls : StarredExamples (λ s distances answer P. (c : Call) → Given c s distances answer → P (left_by c))
starred_calls = examples_of _ (λ s distances answer P z p c given.
    subst P (sym (left_judged c ∙ (λ i. judged (given.sheet i) (given.distances_lent_lem i) (given.answer_lent_lem i)))) p)

-- ---- calls that accept
pub accepts : (c : Call) → (result_said c.result).number ≡ 0 → (judged_of c).result.number ≡ 0
accepts c z = sym (ap (λ (j : Judged). j.result.number) (left_judged c)) ∙ z

-- what the check has found
abbrev pub layout_of : (c : Call) → (result_said c.result).number ≡ 0 → Layout
layout_of c z = layout_found (sheet_of c) (distances_lent c) (answer_lent c) (accepts c z)

-- the rounds that are told are at most the places of the sheet
pub call_rounds : (c : Call) (z : (result_said c.result).number ≡ 0) → (result_said c.result).rounds ≤ (layout_of c z).sizes.places
call_rounds c z = subst (λ (j : Judged). j.result.rounds ≤ (layout_of c z).sizes.places) (sym (left_judged c))
    (judged_rounds (sheet_of c) (distances_lent c) (answer_lent c) (accepts c z))

-- a lookup in the bytes that an accepting call left: the verdict that is meant where there is one, 0 elsewhere
pub call_lookup : (c : Call) (z : (result_said c.result).number ≡ 0) (κ : Lifetimes.Lfts 1) (asked : Dens κ asks.ps) (r : ℕ) (left : AtExit (ended_of 1 asks.ps asks.r) κ)
    → lookup.Learnt κ asked r left → asked.0.now ≡ c.left.1.1.0.now →
    let L : Layout = layout_of c z in
    let i : ℕ = asked.1.0 in
    let t : ℕ = asked.1.1.0 in
    let l : ℕ = asked.1.1.1.0 in
    r ≡ verdict_number (meant_at (network (sheet_of c) L) (recording (sheet_of c) L) L.lines i t l)
call_lookup c z κ asked r left learnt same =
    learnt
    ∙ ap (λ bytes. looked_up (words_of bytes) asked.1.0 asked.1.1.0 asked.1.1.1.0) same
    ∙ ap (λ (j : Judged). looked_up j.answer asked.1.0 asked.1.1.0 asked.1.1.1.0) (left_judged c)
    ∙ judged_lookup (sheet_of c) (distances_lent c) (answer_lent c) (accepts c z) asked.1.0 asked.1.1.0 asked.1.1.1.0

-- ---- two calls
-- what is shown of what is to be left holds of what they left
both_left : (x y : Call) (P : Judged → Judged → Type 0) → P (judged_of x) (judged_of y) → P (left_by x) (left_by y)
both_left x y P = subst₂ P (sym (left_judged x)) (sym (left_judged y))

-- Demand 3: sheets alike in every word but their samples, these at most d apart. At every line, sample and place the margins are at most d apart or the
-- same infinity, and where that of x is beyond d, both verdicts are yes if it is positive and both are no if it is negative
pub calls_steady : (d : ℕ) (x y : Call) → SamplesApart d (sheet_of x) (sheet_of y) → (result_said x.result).number ≡ 0 → (result_said y.result).number ≡ 0
    → (i t l : ℕ) → Steady d (said_at (left_by x).answer i t l) (said_at (left_by y).answer i t l)
calls_steady d x y apart zx zy i t l = both_left x y (λ j k. Steady d (said_at j.answer i t l) (said_at k.answer i t l))
    (steadiness d (sheet_of x) (sheet_of y) apart (distances_lent x) (answer_lent x) (distances_lent y) (answer_lent y) (accepts x zx) (accepts y zy) i t l)

-- Sheets alike in every word but their samples are decided alike where as much is lent: accepted both, or refused both with the same number and place
pub calls_decided : (Related : ℤ → ℤ → Type 0) (x y : Call) → AlikeButSamples Related (sheet_of x) (sheet_of y)
    → distances_lent x ≡ distances_lent y → answer_lent x ≡ answer_lent y → decision (left_by x) ≡ decision (left_by y)
calls_decided Related x y alike distances answer = both_left x y (λ j k. decision j ≡ decision k)
    (decided_alike Related (sheet_of x) (sheet_of y) alike (distances_lent x) (answer_lent x) ∙ (λ i. decision (judged (sheet_of y) (distances i) (answer i))))

-- M-103: sheets alike in every word but their samples, each of y at least that of x, no line with code 2 or 3. At every line, sample and place a yes of x
-- is a yes of y, and no margin of y is lower; nor is its yes count
module _ (x y : Call) (raised : SamplesRaised (sheet_of x) (sheet_of y)) (without_2 : has_code 2 (sheet_of x) ≡ false) (without_3 : has_code 3 (sheet_of x) ≡ false)
    (zx : (result_said x.result).number ≡ 0) (zy : (result_said y.result).number ≡ 0) where
  pub calls_raised : (i t l : ℕ) → Raised (said_at (left_by x).answer i t l) (said_at (left_by y).answer i t l)
  calls_raised i t l = both_left x y (λ j k. Raised (said_at j.answer i t l) (said_at k.answer i t l))
      (raising (sheet_of x) (sheet_of y) raised without_2 without_3 (distances_lent x) (answer_lent x) (distances_lent y) (answer_lent y) (accepts x zx) (accepts y zy) i t l)

  pub calls_yes : (left_by x).result.yes ≤ (left_by y).result.yes
  calls_yes = both_left x y (λ j k. j.result.yes ≤ k.result.yes)
      (yes_no_fewer (sheet_of x) (sheet_of y) raised without_2 without_3 (distances_lent x) (answer_lent x) (distances_lent y) (answer_lent y) (accepts x zx) (accepts y zy))
