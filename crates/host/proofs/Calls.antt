-- Calls of the functions for hosts, by their contracts alone, over bytes: where `judge` returned 0, the bytes that it left, read as words and numbers,
-- are what is judged. So the starred examples hold of calls, the rounds are at most the places, `lookup` in the bytes that a call left gives the
-- verdicts that are meant, sheets without one-way roads keep every byte, and demand 3 and request M-103 hold of any two calls, whatever was lent to either.
use mathlib.Core.Path.{◌≡◌, refl, sym, ap, subst, subst₂, ◌∙◌}
use mathlib.Core.Bool.{Bool, true, false}
use mathlib.Core.List.{List}
use Prim.Native.Nat.{ℕ, ◌≤◌, ◌%◌}
use native.Mathlib.Omega.{arith}
use lib.ListN.{length, get_or}
use lib.IntN.{ℤ}
use contract.Lifetimes
use borrow.Author.Tests.{eq-eqb}
use borrow.Fn.Kinds.{Dens, ended_of}
use denote.Triple.Clauses.{AtExit}
use Rattle.words.specs.Bytes.{words_of, numbers_of, bytes_of}
use Rattle.words.proofs.RoundTrips.{length_bytes, bytes_words, bytes_numbers}
use Rattle.lines.specs.Lines.{has_code}
use Rattle.roads.specs.BothWays.{NoneOneWay}
use Rattle.sheet.specs.Layout.{Layout}
use Rattle.sheet.specs.Recording.{network, recording}
use Rattle.sheet.specs.Alike.{AlikeButSamples, SamplesApart, SamplesRaised}
use Rattle.lookup.specs.Lookup.{verdict_number, said_at, looked_up}
use Rattle.answers.specs.Meant.{meant_at}
use Rattle.answers.specs.Judged.{Result, result_numbers, Judged, judged}
use Rattle.answers.specs.BothWays.{judged_before}
use Rattle.answers.specs.Compared.{Steady, Raised}
use Rattle.answers.proofs.Accepted.{layout_found, judged_rounds, judged_lookup}
use Rattle.answers.proofs.Fitting.{Fits, judged_fits}
use Rattle.answers.proofs.Examples.{StarredExamples, examples_of}
use Rattle.answers.proofs.Compared.{decided_alike}
use Rattle.answers.proofs.BothWays.{answers_kept}
use Rattle.answers.proofs.Steadiness.{steadiness}
use Rattle.answers.proofs.Raising.{raising, yes_no_fewer}
use Rattle.engine.specs.Lent.{judged_in}
use Rattle.host.specs.Host.{lent_whole, HostJudged, in_bytes, host_judged, host_looked_up}
use Rattle.host.proofs.Lent.{judged_whole, refused_lengths}
use Rattle.host.proofs.judge.Reads as judge
use Rattle.host.proofs.judge.Kinds as kinds
use Rattle.host.proofs.lookup.Reads as lookup
use Rattle.host.proofs.lookup.Kinds as asks

-- ---- what bytes say
-- a result's five numbers: the rounds, number 3, stand at bytes 24 to 31
abbrev result_of : List ℕ → Result
result_of x = record { number = get_or x 0 0; place = get_or x 1 0; words = get_or x 2 0; rounds = get_or x 3 0; yes = get_or x 4 0 }

abbrev pub read_back : HostJudged → Judged
read_back h = record { result = result_of (numbers_of (words_of h.result)); answer = words_of h.answer; distances = numbers_of (words_of h.distances) }

read_back_lem : (j : Judged) → Fits j → read_back (in_bytes j) ≡ j
read_back_lem j fits i = record {
  result = result_of (bytes_numbers (result_numbers j.result) fits.result i);
  answer = bytes_words j.answer fits.answer i;
  distances = bytes_numbers j.distances fits.distances i;
}

-- ---- a call of judge: what it was given, what it returned, and what it left, so far as its contract tells
pub record Call : Type 0 where
  pub lifetimes : Lifetimes.Lfts 4
  pub given : Dens lifetimes kinds.ps
  pub result : ℕ
  pub left : AtExit (ended_of 4 kinds.ps kinds.r) lifetimes
  pub learnt : judge.Learnt lifetimes given result left

module _ (c : Call) where
  abbrev pub sheet_of : List ℕ
  sheet_of = words_of c.given.0.now

  -- how many distances and answer words were lent
  abbrev pub distances_lent : ℕ
  distances_lent = length (numbers_of (words_of c.given.1.0.now))

  abbrev pub answer_lent : ℕ
  answer_lent = length (words_of c.given.1.1.0.now)

  -- whether the lengths were whole
  abbrev pub whole : Bool
  whole = lent_whole (length c.given.0.now) (length c.given.1.0.now) (length c.given.1.1.0.now) (length c.given.1.1.1.0.now)

  -- the number that was returned and the bytes that were left; what they say
  abbrev pub bytes_left : HostJudged
  bytes_left = record { number = c.result; answer = c.left.1.1.0.now; distances = c.left.1.0.now; result = c.left.1.1.1.0.now }

  abbrev pub left_by : Judged
  left_by = read_back bytes_left

  -- what is to be left, by the bytes that were lent
  abbrev pub judged_of : Judged
  judged_of = judged_in c.given.0.now c.given.1.0.now c.given.1.1.0.now

  pub left_judged : bytes_left ≡ host_judged c.given.0.now c.given.1.0.now c.given.1.1.0.now c.given.1.1.1.0.now
  left_judged = same_parts c.learnt.0 c.learnt.1.0 c.learnt.1.1.0 c.learnt.1.1.1
    where
      same_parts : {h : HostJudged} → c.result ≡ h.number → c.left.1.1.0.now ≡ h.answer → c.left.1.0.now ≡ h.distances
          → c.left.1.1.1.0.now ≡ h.result → bytes_left ≡ h
      same_parts number answer distances result i = record { number = number i; answer = answer i; distances = distances i; result = result i }

  whole_left : whole ≡ true → bytes_left ≡ in_bytes judged_of
  whole_left e = left_judged ∙ judged_whole _ _ _ _ e

  -- 0 is returned only where the lengths were whole
  lengths_whole : c.result ≡ 0 → whole ≡ true
  lengths_whole z = go whole refl
    where
      go : (t : Bool) → whole ≡ t → t ≡ true
      go true e = refl
      go false e = absurd (let sixteen : ◌≡◌ {A = ℕ} 16 0 = sym (ap (λ (h : HostJudged). h.number) (left_judged ∙ refused_lengths _ _ _ _ e)) ∙ z in omega arith)

  -- where it was, the sheet was accepted
  pub accepts : c.result ≡ 0 → judged_of.result.number ≡ 0
  accepts z = sym (ap (λ (h : HostJudged). h.number) (whole_left (lengths_whole z))) ∙ z

  -- and what was left says what is judged
  pub left_says : c.result ≡ 0 → left_by ≡ judged_of
  left_says z = ap read_back (whole_left (lengths_whole z)) ∙ read_back_lem judged_of (judged_fits _ _ _ (accepts z))

  -- what the check has found
  abbrev pub layout_of : c.result ≡ 0 → Layout
  layout_of z = layout_found sheet_of distances_lent answer_lent (accepts z)

  -- the rounds that are told are at most the places of the sheet
  pub call_rounds : (z : c.result ≡ 0) → left_by.result.rounds ≤ (layout_of z).sizes.places
  call_rounds z = subst (λ (j : Judged). j.result.rounds ≤ (layout_of z).sizes.places) (sym (left_says z)) (judged_rounds sheet_of distances_lent answer_lent (accepts z))

-- M-106: of a sheet without one-way roads every byte that was left when every road ran both ways; lengths that are not whole are told as ever
pub call_kept : (c : Call) → whole c ≡ true → NoneOneWay (sheet_of c) → bytes_left c ≡ in_bytes (judged_before (sheet_of c) (distances_lent c) (answer_lent c))
call_kept c lengths none = whole_left c lengths ∙ ap in_bytes (answers_kept (sheet_of c) none (distances_lent c) (answer_lent c))

-- ---- the examples
-- the call is given this sheet in whole bytes, so many distances and answer words, and a result's bytes
pub record Given (c : Call) (s : List ℕ) (distances answer : ℕ) : Type 0 where
  pub lengths : whole c ≡ true
  pub sheet : sheet_of c ≡ s
  pub distances_lent_lem : distances_lent c ≡ distances
  pub answer_lent_lem : answer_lent c ≡ answer

-- each returns 0 and leaves what the example says
pub starred_calls : StarredExamples (λ s distances answer P. (c : Call) → Given c s distances answer → (c.result ≡ 0) × P (left_by c))
starred_calls = examples_of _ (λ s distances answer P accepted p c given.
    let same : judged_of c ≡ judged s distances answer = λ i. judged (given.sheet i) (given.distances_lent_lem i) (given.answer_lent_lem i) in
    let zero : c.result ≡ 0 = ap (λ (h : HostJudged). h.number) (whole_left c given.lengths) ∙ ap (λ (j : Judged). j.result.number) same ∙ accepted in
    (zero, subst P (sym (left_says c zero ∙ same)) p))

-- ---- a call of lookup in the bytes that an accepting call of judge left: the verdict that is meant where there is one, 0 elsewhere
words_looked : (w : List ℕ) (i t l : ℕ) → host_looked_up (bytes_of w) i t l ≡ looked_up (words_of (bytes_of w)) i t l
unfolding host_looked_up
words_looked w i t l = let whole : length (bytes_of w) % 4 ≡ 0 = omega (arith, length_bytes w) in simp (eq-eqb _ _ whole)

pub call_lookup : (c : Call) (z : c.result ≡ 0) (κ : Lifetimes.Lfts 1) (asked : Dens κ asks.ps) (r : ℕ) (left : AtExit (ended_of 1 asks.ps asks.r) κ)
    → lookup.Learnt κ asked r left → asked.0.now ≡ (bytes_left c).answer →
    let L : Layout = layout_of c z in
    let i : ℕ = asked.1.0 in
    let t : ℕ = asked.1.1.0 in
    let l : ℕ = asked.1.1.1.0 in
    r ≡ verdict_number (meant_at (network (sheet_of c) L) (recording (sheet_of c) L) L.lines i t l)
call_lookup c z κ asked r left learnt same =
    let i : ℕ = asked.1.0 in
    let t : ℕ = asked.1.1.0 in
    let l : ℕ = asked.1.1.1.0 in
    let bytes : (bytes_left c).answer ≡ bytes_of (judged_of c).answer = ap (λ (h : HostJudged). h.answer) (whole_left c (lengths_whole c z)) in
    learnt
    ∙ ap (λ (b : List ℕ). host_looked_up b i t l) (same ∙ bytes)
    ∙ words_looked (judged_of c).answer i t l
    ∙ ap (λ (b : List ℕ). looked_up (words_of b) i t l) (sym bytes)
    ∙ ap (λ (j : Judged). looked_up j.answer i t l) (left_says c z)
    ∙ judged_lookup (sheet_of c) (distances_lent c) (answer_lent c) (accepts c z) i t l

-- ---- two calls
-- what is shown of what is to be left holds of what they left
pub both_left : (x y : Call) → x.result ≡ 0 → y.result ≡ 0 → (P : Judged → Judged → Type 0) → P (judged_of x) (judged_of y) → P (left_by x) (left_by y)
both_left x y zx zy P = subst₂ P (sym (left_says x zx)) (sym (left_says y zy))

-- Demand 3: sheets alike in every word but their samples, these at most d apart. At every line, sample and place the margins are at most d apart or the
-- same infinity, and where that of x is beyond d, both verdicts are yes if it is positive and both are no if it is negative
pub calls_steady : (d : ℕ) (x y : Call) → SamplesApart d (sheet_of x) (sheet_of y) → x.result ≡ 0 → y.result ≡ 0
    → (i t l : ℕ) → Steady d (said_at (left_by x).answer i t l) (said_at (left_by y).answer i t l)
calls_steady d x y apart zx zy i t l = both_left x y zx zy (λ j k. Steady d (said_at j.answer i t l) (said_at k.answer i t l))
    (steadiness d (sheet_of x) (sheet_of y) apart (distances_lent x) (answer_lent x) (distances_lent y) (answer_lent y) (accepts x zx) (accepts y zy) i t l)

-- Sheets alike in every word but their samples, in whole bytes, are decided alike where as much is lent: the same number is returned
pub calls_decided : (Related : ℤ → ℤ → Type 0) (x y : Call) → AlikeButSamples Related (sheet_of x) (sheet_of y) → whole x ≡ true → whole y ≡ true
    → distances_lent x ≡ distances_lent y → answer_lent x ≡ answer_lent y → x.result ≡ y.result
calls_decided Related x y alike whole_X whole_Y distances answer =
    ap (λ (h : HostJudged). h.number) (whole_left x whole_X)
    ∙ ap (λ (told : ℕ × ℕ). told.0) (decided_alike Related (sheet_of x) (sheet_of y) alike (distances_lent x) (answer_lent x))
    ∙ (λ i. (judged (sheet_of y) (distances i) (answer i)).result.number)
    ∙ sym (ap (λ (h : HostJudged). h.number) (whole_left y whole_Y))

-- M-103: sheets alike in every word but their samples, each of y at least that of x, no line with code 2 or 3. At every line, sample and place a yes of x
-- is a yes of y, and no margin of y is lower; nor is its yes count
module _ (x y : Call) (raised : SamplesRaised (sheet_of x) (sheet_of y)) (without_2 : has_code 2 (sheet_of x) ≡ false) (without_3 : has_code 3 (sheet_of x) ≡ false)
    (zx : x.result ≡ 0) (zy : y.result ≡ 0) where
  pub calls_raised : (i t l : ℕ) → Raised (said_at (left_by x).answer i t l) (said_at (left_by y).answer i t l)
  calls_raised i t l = both_left x y zx zy (λ j k. Raised (said_at j.answer i t l) (said_at k.answer i t l))
      (raising (sheet_of x) (sheet_of y) raised without_2 without_3 (distances_lent x) (answer_lent x) (distances_lent y) (answer_lent y) (accepts x zx) (accepts y zy) i t l)

  pub calls_yes : (left_by x).result.yes ≤ (left_by y).result.yes
  calls_yes = both_left x y zx zy (λ j k. j.result.yes ≤ k.result.yes)
      (yes_no_fewer (sheet_of x) (sheet_of y) raised without_2 without_3 (distances_lent x) (answer_lent x) (distances_lent y) (answer_lent y) (accepts x zx) (accepts y zy))
