-- The settled examples of document 01, from the words of a sheet to the words of its answer, computed on the definitions: the joint theorem
-- of the starred ones, A to K, B and C as request M-101 has them, and after it the others.
use mathlib.Core.Path.{◌≡◌, refl}
use mathlib.Core.Bool.{Bool, true, false}
use mathlib.Core.List.{List, [], ◌∷◌, ◌++◌}
use Prim.Native.Nat.{ℕ, ◌+◌}
use lib.ListN.{replicate}
use lib.IntN.{pos, negsuc}
use Rattle.logic.specs.Margin.{minus_infinity, finite, plus_infinity}
use Rattle.formulas.specs.Formulas.{AtLeast, Surrounded, Extent}
use Rattle.logic.specs.Table.{margins, value_at}
use Rattle.logic.specs.Counts.{rounds_at}
use Rattle.checks.specs.Checked.{Checked, accepted, refused}
use Rattle.sheet.specs.Layout.{Layout, checked}
use Rattle.sheet.specs.Recording.{network, recording}
use Rattle.values.specs.Said.{Said, says, nothing}
use Rattle.answers.specs.Judged.{Judged, refusal, judged}
use Rattle.lookup.specs.Lookup.{said_at}
use Rattle.answers.proofs.Computing.{answer_of}

-- ---- the sheets
abbrev pub sheet_A : List ℕ
sheet_A =
    0x10201002 ∷ 0x20000001 ∷ 0x30000003 ∷ 0x40000005 ∷ 0x47FFFFFE ∷ 0x40000001 ∷ 0x40000004 ∷ 0x50100000 ∷ 0x80000000 ∷ 0x50900000
    ∷ 0x60000000 ∷ 0x70000001 ∷ 0x50600000 ∷ 0x60000001 ∷ 0x70000003 ∷ 0x50700800 ∷ 0x60000000 ∷ 0x70000003 ∷ 0xF0000012 ∷ []

-- one place with the sample 7: line 0 is "at least 0", line 1 true, line 2 the surround 0..0 of line 0 by true, line 3 that of true
abbrev sheet_BC : List ℕ
sheet_BC =
    0x10101001 ∷ 0x40000007 ∷ 0x50100000 ∷ 0x80000000 ∷ 0x50000000 ∷ 0x50700001 ∷ 0x60000000 ∷ 0x70000000 ∷ 0x50700401 ∷ 0x60000000
    ∷ 0x70000000 ∷ 0xF000000B ∷ []

-- the same with code 15, for which islands count
abbrev sheet_islands : List ℕ
sheet_islands =
    0x10101001 ∷ 0x40000007 ∷ 0x50100000 ∷ 0x80000000 ∷ 0x50000000 ∷ 0x50F00001 ∷ 0x60000000 ∷ 0x70000000 ∷ 0x50F00401 ∷ 0x60000000
    ∷ 0x70000000 ∷ 0xF000000B ∷ []

-- two places without a road, samples -1 and 8: lines 1 and 2 are somewhere 0..9 and 1..9, line 3 everywhere 1..9
abbrev sheet_DEF : List ℕ
sheet_DEF =
    0x10201001 ∷ 0x47FFFFFF ∷ 0x40000008 ∷ 0x50100000 ∷ 0x80000000 ∷ 0x50600000 ∷ 0x60000000 ∷ 0x70000009 ∷ 0x50600000 ∷ 0x60000001
    ∷ 0x70000009 ∷ 0x50B00000 ∷ 0x60000001 ∷ 0x70000009 ∷ 0xF000000E ∷ []

-- a sample equal to its constant, and its not
abbrev sheet_G : List ℕ
sheet_G = 0x10101001 ∷ 0x40000005 ∷ 0x50100000 ∷ 0x80000005 ∷ 0x50300000 ∷ 0xF0000005 ∷ []

-- places 0-1-2 with weights 1, two signals: line 2 is the surround of signal 0 by signal 1
abbrev sheet_H : List ℕ
sheet_H =
    0x10302001 ∷ 0x20000001 ∷ 0x30000001 ∷ 0x20000102 ∷ 0x30000001 ∷ 0x40000004 ∷ 0x40000009 ∷ 0x40000004 ∷ 0x47FFFFFD ∷ 0x40000004
    ∷ 0x40000009 ∷ 0x50100000 ∷ 0x80000000 ∷ 0x50100400 ∷ 0x80000000 ∷ 0x50700001 ∷ 0x60000001 ∷ 0x70000001 ∷ 0xF0000012 ∷ []

abbrev sheet_I : List ℕ
sheet_I = 0x10101001 ∷ 0x44000000 ∷ 0x50100000 ∷ 0x83FFFFFF ∷ 0xF0000004 ∷ []

-- roads 0-1 of 5, 0-2 of 1 and 1-2 of 1
abbrev sheet_J : List ℕ
sheet_J =
    0x10301001 ∷ 0x20000001 ∷ 0x30000005 ∷ 0x20000002 ∷ 0x30000001 ∷ 0x20000102 ∷ 0x30000001 ∷ 0x40000000 ∷ 0x40000000 ∷ 0x40000000
    ∷ 0x50000000 ∷ 0xF000000B ∷ []

abbrev sheet_K : List ℕ
sheet_K =
    0x10302001 ∷ 0x20000001 ∷ 0x30000001 ∷ 0x20000102 ∷ 0x30000001 ∷ 0x40000004 ∷ 0x40000009 ∷ 0x40000001 ∷ 0x40000009 ∷ 0x40000001
    ∷ 0x40000009 ∷ 0x50100000 ∷ 0x80000000 ∷ 0x50100400 ∷ 0x80000000 ∷ 0x50700001 ∷ 0x60000002 ∷ 0x70000002 ∷ 0xF0000012 ∷ []

abbrev one_sample : Extent
one_sample = record { first = 0; length = 1 }

-- what the check of sheet H finds
abbrev layout_H : Layout
layout_H = record {
  sizes = record { places = 3; signals = 2; samples = 1 };
  roads = 2;
  lines =
      record { operator = AtLeast 0 (pos 0); extent = one_sample } ∷ record { operator = AtLeast 1 (pos 0); extent = one_sample } ∷ record { operator = Surrounded false 0 1 1 1; extent = one_sample } ∷ [];
}

-- ---- what is said of them
-- the answer's word at a line, sample 0 and place 0
abbrev pub said_in : Judged → ℕ → Said
said_in j line = said_at j.answer line 0 0

-- What the starred examples say of whatever judges: `holds s distances answer P` is that P is true of what is left for the sheet s, with so many
-- distances and answer words lent.
pub record StarredExamples (holds : List ℕ → ℕ → ℕ → (Judged → Type 0) → Type 0) : Type 0 where
  pub A : holds sheet_A 4096 20 (λ j. j ≡ record {
    result = record { number = 0; place = 0; words = 20; rounds = 1; yes = 11 };
    answer =
        0xD0204002 ∷ 0xE0000002 ∷ 0x90000005 ∷ 0xAFFFFFFE ∷ 0x90000001 ∷ 0x90000004 ∷ 0xE0000001 ∷ 0x90000005 ∷ 0x90000004 ∷ 0xE0000002
        ∷ 0xAFFFFFFE ∷ 0x90000005 ∷ 0x90000004 ∷ 0x90000001 ∷ 0xE0000002 ∷ 0xAFFFFFFE ∷ 0x90000005 ∷ 0x90000004 ∷ 0x90000001 ∷ 0xF0000013 ∷ [];
    distances = 0 ∷ 3 ∷ 3 ∷ 0 ∷ replicate 4092 0;
  })
  pub B : holds sheet_BC 4096 64 (λ j. said_in j 2 ≡ says false minus_infinity)
  pub C : holds sheet_BC 4096 64 (λ j. said_in j 3 ≡ says false minus_infinity)
  pub BC_rounds : holds sheet_BC 4096 64 (λ j. j.result.rounds ≡ 0)
  pub B_islands : holds sheet_islands 4096 64 (λ j. said_in j 2 ≡ says true (finite (pos 7)))
  pub C_islands : holds sheet_islands 4096 64 (λ j. said_in j 3 ≡ says true plus_infinity)
  pub BC_islands_rounds : holds sheet_islands 4096 64 (λ j. j.result.rounds ≡ 1)
  pub D : holds sheet_DEF 4096 64 (λ j. said_in j 1 ≡ says false (finite (negsuc 0)))
  pub E : holds sheet_DEF 4096 64 (λ j. said_in j 2 ≡ says false minus_infinity)
  pub F : holds sheet_DEF 4096 64 (λ j. said_in j 3 ≡ says true plus_infinity)
  pub G : holds sheet_G 4096 64 (λ j. said_in j 0 ≡ says true (finite (pos 0)))
  pub G_not : holds sheet_G 4096 64 (λ j. said_in j 1 ≡ says false (finite (pos 0)))
  pub H : holds sheet_H 4096 64 (λ j. said_in j 2 ≡ says false (finite (negsuc 2)))
  pub H_rounds : holds sheet_H 4096 64 (λ j. j.result.rounds ≡ 3)
  -- and the greatest rounds are those of the surround at place 0
  pub H_layout : checked sheet_H 4096 ≡ accepted layout_H
  pub H_centre : rounds_at (network sheet_H layout_H) (value_at margins (network sheet_H layout_H) (recording sheet_H layout_H) layout_H.lines) (Surrounded false 0 1 1 1) 0 0 ≡ 3
  pub I : holds sheet_I 4096 64 (λ j. said_in j 0 ≡ says false (finite (negsuc 134217726)))
  pub J : holds sheet_J 4096 64 (λ j. j.distances ≡ 0 ∷ 2 ∷ 1 ∷ 2 ∷ 0 ∷ 1 ∷ 1 ∷ 1 ∷ 0 ∷ replicate 4087 0)
  pub K : holds sheet_K 4096 64 (λ j. said_in j 2 ≡ says true (finite (pos 1)))

pub starred_examples : StarredExamples (λ s distances answer P. P (judged s distances answer))
unfolding answer_of
starred_examples = record {
  A = refl;
  B = refl;
  C = refl;
  BC_rounds = refl;
  B_islands = refl;
  C_islands = refl;
  BC_islands_rounds = refl;
  D = refl;
  E = refl;
  F = refl;
  G = refl;
  G_not = refl;
  H = refl;
  H_rounds = refl;
  H_layout = refl;
  H_centre = refl;
  I = refl;
  J = refl;
  K = refl;
}

-- and so of whatever leaves what is judged, for sheets that are accepted
pub examples_of : (holds : List ℕ → ℕ → ℕ → (Judged → Type 0) → Type 0)
    → ((s : List ℕ) (distances answer : ℕ) (P : Judged → Type 0) → (judged s distances answer).result.number ≡ 0 → P (judged s distances answer) → holds s distances answer P)
    → StarredExamples holds
unfolding answer_of
examples_of holds leaves = record {
  A = leaves _ _ _ _ refl starred_examples.A;
  B = leaves _ _ _ _ refl starred_examples.B;
  C = leaves _ _ _ _ refl starred_examples.C;
  BC_rounds = leaves _ _ _ _ refl starred_examples.BC_rounds;
  B_islands = leaves _ _ _ _ refl starred_examples.B_islands;
  C_islands = leaves _ _ _ _ refl starred_examples.C_islands;
  BC_islands_rounds = leaves _ _ _ _ refl starred_examples.BC_islands_rounds;
  D = leaves _ _ _ _ refl starred_examples.D;
  E = leaves _ _ _ _ refl starred_examples.E;
  F = leaves _ _ _ _ refl starred_examples.F;
  G = leaves _ _ _ _ refl starred_examples.G;
  G_not = leaves _ _ _ _ refl starred_examples.G_not;
  H = leaves _ _ _ _ refl starred_examples.H;
  H_rounds = leaves _ _ _ _ refl starred_examples.H_rounds;
  H_layout = starred_examples.H_layout;
  H_centre = starred_examples.H_centre;
  I = leaves _ _ _ _ refl starred_examples.I;
  J = leaves _ _ _ _ refl starred_examples.J;
  K = leaves _ _ _ _ refl starred_examples.K;
}

-- ---- the other settled examples
-- a table of true and the until 0..2 of true by true, over T samples
abbrev until_sheet : ℕ → ℕ → List ℕ
until_sheet head samples = head ∷ (replicate samples 0x40000000 ++ (0x50000000 ∷ 0x50500000 ∷ 0x60000000 ∷ 0x70000002 ∷ (0xF0000005 + samples) ∷ []))

-- with T = 3 the length is 1: sample 0 has a verdict and sample 1 none
until_of_three : (said_in (answer_of (until_sheet 0x10101003 3)) 1 ≡ says true plus_infinity) × (said_at (answer_of (until_sheet 0x10101003 3)).answer 1 1 0 ≡ nothing)
unfolding answer_of
until_of_three = (refl, refl)

until_of_two : checked (until_sheet 0x10101002 2) 4096 ≡ refused 13 4
unfolding answer_of
until_of_two = refl

-- one line, true, over as many samples as the head says
abbrev true_sheet : ℕ → ℕ → List ℕ
true_sheet head samples = head ∷ (replicate samples 0x40000000 ++ (0x50000000 ∷ (0xF0000002 + samples) ∷ []))

abbrev acceptance : Checked Layout → Bool
acceptance (accepted L) = true
acceptance (refused number place) = false

most_places_lem : (acceptance (checked (true_sheet 0x14001001 64) 4096) ≡ true) × (checked (true_sheet 0x14101001 65) 4096 ≡ refused 3 0)
unfolding answer_of
most_places_lem = (refl, refl)

most_samples_lem : (acceptance (checked (true_sheet 0x10101400 1024) 4096) ≡ true) × (checked (true_sheet 0x10101401 1025) 4096 ≡ refused 3 0)
unfolding answer_of
most_samples_lem = (refl, refl)

-- example A with 19 answer words
short_answer : judged sheet_A 4096 19 ≡ refusal 4096 19 15 19
unfolding answer_of
short_answer = refl
