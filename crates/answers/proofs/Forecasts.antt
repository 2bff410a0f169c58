-- Request M-103 on whole sheets: a forecast and the same with more bikes, with every word of the two answers; and why codes 2 and 3 are left out, a sheet for
-- each on which one bike more costs a yes.
use mathlib.Core.Path.{◌≡◌, refl, ap}
use mathlib.Core.Logic.{inl, inr}
use mathlib.Core.Bool.{true, false}
use mathlib.Core.List.{List, [], ◌∷◌, ◌++◌}
use Prim.Native.Nat.{ℕ}
use lib.ListN.{replicate}
use lib.IntN.{pos, negsuc}
use Rattle.counting.specs.Lists.{none, more}
use Rattle.counting.proofs.Lists.{each_append}
use Rattle.logic.specs.Margin.{finite}
use Rattle.sheet.specs.Alike.{SamplesRaised}
use Rattle.values.specs.Said.{says}
use Rattle.lookup.specs.Lookup.{said_at}
use Rattle.answers.specs.Judged.{Judged, judged}
use Rattle.answers.specs.Compared.{Raised}
use Rattle.answers.proofs.Computing.{answer_of}
use Rattle.answers.proofs.Examples.{said_in}
use Rattle.answers.proofs.Raising.{raising}

-- Two places with a road of 1 and one signal, two samples. The lines, all of bounds 0..1 but the first:
-- 0  at least 0
-- 1  always 0
-- 2  everywhere 0
-- 3  0 surrounded by 0, with a boundary
abbrev network : List ℕ
network = 0x10201002 ∷ 0x20000001 ∷ 0x30000001 ∷ []

abbrev table : List ℕ
table =
    0x50100000 ∷ 0x80000000 ∷ 0x50A00000 ∷ 0x60000000 ∷ 0x70000001 ∷ 0x50B00000 ∷ 0x60000000 ∷ 0x70000001 ∷ 0x50700000 ∷ 0x60000000
    ∷ 0x70000001 ∷ 0xF0000012 ∷ []

-- 1 and -2, then 0 and 3
abbrev few_bikes : List ℕ
few_bikes = network ++ ((0x40000001 ∷ 0x47FFFFFE ∷ 0x40000000 ∷ 0x40000003 ∷ []) ++ table)

-- 1 and 0, then 2 and 3
abbrev more_bikes : List ℕ
more_bikes = network ++ ((0x40000001 ∷ 0x40000000 ∷ 0x40000002 ∷ 0x40000003 ∷ []) ++ table)

few_judged : judged few_bikes 4096 20 ≡ record {
  result = record { number = 0; place = 0; words = 20; rounds = 2; yes = 8 };
  answer =
      0xD0204002 ∷ 0xE0000002 ∷ 0x90000001 ∷ 0xAFFFFFFE ∷ 0x90000000 ∷ 0x90000003 ∷ 0xE0000001 ∷ 0x90000000 ∷ 0xAFFFFFFE ∷ 0xE0000002
      ∷ 0xAFFFFFFE ∷ 0xAFFFFFFE ∷ 0x90000000 ∷ 0x90000000 ∷ 0xE0000002 ∷ 0xAFFFFFFE ∷ 0xAFFFFFFE ∷ 0x90000000 ∷ 0x90000000 ∷ 0xF0000013 ∷ [];
  distances = 0 ∷ 1 ∷ 1 ∷ 0 ∷ replicate 4092 0;
}
unfolding answer_of
few_judged = refl

more_judged : judged more_bikes 4096 20 ≡ record {
  result = record { number = 0; place = 0; words = 20; rounds = 2; yes = 14 };
  answer =
      0xD0204002 ∷ 0xE0000002 ∷ 0x90000001 ∷ 0x90000000 ∷ 0x90000002 ∷ 0x90000003 ∷ 0xE0000001 ∷ 0x90000001 ∷ 0x90000000 ∷ 0xE0000002
      ∷ 0x90000000 ∷ 0x90000000 ∷ 0x90000002 ∷ 0x90000002 ∷ 0xE0000002 ∷ 0x90000000 ∷ 0x90000000 ∷ 0x90000002 ∷ 0x90000002 ∷ 0xF0000013 ∷ [];
  distances = 0 ∷ 1 ∷ 1 ∷ 0 ∷ replicate 4092 0;
}
unfolding answer_of
more_judged = refl

unchanged : (words : List ℕ) → SamplesRaised words words
unchanged [] = none
unchanged (w ∷ words) = more (inl refl) (unchanged words)

-- M-103 speaks of the two, and so of their answers
forecast_raised : (i t l : ℕ) → Raised (said_at (judged few_bikes 4096 20).answer i t l) (said_at (judged more_bikes 4096 20).answer i t l)
forecast_raised = raising few_bikes more_bikes (each_append (unchanged network) (each_append higher (unchanged table))) refl refl 4096 20 4096 20
    (ap (λ (j : Judged). j.result.number) few_judged) (ap (λ (j : Judged). j.result.number) more_judged)
  where
    higher : SamplesRaised (0x40000001 ∷ 0x47FFFFFE ∷ 0x40000000 ∷ 0x40000003 ∷ []) (0x40000001 ∷ 0x40000000 ∷ 0x40000002 ∷ 0x40000003 ∷ [])
    higher =
        more (inl refl)
        (more (inr (record { first_sample = record { kind = refl; spare = refl }; second_sample = record { kind = refl; spare = refl }; related = tt }))
        (more (inr (record { first_sample = record { kind = refl; spare = refl }; second_sample = record { kind = refl; spare = refl }; related = tt }))
        (more (inl refl) none)))

-- ---- codes 2 and 3
-- one place, one sample: line 0 is "at most 0"
abbrev at_most_sheet : ℕ → List ℕ
at_most_sheet sample = 0x10101001 ∷ sample ∷ 0x50200000 ∷ 0x80000000 ∷ 0xF0000004 ∷ []

-- with no bike a yes, with one a no
at_most_falls : (said_in (answer_of (at_most_sheet 0x40000000)) 0 ≡ says true (finite (pos 0))) × (said_in (answer_of (at_most_sheet 0x40000001)) 0 ≡ says false (finite (negsuc 0)))
unfolding answer_of
at_most_falls = (refl, refl)

-- line 0 is "at least 1", line 1 its not
abbrev not_sheet : ℕ → List ℕ
not_sheet sample = 0x10101001 ∷ sample ∷ 0x50100000 ∷ 0x80000001 ∷ 0x50300000 ∷ 0xF0000005 ∷ []

not_falls : (said_in (answer_of (not_sheet 0x40000000)) 1 ≡ says true (finite (pos 1))) × (said_in (answer_of (not_sheet 0x40000001)) 1 ≡ says false (finite (pos 0)))
unfolding answer_of
not_falls = (refl, refl)
