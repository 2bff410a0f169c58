-- Two sheets alike in every word but their samples: what demand 3 asks of two sheets, and request M-103.
use Rattle.std.specs.Prelude.{◌≡◌, ◌⊎◌, ℕ, ◌≤◌, List, T, ℤ, nat_abs, ◌-ℤ◌}
use Rattle.std.specs.Int.Signed.{le_z}
use Rattle.counting.specs.Lists.{Each}
use Rattle.words.specs.Word.{kind_of, bits, sample_of}

-- a word that can be a sample: kind 4, bit 27 zero. No other word of an accepted sheet has that kind.
pub record IsSample (w : ℕ) : Type 0 where
  pub kind : kind_of w ≡ 4
  pub spare : bits 27 1 w ≡ 0

module _ (Related : ℤ → ℤ → Type 0) where
  -- v and w, the words of X and Y at one index: samples that are related
  pub record BothSamples (v w : ℕ) : Type 0 where
    pub first_sample : IsSample v
    pub second_sample : IsSample w
    pub related : Related (sample_of v) (sample_of w)

  -- as many words, and each of X the same as that of Y, or both are such samples
  abbrev pub AlikeButSamples : List ℕ → List ℕ → Type 0
  AlikeButSamples X Y = Each (λ v w. (v ≡ w) ⊎ BothSamples v w) X Y

-- demand 3: samples at most d apart
abbrev pub SamplesApart : ℕ → List ℕ → List ℕ → Type 0
SamplesApart d = AlikeButSamples (λ x y. nat_abs (x -ℤ y) ≤ d)

-- M-103: every sample of Y at least that of X
abbrev pub SamplesRaised : List ℕ → List ℕ → Type 0
SamplesRaised = AlikeButSamples (λ x y. T (le_z x y))
