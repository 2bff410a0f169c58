-- Request M-103 whole, about the words of two answers: X and Y are sheets alike in every word but their samples, each of Y at least that of X, no line with
-- code 2 or 3, both accepted, whatever was lent to either. At every line, sample and place both answers have a verdict or neither has; a yes of X
-- is a yes of Y, and no margin of Y is lower; and so the yes count is no lower.
use mathlib.Core.Path.{◌≡◌, sym, subst}
use mathlib.Core.Bool.{true, false, false≢true}
use mathlib.Core.List.{List}
use Prim.Native.Nat.{ℕ, zero, suc, ◌-◌, ◌≤◌}
use lib.Dec.{T, eqb}
use lib.ListN.{length, drop}
use lib.Signed.{le_z}
use Rattle.counting.specs.Lists.{All, none, more}
use Rattle.counting.proofs.Lists.{each_at}
use Rattle.formulas.specs.Formulas.{forward, backward, And, Until, Somewhere, Surrounded, Or, Eventually, Always, Everywhere, LinesFit}
use Rattle.network.specs.Network.{Network}
use Rattle.logic.specs.Counts.{yes_count}
use Rattle.logic.specs.Raising.{Rising, RaisedVerdicts}
use Rattle.logic.proofs.Raising.{values_raised, yes_raised}
use Rattle.checks.specs.Checked.{word_at}
use Rattle.codes.specs.Codes.{binary, unary_bounded, binary_bounded, unknown, codes, code_of}
use Rattle.lines.specs.Lines.{has_code}
use Rattle.codes.specs.Operators.{code_field}
use Rattle.lines.proofs.AcceptedLines.{Fits, table_says, without_code}
use Rattle.sheet.specs.Layout.{Layout}
use Rattle.sheet.specs.Recording.{network, recording}
use Rattle.sheet.specs.Checking.{layout_of}
use Rattle.sheet.specs.Alike.{SamplesRaised}
use Rattle.sheet.proofs.Whole.{AcceptedSheet}
use Rattle.sheet.proofs.SameNetwork.{network_same, recordings_raised}
use Rattle.lookup.specs.Lookup.{said_at}
use Rattle.answers.specs.Judged.{answered, judged}
use Rattle.answers.specs.Compared.{Raised}
use Rattle.answers.proofs.Compared.{both_answered, answers_stand}

-- every code but 2 and 3 says a line that M-103 allows
allowed_code : (v k code : ℕ) → eqb code 2 ≡ false → eqb code 3 ≡ false → Fits v k Rising (code_of code)
unfolding codes
allowed_code v k zero two three = tt
allowed_code v k (suc zero) two three = λ _ _ _ _. tt
allowed_code v k (suc (suc zero)) two three = absurd (false≢true (sym two))
allowed_code v k (suc (suc (suc zero))) two three = absurd (false≢true (sym three))
allowed_code v k (suc (suc (suc (suc code)))) two three = each_at from_4 code unknown unknown tt
  where
    from_4 : All (Fits v k Rising) (drop 4 codes)
    from_4 =
        more {a = binary And} (λ _ _ _ _. tt)
        (more {a = binary_bounded (Until forward)} (λ _ _ _ _ _ _ _. tt)
        (more {a = unary_bounded Somewhere} (λ _ _ _ _ _. tt)
        (more {a = binary_bounded (Surrounded false)} (λ _ _ _ _ _ _ _. tt)
        (more {a = binary Or} (λ _ _ _ _. tt)
        (more {a = unary_bounded (Eventually forward)} (λ _ _ _ _ _. tt)
        (more {a = unary_bounded (Always forward)} (λ _ _ _ _ _. tt)
        (more {a = unary_bounded Everywhere} (λ _ _ _ _ _. tt)
        (more {a = binary_bounded (Until backward)} (λ _ _ _ _ _ _ _. tt)
        (more {a = unary_bounded (Eventually backward)} (λ _ _ _ _ _. tt)
        (more {a = unary_bounded (Always backward)} (λ _ _ _ _ _. tt)
        (more {a = binary_bounded (Surrounded true)} (λ _ _ _ _ _ _ _. tt) none)))))))))))

module _ (X Y : List ℕ) (raised : SamplesRaised X Y) (without_2 : has_code 2 X ≡ false) (without_3 : has_code 3 X ≡ false) where
  lines_rising : (dx : ℕ) (L : Layout) → AcceptedSheet X dx L → LinesFit Rising L.lines
  lines_rising dx L sheet = table_says X (L.sizes.signals) (L.sizes.samples) (layout_of X L).table (L.lines, length X - 1) Rising
      (λ k i kind_5. allowed_code (L.sizes.signals) k (code_field (word_at X i)) (without_code 2 X without_2 i kind_5) (without_code 3 X without_3 i kind_5)) sheet.table

  pub raising : (dx ax dy ay : ℕ) → (judged X dx ax).result.number ≡ 0 → (judged Y dy ay).result.number ≡ 0
      → (i t l : ℕ) → Raised (said_at (judged X dx ax).answer i t l) (said_at (judged Y dy ay).answer i t l)
  unfolding network
  raising = answers_stand (λ x y. T (le_z x y)) X Y raised RaisedVerdicts
      (λ dx L sheet. values_raised (network X L) (recording X L) (recording Y L) (recordings_raised X Y raised L) L.lines (lines_rising dx L sheet))

  pub yes_no_fewer : (dx ax dy ay : ℕ) → (judged X dx ax).result.number ≡ 0 → (judged Y dy ay).result.number ≡ 0
      → (judged X dx ax).result.yes ≤ (judged Y dy ay).result.yes
  unfolding answered
  yes_no_fewer dx ax dy ay = both_answered (λ x y. T (le_z x y)) X Y raised dx ax dy ay (λ j k. j.result.yes ≤ k.result.yes)
      (λ L in_X in_Y. subst (λ (M : Network). yes_count (network X L) (recording X L) L.lines ≤ yes_count M (recording Y L) L.lines)
      (network_same (λ x y. T (le_z x y)) X Y raised dy L in_Y)
      (yes_raised (network X L) (recording X L) (recording Y L) (recordings_raised X Y raised L) L.lines (lines_rising dx L in_X)))
