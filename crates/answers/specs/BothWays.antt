-- What was left before request M-106, when every road ran both ways: said for the theorem that sheets without bits 27 and 26 keep every answer.
use Rattle.std.specs.Prelude.{ℕ, List, length}
use Rattle.checks.specs.Checked.{Checked}
use Rattle.roads.specs.BothWays.{roads_before, network_before}
use Rattle.sheet.specs.Layout.{Layout, checked_by}
use Rattle.answers.specs.Judged.{Judged, answered_on, decided}

module _ (s : List ℕ) where
  abbrev pub checked_before : ℕ → Checked Layout
  checked_before = checked_by s (λ places. roads_before s places (length s) 0 0)

  abbrev pub judged_before : ℕ → ℕ → Judged
  judged_before distances answer =
      decided s distances answer (λ L. answered_on s distances answer (network_before s (L.sizes.places) (L.roads)) L) (checked_before distances)
