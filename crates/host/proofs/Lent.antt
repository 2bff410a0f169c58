-- What the test of the lent lengths tells: where they are whole the host is left what the engine judges, in bytes; where not, 16.
use Prim.Native.Nat.{ℕ, ◌%◌}
use mathlib.Core.Path.{◌≡◌, refl}
use mathlib.Core.Bool.{true, false}
use mathlib.Core.List.{List}
use lib.ListN.{length}
use lib.Dec.{eqb}
use borrow.Author.Tests.{eqb-true}
use Rattle.checks.proofs.Tests.{and_true}
use Rattle.engine.specs.Lent.{judged_in}
use Rattle.host.specs.Host.{result_size, lent_whole, in_bytes, not_whole, host_judged}

pub whole_lengths : (sheet distances answer result : ℕ) → lent_whole sheet distances answer result ≡ true
    → (answer % 4 ≡ 0) × (distances % 8 ≡ 0) × (result ≡ result_size)
unfolding lent_whole
whole_lengths sheet distances answer result e =
    let sheets = and_true (eqb (sheet % 4) 0) _ e in
    let answers = and_true (eqb (answer % 4) 0) _ sheets.1 in
    let others = and_true (eqb (distances % 8) 0) _ answers.1 in
    (eqb-true _ _ answers.0, eqb-true _ _ others.0, eqb-true _ _ others.1)

module _ (sheet distances answer result : List ℕ) where
  pub judged_whole : lent_whole (length sheet) (length distances) (length answer) (length result) ≡ true → host_judged sheet distances answer result ≡ in_bytes (judged_in sheet distances answer)
  unfolding host_judged
  judged_whole e = rw e refl

  pub refused_lengths : lent_whole (length sheet) (length distances) (length answer) (length result) ≡ false → host_judged sheet distances answer result ≡ not_whole distances answer result
  unfolding host_judged
  refused_lengths e = rw e refl
