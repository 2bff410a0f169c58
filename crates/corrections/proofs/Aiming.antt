-- What is known of a correction that has passed 19, and of a list of which each has.
use mathlib.Core.List.{List}
use mathlib.Core.Path.{◌≡◌}
use Prim.Native.Nat.{ℕ, ◌+◌, ◌*◌}
use borrow.Author.Tests.{ltb-true, leb-true, eqb-true}
use Rattle.checks.specs.Checked.{accepted}
use Rattle.checks.proofs.Checks.{require_accepted}
use Rattle.checks.proofs.Tests.{and_true, kind_told}
use Rattle.corrections.specs.declared.correction.Grid.{Grid}
use Rattle.corrections.specs.Corrections.{sample_named, place_named, value_given, in_turn, well_formed}
use Rattle.corrections.specs.Aimed.{Aimed, AllAimed}
use Rattle.corrections.proofs.Turns.{each_passed}

module _ (c : List ℕ) (g : Grid) where
  pub well_formed_told : (k : ℕ) → well_formed c g k ≡ accepted tt → Aimed c g k
  unfolding well_formed
  well_formed_told k e =
      let (sample, rest) = require_accepted (sample_named c g k) 19 (k * 3) _ e in
      let (place, last) = require_accepted (place_named c g k) 19 (k * 3 + 1) _ rest in
      let (value, _) = require_accepted (value_given c g k) 19 (k * 3 + 2) _ last in
      let (kind_11, fields) = and_true _ _ sample in
      let (revised, inside) = and_true _ _ fields in
      let (signal_inside, time_inside) = and_true _ _ inside in
      let (kind_12, placed) = and_true _ _ place in
      let (spare, place_inside) = and_true _ _ placed in
      let (kind_4, value_spare) = and_true _ _ value in
      record {
        there = (kind_told 4 c (k * 3 + 2) kind_4).0;
        first_kind = (kind_told 11 c (k * 3) kind_11).1;
        revised = leb-true _ _ revised;
        signal_inside = ltb-true _ _ signal_inside;
        time_inside = ltb-true _ _ time_inside;
        second_kind = (kind_told 12 c (k * 3 + 1) kind_12).1;
        spare = eqb-true _ _ spare;
        place_inside = ltb-true _ _ place_inside;
        value_kind = (kind_told 4 c (k * 3 + 2) kind_4).1;
        value_spare = eqb-true _ _ value_spare;
      }

  pub all_aimed : (n : ℕ) → in_turn (well_formed c g) n ≡ accepted tt → AllAimed c g n
  all_aimed n e k h = well_formed_told k (each_passed (well_formed c g) n e k h)
