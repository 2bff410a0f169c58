-- The front holds the distances, and the rest is cleared.
use Prim.Native.Nat.{◌*◌}
use native.Mathlib.Omega.{arith}
use Rattle.words.proofs.Numbers.{length_numbers}
use Rattle.distances.proofs.Stages.{front_filled}
use Rattle.distances.proofs.fill_distances.Goals as goal

pub returns-clause-numbers : goal.returns-clause-numbers
returns-clause-numbers c =
    let t = c.args.table.now in
    let halves = c.split_at_mut-front.ensures in
    front_filled t _ _ _ (c.args.places * c.args.places) _ c.find_distances.ensures c.fill_zero.ensures
    (omega (arith, length_numbers t, halves.front_len, c.find_distances.auto.table))
    (omega (arith, length_numbers t, halves.front_len, halves.back_len))
