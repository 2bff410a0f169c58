-- The fold goes over the pairs of lanes.
use Prim.Native.Nat.{ℕ, ◌/◌}
use Rattle.std.proofs.Common.{rules, tests}
use Rattle.std.proofs.lemmas.Iterator.{YieldsList-from_slice, YieldsList-from_zip}
use Rattle.counting.proofs.Folds.{total_of}
use Rattle.lanes.proofs.StripLaws.{apart_or, strips_told}
use Rattle.lanes.proofs.strips.differs.Goals as goal

pub returns : goal.returns
returns c =
    let unit : ℕ → ℕ = λ n. n / c.args.unit in
    let pairs = YieldsList-from_zip {s = c.zip.result} (YieldsList-from_slice c.args.former.now (search rules)) (YieldsList-from_slice c.args.strip.now (search rules)) in
    strips_told unit _ _ c.told-former c.told-strip (total_of c.fold.ensures.ran (apart_or unit) (λ a x b f k. search (rules, tests)) pairs)
