-- What it tells that a way leads from one place to another.
use mathlib.Core.Path.{◌≡◌}
use Prim.Native.Nat.{ℕ}
use lib.Dec.{T, eqb, eqb→eq}
use Rattle.counting.proofs.Tests.{and_l, and_r}
use Rattle.roads.specs.declared.road.Way.{Way}
use Rattle.roads.specs.Roads.{leads_by}

pub leads_ends : (way : Way) (a b : ℕ) → T (leads_by way a b) → T way.runs × (way.from ≡ a) × (way.to ≡ b)
leads_ends way a b h =
    let ends = and_r way.runs _ h in
    (and_l way.runs _ h, eqb→eq way.from a (and_l (eqb way.from a) _ ends), eqb→eq way.to b (and_r (eqb way.from a) _ ends))
