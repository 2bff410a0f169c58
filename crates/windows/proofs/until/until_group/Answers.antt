-- Before a sample is read the least of left is highest and until so far lowest.
use mathlib.Core.Path.{◌∙◌}
use Prim.Native.Nat.{◌+◌}
use native.Mathlib.Omega.{arith}
use Rattle.std.proofs.Common.{rules}
use Rattle.values.specs.Chain.{chains}
use Rattle.windows.proofs.Carried.{none_read}
use Rattle.std.proofs.lemmas.List.{get_or-replicate}
use Rattle.windows.specs.Groups.{group_size}
use Rattle.windows.proofs.until.until_group.Goals as goal

pub read_window-requires-clause-carries_group : goal.read_window-requires-clause-carries_group
read_window-requires-clause-carries_group c =
    let a = c.args in
    λ lane b. none_read chains _ _ _ a.operands.until.bounds.lower _ (a.group.first + lane)
    (get_or-replicate group_size lane _ 0 (omega (arith, b, c.requires.1)) ∙ search rules)
    (get_or-replicate group_size lane _ 0 (omega (arith, b, c.requires.1)) ∙ search rules)
