-- The samples of the window lie in the words, and the fold goes over their values; until with a left operand that is always true comes to that.
use mathlib.Core.Path.{refl, sym, ◌∙◌}
use Prim.Native.Nat.{ℕ, ◌+◌, ◌<◌}
use native.Mathlib.Omega.{arith}
use Rattle.std.proofs.Common.{rules, tests}
use Rattle.std.proofs.iter.Serving.{serving}
use Rattle.std.proofs.lemmas.Iterator.{YieldsList-from_range, YieldsList-from_map}
use Rattle.values.specs.Chain.{chain_lattice}
use Rattle.values.specs.Signals.{turned}
use Rattle.operators.specs.Rows.{operand_signal}
use Rattle.operators.proofs.Bounds.{turned_bound}
use Rattle.windows.proofs.Bounds.{reached_inside, reached_end}
use Rattle.windows.proofs.Folds.{total_of, from_range}
use Rattle.windows.proofs.Windows.{eventually_all}
use Rattle.windows.proofs.eventually.greatest_ahead.Goals as goal

pub overflow_add-first : goal.overflow_add-first
overflow_add-first c = omega (arith, reached_end c.args.operand.words.now c.requires)

pub overflow_add-end : goal.overflow_add-end
overflow_add-end c = omega (arith, reached_end c.args.operand.words.now c.requires)

pub overflow_add-end-2 : goal.overflow_add-end-2
overflow_add-end-2 c = omega (arith, reached_end c.args.operand.words.now c.requires)

pub fold-requires-clause-can : goal.fold-requires-clause-can
fold-requires-clause-can c = grind (serving, (λ (u : ℕ) (b : u < c.args.t + c.args.bounds.upper + 1). reached_inside {u = u} c.requires b))

pub returns : goal.returns
returns c =
    let value : ℕ → ℕ = λ u. turned c.args.negated (operand_signal c.args.operand) u c.args.l in
    let bounds = c.requires.window.bounds in
    total_of c.fold.ensures.ran chain_lattice.join (λ a x b f k. search (rules, tests))
    (YieldsList-from_map _ value (YieldsList-from_range _ _ _ c.map.ensures.source refl) c.map.ensures.closure (λ u v f k. search (rules, tests)))
    ∙ from_range value c.bottom.ensures (omega (arith, bounds))
    ∙ sym (eventually_all (turned c.args.negated (operand_signal c.args.operand)) c.args.l (λ u. turned_bound c.args.negated _ _ _ u c.args.l) _ _ _ bounds)
