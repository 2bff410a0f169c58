-- The samples of the window lie in the words.
use native.Mathlib.Omega.{arith}
use Rattle.windows.proofs.Bounds.{reached_end}
use Rattle.windows.proofs.eventually.greatest_next.Goals as goal

pub overflow_add-t : goal.overflow_add-t
overflow_add-t c = omega (arith, reached_end c.args.operand.words.now c.requires.0, c.requires.0.window.bounds)

pub overflow_add-t-then-leaving-former : goal.overflow_add-t-then-leaving-former
overflow_add-t-then-leaving-former c = omega (arith, reached_end c.args.operand.words.now c.requires.0)

pub overflow_add-t-then-leaving-former-2 : goal.overflow_add-t-then-leaving-former-2
overflow_add-t-then-leaving-former-2 c = omega (arith, reached_end c.args.operand.words.now c.requires.0)

pub overflow_add-t-2 : goal.overflow_add-t-2
overflow_add-t-2 c = omega (arith, reached_end c.args.operand.words.now c.requires.0)
