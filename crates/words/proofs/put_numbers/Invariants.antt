-- The numbers that are stored already are the first ones of the list; once all are, they pin every byte.
use Prim.Native.Nat.{◌≤◌, ◌-◌, ◌^◌}
use mathlib.Core.Path.{◌≡◌}
use lib.ListN.{length, take}
use Rattle.words.specs.Bytes.{words_of, numbers_of}
use Rattle.words.proofs.Below.{Below}
use Rattle.words.proofs.put_numbers.Given as goal

abbrev pub invariant-loop-i : goal.invariant-loop-i
invariant-loop-i l = (l.i ≤ length l.numbers) × (length l.s ≡ length l.initial.s) × Below (2 ^ 8) l.s × (take l.i (numbers_of (words_of l.s)) ≡ take l.i l.numbers)

abbrev pub decreases-loop-i : goal.decreases-loop-i
decreases-loop-i l = length l.numbers - l.i
