-- The fold goes from the start of a line to that of the next, and each lies low.
use mathlib.Core.Path.{◌≡◌, refl, ap, ◌∙◌}
use Prim.Native.Nat.{◌-◌, ◌<◌, ◌^◌}
use native.Mathlib.Omega.{arith}
use lib.ListN.{length}
use Rattle.std.proofs.Common.{rules}
use Rattle.std.specs.List.{fold}
use Rattle.std.proofs.lemmas.Iterator.{YieldsList-from_range}
use Rattle.std.proofs.lemmas.List.FromFn.{length-range_with_len}
use Rattle.words.specs.Bytes.{words_of}
use Rattle.counting.proofs.Folds.{total_of, callable_of}
use Rattle.lookup.specs.Lookup.{line_start}
use Rattle.lookup.proofs.Walk.{next_of, start_told, start_small}
use Rattle.lookup.proofs.line_start.Goals as goal

pub fold-requires-clause-callable : goal.fold-requires-clause-callable
fold-requires-clause-callable c =
    let a = words_of c.args.answer.now in
    callable_of (next_of a) (λ at x b f k. search rules) (YieldsList-from_range 0 c.args.i (c.args.i - 0) refl refl) (λ before x l.
    let low : fold (next_of a) c.head_words.result before < 2 ^ 36 = start_small a (length before) (start_told a before (search rules)) (omega (arith, l, length-range_with_len 0 (c.args.i - 0), c.requires)) in
    search rules)

pub returns : goal.returns
returns c =
    let a = words_of c.args.answer.now in
    let whole : c.args.i - 0 ≡ c.args.i = omega arith in
    total_of c.fold.ensures.ran (next_of a) (λ at x b f k. search rules) (YieldsList-from_range 0 c.args.i (c.args.i - 0) refl refl)
    ∙ start_told a _ (search rules) ∙ ap (line_start a) (length-range_with_len 0 (c.args.i - 0) ∙ whole)
