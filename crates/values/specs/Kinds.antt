-- The kinds of the words that say a verdict, bits 31..28 ("The answer"). For contracts alone: what such a word says is in Said.antt.
use Rattle.std.specs.Prelude.{ℕ, cond, eqb, Option, Some, None}
use Rattle.values.specs.declared.VerdictKind.{VerdictKind}
use Rattle.values.specs.declared.VerdictKind.TheVariants.{Yes, No, InfiniteYes, InfiniteNo}

-- the kind by its number, none by another
unfoldable pub verdict_kind : ℕ → Option VerdictKind
verdict_kind k = cond (eqb k 9) (Some Yes) (cond (eqb k 10) (Some No) (cond (eqb k 11) (Some InfiniteYes) (cond (eqb k 12) (Some InfiniteNo) None)))
