-- No kind has the number 0, which is read where there is no word.
use Prim.Native.Nat.{◌<◌}
use native.Mathlib.Omega.{arith}
use Rattle.checks.specs.declared.kind.Kind.{Kind}
use Rattle.checks.specs.declared.kind.Kind.TheVariants.{Head, Road, Weight, Sample, Line, Lower, Upper, Constant, Wide, Answer, AnswerLine, End}
use Rattle.checks.specs.Kinds.{kind_number}

pub some_kind : (k : Kind) → 0 < kind_number k
some_kind Head = omega arith
some_kind Road = omega arith
some_kind Weight = omega arith
some_kind Sample = omega arith
some_kind Line = omega arith
some_kind Lower = omega arith
some_kind Upper = omega arith
some_kind Constant = omega arith
some_kind Wide = omega arith
some_kind Answer = omega arith
some_kind AnswerLine = omega arith
some_kind End = omega arith
