-- The numbers of the kinds of words, bits 31..28 ("The sheet", "The answer", M-104).
use Rattle.std.specs.Prelude.{ℕ}
use Rattle.checks.specs.declared.kind.Kind.{Kind}
use Rattle.checks.specs.declared.kind.Kind.TheVariants.{Head, Road, Weight, Sample, Line, Lower, Upper, Constant, Wide, Answer, AnswerLine, End}

abbrev pub kind_number : Kind → ℕ
kind_number Head = 1
kind_number Road = 2
kind_number Weight = 3
kind_number Sample = 4
kind_number Line = 5
kind_number Lower = 6
kind_number Upper = 7
kind_number Constant = 8
kind_number Wide = 10
kind_number Answer = 13
kind_number AnswerLine = 14
kind_number End = 15
