-- From candidate to candidate, by `Walking`.
use Rattle.words.specs.Bytes.{words_of}
use Rattle.clashes.proofs.Walking.{Walking, one_more}
use Rattle.clashes.proofs.find_same.Given as goal

abbrev pub invariant-loop-candidate : goal.invariant-loop-candidate
invariant-loop-candidate l = Walking (words_of l.list.words.now) l.list.grid l.part l.k (one_more l.candidate)

abbrev pub decreases-loop-candidate : goal.decreases-loop-candidate
decreases-loop-candidate l = one_more l.candidate
