-- What is left from the place on answers for the whole stretch.
use Rattle.prelude.proofs.Basics.{◌-◌, length}
use Rattle.writer.proofs.JudgeLaws.{Judging}
use Rattle.writer.proofs.judge.is_stretch.Given as goal

abbrev pub invariant-loop-p : goal.invariant-loop-p
invariant-loop-p l = Judging l.s l.p

abbrev pub decreases-loop-p : goal.decreases-loop-p
decreases-loop-p l = length l.s - l.p
