-- `args::judge::judge_arguments` meets its contract: each turn judges the argument at the place, if there is one.
-- Assumes nothing.
use Rattle.prelude.proofs.Basics.{◌-◌, length}
use Rattle.args.proofs.Names.{Marking}
use Rattle.args.proofs.Names.{inside_args}
use Rattle.args.proofs.JudgeLaws.{Judging}
use Rattle.args.proofs.judge.judge_arguments.Given as goal

abbrev pub invariant-loop-p : goal.invariant-loop-p
invariant-loop-p l = Judging l.s l.from l.p × Marking (inside_args l.s) l.s l.from l.p l.initial.padded l.padded

abbrev pub decreases-loop-p : goal.decreases-loop-p
decreases-loop-p l = length l.s - l.p
