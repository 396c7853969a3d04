-- `args::arguments::nth_argument` meets its contract: each turn of the loop is one law on `Counting`. Assumes nothing.
use Rattle.prelude.proofs.Basics.{◌-◌, length}
use Rattle.args.proofs.ArgumentsLaws.{Counting}
use Rattle.args.proofs.arguments.nth_argument.Given as goal

abbrev pub invariant-loop-p : goal.invariant-loop-p
invariant-loop-p l = Counting l.s l.from l.index l.p l.left

abbrev pub decreases-loop-p : goal.decreases-loop-p
decreases-loop-p l = length l.s - l.p
