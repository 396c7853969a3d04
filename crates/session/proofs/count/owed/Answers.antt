-- What was summed, and what is left to sum, is the whole. Assumes nothing.
use Rattle.prelude.proofs.Basics.{arith}
use Rattle.session.proofs.LoopLaws.{sums, sums_on, summed}
use Rattle.session.proofs.count.owed.Goals as goal

pub loop-i-init : goal.loop-i-init
loop-i-init c = sums

pub overflow_add-sum : goal.overflow_add-sum
overflow_add-sum c = omega (arith, c.owes-sum.ensures.1, c.loop-i.invariant.small)

pub loop-i-preserved : goal.loop-i-preserved
loop-i-preserved c =
    sums_on c.loop-i.invariant c.owes-sum.result c.loop-i-test.true c.owes-sum.ensures.0 c.owes-sum.ensures.1

pub returns : goal.returns
returns c = summed c.loop-i.invariant c.loop-i-test.false
