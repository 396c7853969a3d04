-- What was counted, and what is left to count, is the whole. Assumes nothing.
use Rattle.prelude.proofs.Basics.{arith, cond, ap, ◌∙◌}
use Rattle.session.proofs.Names.{flag}
use Rattle.session.proofs.EntryLaws.{bit_of, bit_small}
use Rattle.session.proofs.LoopLaws.{sums, sums_on, summed}
use Rattle.session.proofs.count.cursor_count.Goals as goal

pub loop-i-init : goal.loop-i-init
loop-i-init c = sums

pub overflow_add-sum : goal.overflow_add-sum
overflow_add-sum c = omega (arith, c.from-sum.ensures, bit_small (flag c.cursor_live.result), c.loop-i.invariant.small)

pub loop-i-preserved : goal.loop-i-preserved
loop-i-preserved c =
    sums_on c.loop-i.invariant c.from-sum.result c.loop-i-test.true
    (c.from-sum.ensures ∙ bit_of (flag c.cursor_live.result) ∙ ap (λ n. cond (flag n) 1 0) c.cursor_live.ensures)
    (omega (arith, c.from-sum.ensures, bit_small (flag c.cursor_live.result)))

pub returns : goal.returns
returns c = summed c.loop-i.invariant c.loop-i-test.false
