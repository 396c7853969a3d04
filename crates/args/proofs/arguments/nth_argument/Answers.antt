-- `args::arguments::nth_argument` meets its contract: each turn of the loop is one law on `Counting`. Assumes nothing.
use Rattle.prelude.proofs.Basics.{arith, sym, ap, ◌∙◌}
use Rattle.args.proofs.Names.{handed_out}
use Rattle.args.proofs.ArgumentsLaws.{count_starts, count_none, count_end, count_hit, count_on}
use Rattle.args.proofs.ArgumentsLaws.{advances}
use Rattle.args.proofs.arguments.nth_argument.Goals as goal

pub loop-p-init : goal.loop-p-init
loop-p-init c = count_starts c.args.s.now c.args.from c.args.index

pub returns-in_default : goal.returns-in_default
returns-in_default c = ap handed_out (count_none c.loop-p.invariant (sym
    c.next_argument.ensures ∙ c.in_default.is))

pub returns-then-left-eq0 : goal.returns-then-left-eq0
returns-then-left-eq0 c = c.handed_out.ensures ∙ ap handed_out (count_hit
    c.loop-p.invariant
    c.loop-p-test.true
    (sym c.next_argument.ensures
    ∙ c.in-Some.is) c.if-left-eq0.true)

pub loop-p-smaller : goal.loop-p-smaller
loop-p-smaller c = omega (
  arith,
  c.loop-p-test.true,
  advances c.args.s.now
      c.loop-p.p
      (sym c.next_argument.ensures ∙ c.in-Some.is),
)

pub loop-p-preserved : goal.loop-p-preserved
loop-p-preserved c = count_on c.loop-p.invariant
    c.loop-p-test.true
    (sym c.next_argument.ensures ∙ c.in-Some.is)
    c.if-left-eq0.false

pub returns : goal.returns
returns c = ap handed_out (count_end c.loop-p.invariant c.loop-p-test.false)
