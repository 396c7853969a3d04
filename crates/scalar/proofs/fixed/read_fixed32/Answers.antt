-- Each of the two tests that the value passes the end, and the value of `four`.
use Rattle.prelude.proofs.Basics.{arith}
use Rattle.scalar.proofs.FixedLaws.{fixed_bad, fixed_whole}
use Rattle.scalar.proofs.fixed.read_fixed32.Goals as goal

pub returns-then-s-lt4 : goal.returns-then-s-lt4
returns-then-s-lt4 c = fixed_bad 4 c.args.s.now c.args.at (omega arith)

pub returns-then-s-at : goal.returns-then-s-at
returns-then-s-at c = fixed_bad 4 c.args.s.now c.args.at (omega arith)

pub returns : goal.returns
returns c = fixed_whole 4 c.args.s.now c.args.at c.four.result
    (omega arith) c.four.ensures.0
