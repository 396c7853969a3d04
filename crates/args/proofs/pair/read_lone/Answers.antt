-- Each test of the code is the test of the definition at the same bytes.
use Rattle.prelude.proofs.Basics.{arith}
use Rattle.args.proofs.PairLaws.{lone_longer, lone_past, lone_other, lone_long, lone_found}
use Rattle.args.proofs.pair.read_lone.Goals as goal

pub returns-then-n-ne-LONE_BYTES : goal.returns-then-n-ne-LONE_BYTES
returns-then-n-ne-LONE_BYTES c = lone_longer c.args.s.now c.args.at c.args.n c.if-n-ne-LONE_BYTES.true

pub returns-then-s-at : goal.returns-then-s-at
returns-then-s-at c = lone_past c.args.s.now c.args.at c.args.n (omega arith) (omega arith)

pub returns-then-s-at-lt-LONE_BYTES : goal.returns-then-s-at-lt-LONE_BYTES
returns-then-s-at-lt-LONE_BYTES c = lone_past c.args.s.now c.args.at c.args.n (omega arith)
    (omega arith)

pub returns-then-s-at-ne-FIRST_TAG : goal.returns-then-s-at-ne-FIRST_TAG
returns-then-s-at-ne-FIRST_TAG c = lone_other c.args.s.now c.args.at c.args.n
    (omega arith) (omega arith) c.if-s-at-ne-FIRST_TAG.true

pub returns-then-first-ge128 : goal.returns-then-first-ge128
returns-then-first-ge128 c =
    lone_long c.args.s.now c.args.at c.args.n (omega arith) (omega arith)
    (omega arith) c.from-first.result c.from-first.ensures
    c.if-first-ge128.true

pub returns : goal.returns
returns c =
    lone_found c.args.s.now c.args.at c.args.n (omega arith) (omega arith)
    (omega arith) c.from-first.result c.from-first.ensures
    (omega arith)
