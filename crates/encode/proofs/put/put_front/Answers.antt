-- `encode::put::put_front` meets its contract: past the end nothing is stored, and else the rest of the buffer is
-- copied over. Assumes nothing.
use Rattle.prelude.proofs.Basics.{arith}
use Rattle.encode.proofs.PutsLaws.{past_end, puts_cut}
use Rattle.encode.proofs.put.put_front.Goals as goal

pub returns-then-buf-at : goal.returns-then-buf-at
returns-then-buf-at c = past_end c.args.buf.now c.args.at c.args.src.now c.if-buf-at.true

pub returns : goal.returns
returns c = puts_cut (omega (arith, c.if-buf-at.false)) (omega (arith, c.requires, c.if-buf-at.false))
    c.copy_over.ensures
