-- `reply::frame::write_empty` meets its contract: the head is the whole frame, put where there is room.
-- Assumes nothing.
use Rattle.prelude.proofs.Basics.{arith, []}
use Rattle.encode.specs.Frame.{frame}
use Rattle.encode.proofs.PutsLaws.{puts_none, puts_room}
use Rattle.reply.proofs.frame.write_empty.Goals as goal

pub returns-then-buf-lt-EMPTY : goal.returns-then-buf-lt-EMPTY
returns-then-buf-lt-EMPTY c = puts_none (frame c.args.kind []) (omega arith)

pub returns : goal.returns
returns c = puts_room (omega arith) c.put_head.ensures
