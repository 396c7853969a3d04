-- `reply::frame::write_end` meets its contract: one empty frame behind the other. Assumes nothing.
use Rattle.prelude.proofs.Basics.{arith, refl, [], ◌++◌}
use Rattle.encode.specs.Frame.{frame}
use Rattle.encode.proofs.PutsLaws.{puts_none, puts_room, puts_then, puts_rest}
use Rattle.reply.specs.Frame.{stmt_execute_ok}
use Rattle.reply.proofs.frame.write_end.Goals as goal

pub returns-then-buf : goal.returns-then-buf
returns-then-buf c = puts_none (frame c.args.kind [] ++ stmt_execute_ok) (omega arith)

pub returns : goal.returns
returns c = let n = c.put_head-n.ensures.behind in
    puts_room (omega arith)
    (puts_then c.put_head-n.ensures (puts_rest (omega (arith, n)) refl c.put_head-m.ensures))
