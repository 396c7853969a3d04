-- `reply::write_reply` meets its contract: one law of `ReplyLaws` for each reply. Assumes nothing.
use Rattle.prelude.proofs.Basics.{arith}
use Rattle.encode.proofs.PutsLaws.{equations, puts_room, puts_nothing}
use Rattle.reply.proofs.ReplyLaws.{reply_nothing, reply_ok, reply_suspended, reply_done, reply_executed}
use Rattle.reply.proofs.ReplyLaws.{reply_error}
use Rattle.reply.proofs.write_reply.Goals as goal

pub returns-in-Nothing : goal.returns-in-Nothing
returns-in-Nothing c = equations (reply_nothing c.in-Nothing.is)
    (puts_room (omega arith) (puts_nothing c.args.buf.now 0))

pub returns-in-Ok : goal.returns-in-Ok
returns-in-Ok c = equations (reply_ok c.in-Ok.is)
    c.write_empty.ensures

pub returns-in-Suspended : goal.returns-in-Suspended
returns-in-Suspended c = equations (reply_suspended c.in-Suspended.is)
    c.write_end.ensures

pub returns-in-Done : goal.returns-in-Done
returns-in-Done c = equations (reply_done c.in-Done.is)
    c.write_end-in-Done.ensures

pub returns-in-Executed : goal.returns-in-Executed
returns-in-Executed c = equations (reply_executed c.in-Executed.is)
    c.write_empty-in-Executed.ensures

pub returns-in-Error : goal.returns-in-Error
returns-in-Error c = equations (reply_error c.in-Error.is)
    c.write_refusal.ensures
