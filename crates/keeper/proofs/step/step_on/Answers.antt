-- What was decided is answered, and stands at the front of the buffer. Assumes nothing.
use Rattle.keeper.proofs.Names.{session_of}
use Rattle.keeper.proofs.StepLaws.{refuses, accepts}
use Rattle.keeper.proofs.step.step_on.Goals as goal

pub returns-in-Ok : goal.returns-in-Ok
returns-in-Ok c =
    accepts (session_of c.args.words.now) c.args.used c.args.request c.args.report c.args.buf.now c.requires
    c.in-Ok.ensures c.accept.ensures

pub returns-in-Err : goal.returns-in-Err
returns-in-Err c =
    refuses (session_of c.args.words.now) c.args.used c.args.request c.args.report c.args.buf.now c.requires
    c.in-Err.ensures c.of.ensures c.refuse.ensures
