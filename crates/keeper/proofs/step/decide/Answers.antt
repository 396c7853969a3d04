-- Closed comes first, then each request has its own function. Assumes nothing.
use Rattle.prelude.proofs.Basics.{refl}
use Rattle.std.specs.Prelude.{Ok}
use Rattle.keeper.proofs.Names.{Request, session_of}
use Rattle.keeper.proofs.ResultLaws.{handed_on}
use Rattle.keeper.proofs.StepLaws.{closed_refuses, unclosed, decides, decides_as, decides_err}
use Rattle.keeper.proofs.RequestLaws.{reset_looks, reset_sends, reset_after, session_close_looks}
use Rattle.keeper.proofs.RequestLaws.{just_ok, session_close_sends, session_close_after}
use Rattle.keeper.proofs.step.decide.Goals as goal

pub returns-in_err-unclosed : goal.returns-in_err-unclosed
returns-in_err-unclosed c =
    decides_err (handed_on _ _ c.from_residual.ensures)
    (closed_refuses (session_of c.args.words.now) c.args.request.now c.args.report c.in_err-unclosed.ensures)

pub returns-in-Reset : goal.returns-in-Reset
returns-in-Reset c =
    let s = session_of c.args.words.now in
    let r = c.args.report in
    decides_as s r (Ok just_ok) (session_of c.clear.new.words) c.in-Reset.is
    (decides s Request.Reset r (unclosed s c.in_ok-unclosed.ensures) (reset_looks s) refl (reset_sends s r)
    (reset_after s r c.clear.ensures))

pub returns-in-SessionClose : goal.returns-in-SessionClose
returns-in-SessionClose c =
    let s = session_of c.args.words.now in
    let r = c.args.report in
    decides_as s r (Ok just_ok) (session_of c.close-in-SessionClose.new.words) c.in-SessionClose.is
    (decides s Request.SessionClose r (unclosed s c.in_ok-unclosed.ensures) (session_close_looks s) refl
    (session_close_sends s r) (session_close_after s r c.close-in-SessionClose.ensures))
