-- The statement and the arguments decide, and the report; the statement's cursor ends. Assumes nothing.
use Rattle.keeper.proofs.Names.{Request, session_of}
use Rattle.keeper.proofs.ResultLaws.{handed_on}
use Rattle.keeper.proofs.StepLaws.{look_refuses, report_refuses, decides, decides_err}
use Rattle.keeper.proofs.RequestLaws.{execute_sends, execute_after}
use Rattle.keeper.proofs.step.execute.Goals as goal

pub returns-in_err-execute : goal.returns-in_err-execute
returns-in_err-execute c =
    let s = session_of c.args.words.now in
    decides_err (handed_on _ _ c.from_residual.ensures)
    (look_refuses s (Request.Execute c.args.x) c.args.report c.requires c.in_err-execute.ensures)

pub returns-in_err-set : goal.returns-in_err-set
returns-in_err-set c =
    let s = session_of c.args.words.now in
    decides_err (handed_on _ _ c.from_residual-in_err-set.ensures)
    (report_refuses s (Request.Execute c.args.x) c.args.report c.requires c.in_ok-execute.ensures
    c.in_err-set.ensures.reason)

pub returns : goal.returns
returns c =
    let s = session_of c.args.words.now in
    decides s (Request.Execute c.args.x) c.args.report c.requires c.in_ok-execute.ensures
    c.in_ok-set.ensures.reason (execute_sends s c.args.x c.args.report c.in_ok-set.ensures.found c.all.ensures)
    (execute_after s c.args.x c.args.report c.end.ensures)
