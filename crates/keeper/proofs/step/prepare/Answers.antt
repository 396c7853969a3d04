-- The place that the statement takes decides, and the report; it is stored there. Assumes nothing.
use Rattle.keeper.proofs.Names.{Request, session_of}
use Rattle.keeper.proofs.ResultLaws.{handed_on}
use Rattle.keeper.proofs.StepLaws.{look_refuses, report_refuses, decides, decides_err}
use Rattle.keeper.proofs.RequestLaws.{prepare_looks, prepare_sends, prepare_after}
use Rattle.keeper.proofs.step.prepare.Goals as goal

pub returns-in_err-room : goal.returns-in_err-room
returns-in_err-room c =
    let s = session_of c.args.words.now in
    let q = Request.Prepare c.args.p in
    decides_err (handed_on _ _ c.from_residual.ensures)
    (look_refuses s q c.args.report c.requires
    (prepare_looks s c.args.p c.stmt_place-place.ensures c.in_err-room.ensures))

pub returns-in_err-placeholders : goal.returns-in_err-placeholders
returns-in_err-placeholders c =
    let s = session_of c.args.words.now in
    let q = Request.Prepare c.args.p in
    decides_err (handed_on _ _ c.from_residual-in_err-placeholders.ensures)
    (report_refuses s q c.args.report c.requires
    (prepare_looks s c.args.p c.stmt_place-place.ensures c.in_ok-room.ensures)
    c.in_err-placeholders.ensures.reason)

pub returns : goal.returns
returns c =
    let s = session_of c.args.words.now in
    let q = Request.Prepare c.args.p in
    decides s q c.args.report c.requires
    (prepare_looks s c.args.p c.stmt_place-place.ensures c.in_ok-room.ensures)
    c.in_ok-placeholders.ensures.reason (prepare_sends s c.args.p c.args.report)
    (prepare_after s c.args.p c.args.report c.stmt_place-place.ensures c.in_ok-placeholders.ensures.found
    c.prepare.ensures)
