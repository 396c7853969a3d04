-- The statement, the arguments and the cursors decide, and the report; the cursor is stored. Assumes nothing.
use Rattle.keeper.proofs.Names.{Request, session_of}
use Rattle.keeper.proofs.ResultLaws.{handed_on}
use Rattle.keeper.proofs.StepLaws.{look_refuses, report_refuses, decides, decides_err}
use Rattle.keeper.proofs.RequestLaws.{open_sends, open_after}
use Rattle.keeper.proofs.step.open.Goals as goal

pub returns-in_err-open : goal.returns-in_err-open
returns-in_err-open c =
    let s = session_of c.args.words.now in
    decides_err (handed_on _ _ c.from_residual.ensures)
    (look_refuses s (Request.Open c.args.o) c.args.report c.requires c.in_err-open.ensures)

pub returns-in_err-set : goal.returns-in_err-set
returns-in_err-set c =
    let s = session_of c.args.words.now in
    decides_err (handed_on _ _ c.from_residual-in_err-set.ensures)
    (report_refuses s (Request.Open c.args.o) c.args.report c.requires c.in_ok-open.ensures c.in_err-set.ensures.reason)

pub returns : goal.returns
returns c =
    let s = session_of c.args.words.now in
    decides s (Request.Open c.args.o) c.args.report c.requires c.in_ok-open.ensures c.in_ok-set.ensures.reason
    (open_sends s c.args.o c.args.report c.in_ok-set.ensures.found c.open_count-count.ensures c.opened.ensures)
    (open_after s c.args.o c.args.report c.cursor_place-place.ensures c.in_ok-set.ensures.found
    c.open_count-count.ensures c.open-2.ensures)
