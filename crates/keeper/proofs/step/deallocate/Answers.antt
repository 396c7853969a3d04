-- The entry looked up decides, whatever the report. Assumes nothing.
use Rattle.prelude.proofs.Basics.{refl}
use Rattle.keeper.proofs.Names.{Request, session_of}
use Rattle.keeper.proofs.ResultLaws.{handed_on}
use Rattle.keeper.proofs.StepLaws.{look_refuses, decides, decides_err}
use Rattle.keeper.proofs.RequestLaws.{deallocate_looks, deallocate_sends, deallocate_after}
use Rattle.keeper.proofs.step.deallocate.Goals as goal

pub returns-in_err-live : goal.returns-in_err-live
returns-in_err-live c r =
    let s = session_of c.args.words.now in
    decides_err (handed_on _ _ c.from_residual.ensures)
    (look_refuses s (Request.Deallocate c.args.stmt) r c.requires
    (deallocate_looks s c.args.stmt c.find_stmt-place.ensures c.stmt_at.ensures c.in_err-live.ensures))

pub returns : goal.returns
returns c r =
    let s = session_of c.args.words.now in
    decides s (Request.Deallocate c.args.stmt) r c.requires
    (deallocate_looks s c.args.stmt c.find_stmt-place.ensures c.stmt_at.ensures c.in_ok-live.ensures) refl
    (deallocate_sends s c.args.stmt r)
    (deallocate_after s c.args.stmt r c.find_stmt-place.ensures c.free.ensures)
