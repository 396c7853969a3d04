-- The entry looked up decides, whatever the report. Assumes nothing.
use Rattle.prelude.proofs.Basics.{refl}
use Rattle.keeper.proofs.Names.{Request, session_of}
use Rattle.keeper.proofs.ResultLaws.{handed_on}
use Rattle.keeper.proofs.StepLaws.{look_refuses, decides, decides_err}
use Rattle.keeper.proofs.RequestLaws.{close_looks, close_sends, close_after}
use Rattle.keeper.proofs.step.close.Goals as goal

pub returns-in_err-live : goal.returns-in_err-live
returns-in_err-live c r =
    let s = session_of c.args.words.now in
    decides_err (handed_on _ _ c.from_residual.ensures)
    (look_refuses s (Request.Close c.args.cursor) r c.requires
    (close_looks s c.args.cursor c.find_cursor-place.ensures c.cursor_at.ensures c.in_err-live.ensures))

pub returns : goal.returns
returns c r =
    let s = session_of c.args.words.now in
    decides s (Request.Close c.args.cursor) r c.requires
    (close_looks s c.args.cursor c.find_cursor-place.ensures c.cursor_at.ensures c.in_ok-live.ensures) refl
    (close_sends s c.args.cursor r)
    (close_after s c.args.cursor r c.end.ensures)
