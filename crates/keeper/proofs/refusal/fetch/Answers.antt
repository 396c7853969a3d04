-- The tests stand in the order of the reasons 10, 11. Assumes nothing.
use Rattle.prelude.proofs.Basics.{ap, ◌∙◌}
use Rattle.protocol.specs.Reason.{outcome_number}
use Rattle.protocol.specs.declared.reason.Reason.{Reason}
use Rattle.protocol.proofs.ReasonLaws.{some_reason}
use Rattle.keeper.proofs.ResultLaws.{handed_on}
use Rattle.keeper.proofs.ReasonLaws.{dead, alive, fetch_dead, fetch_sent, fetch_more}
use Rattle.keeper.proofs.refusal.fetch.Goals as goal

pub returns-in_err-live : goal.returns-in_err-live
returns-in_err-live c =
    let h = dead c.args.cursor.live c.in_err-live.ensures (some_reason _) in
    ap outcome_number (handed_on _ _ c.from_residual.ensures) ∙ h.1 ∙ fetch_dead c.args.cursor h.0

pub returns-then-cursor : goal.returns-then-cursor
returns-then-cursor c = fetch_sent c.args.cursor
    (alive c.args.cursor.live c.in_ok-live.ensures (some_reason Reason.NoCursor)) c.if-cursor.true

pub returns : goal.returns
returns c = fetch_more c.args.cursor
    (alive c.args.cursor.live c.in_ok-live.ensures (some_reason Reason.NoCursor)) c.if-cursor.false
