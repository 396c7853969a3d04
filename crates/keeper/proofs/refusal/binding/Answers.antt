-- The tests stand in the order of the reasons 7, 8, 9. Assumes nothing.
use Rattle.prelude.proofs.Basics.{ap, ◌∙◌}
use Rattle.protocol.specs.Reason.{outcome_number}
use Rattle.protocol.specs.declared.reason.Reason.{Reason}
use Rattle.protocol.proofs.ReasonLaws.{some_reason}
use Rattle.keeper.proofs.ResultLaws.{handed_on}
use Rattle.keeper.proofs.ReasonLaws.{dead, alive, binding_dead, binding_kind, binding_few, binding_right}
use Rattle.keeper.proofs.refusal.binding.Goals as goal

pub returns-in_err-live : goal.returns-in_err-live
returns-in_err-live c =
    let h = dead c.args.stmt.live c.in_err-live.ensures (some_reason _) in
    ap outcome_number (handed_on _ _ c.from_residual.ensures) ∙ h.1 ∙ binding_dead c.args.stmt c.args.args h.0

pub returns-then-args-ne-NONE : goal.returns-then-args-ne-NONE
returns-then-args-ne-NONE c = binding_kind c.args.stmt c.args.args
    (alive c.args.stmt.live c.in_ok-live.ensures (some_reason Reason.NoStmt)) c.if-args-ne-NONE.true

pub returns-then-args-stmt : goal.returns-then-args-stmt
returns-then-args-stmt c = binding_few c.args.stmt c.args.args
    (alive c.args.stmt.live c.in_ok-live.ensures (some_reason Reason.NoStmt))
    c.if-args-ne-NONE.false c.if-args-stmt.true

pub returns : goal.returns
returns c = binding_right c.args.stmt c.args.args
    (alive c.args.stmt.live c.in_ok-live.ensures (some_reason Reason.NoStmt))
    c.if-args-ne-NONE.false c.if-args-stmt.false
