-- By the reason, each arm computes. Assumes nothing.
use Rattle.prelude.proofs.Basics.{inl, inr}
use Rattle.protocol.specs.Reason.{number_of}
use Rattle.protocol.specs.declared.reason.Reason.{Reason}
use Rattle.protocol.proofs.ReasonLaws.{number_once}
use Rattle.keeper.specs.private.Does.{number_named}
use Rattle.keeper.proofs.AnswerLaws.{number_none}
use Rattle.keeper.proofs.answer.number_named.Goals as goal

pub returns-in-NoStmt : goal.returns-in-NoStmt
unfolding number_named
returns-in-NoStmt c = rw c.in-NoStmt.is

pub returns-in-NotScalar : goal.returns-in-NotScalar
unfolding number_named
returns-in-NotScalar c = rw c.in-NotScalar.is

pub returns-in-FewArguments : goal.returns-in-FewArguments
unfolding number_named
returns-in-FewArguments c = rw c.in-FewArguments.is

pub returns-in-NoCursor : goal.returns-in-NoCursor
unfolding number_named
returns-in-NoCursor c = elim c.in-NoCursor.is [ inl e ↦ rw e | inr e ↦ rw e ]

pub returns-in_default : goal.returns-in_default
returns-in_default c =
    let x = c.args.reason in
    let d = c.in_default in
    number_none (number_of x) c.args.names
    (λ e. d.not-NoStmt (number_once x Reason.NoStmt e))
    (λ e. d.not-NotScalar (number_once x Reason.NotScalar e))
    (λ e. d.not-FewArguments (number_once x Reason.FewArguments e))
    (λ e. d.not-NoCursor (number_once x Reason.NoCursor e))
    (λ e. d.not-AllSent (number_once x Reason.AllSent e))
