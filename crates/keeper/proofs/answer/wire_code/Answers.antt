-- A failure has the engine's code, any other the table's. Assumes nothing.
use Rattle.prelude.proofs.Basics.{◌∙◌, ap}
use Rattle.protocol.specs.declared.reason.Reason.{Reason}
use Rattle.protocol.specs.Reason.{number_of}
use Rattle.reply.specs.Reply.{code_of}
use Rattle.protocol.proofs.ReasonLaws.{number_once}
use Rattle.keeper.proofs.AnswerLaws.{code_own, code_listed}
use Rattle.keeper.proofs.answer.wire_code.Goals as goal

pub returns-in-EngineFailed : goal.returns-in-EngineFailed
returns-in-EngineFailed c = code_own c.args.report (number_of c.args.reason) (ap number_of c.in-EngineFailed.is)

pub returns-in_default : goal.returns-in_default
returns-in_default c =
    let n = number_of c.args.reason in
    c.code_of.ensures ∙ ap code_of c.from.ensures ∙ code_listed c.args.report n
    (λ e. c.in_default.not-EngineFailed (number_once c.args.reason Reason.EngineFailed e))
