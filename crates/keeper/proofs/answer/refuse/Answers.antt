-- The Error that is put is the one of the names. Assumes nothing.
use Rattle.prelude.proofs.Basics.{ap}
use Rattle.protocol.specs.Reason.{number_of}
use Rattle.keeper.specs.private.Does.{refusing}
use Rattle.keeper.proofs.AnswerLaws.{answers_as, error_as}
use Rattle.keeper.proofs.answer.refuse.Goals as goal

pub returns : goal.returns
returns c =
    answers_as (ap (refusing c.args.used) c.from.ensures)
    (error_as (number_of c.args.reason) c.args.names c.args.report c.from.ensures c.wire_code.ensures
    c.number_named.ensures c.kind_named.ensures)
    c.put_reply-n.ensures
