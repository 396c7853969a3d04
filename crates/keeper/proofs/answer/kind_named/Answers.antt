-- 8 alone names a type. Assumes nothing.
use Rattle.protocol.specs.Reason.{number_of}
use Rattle.protocol.specs.declared.reason.Reason.{Reason}
use Rattle.protocol.proofs.ReasonLaws.{number_once}
use Rattle.keeper.specs.private.Does.{kind_named}
use Rattle.keeper.proofs.AnswerLaws.{kind_none}
use Rattle.keeper.proofs.answer.kind_named.Goals as goal

pub returns-in-NotScalar : goal.returns-in-NotScalar
unfolding kind_named
returns-in-NotScalar c = rw c.in-NotScalar.is

pub returns-in_default : goal.returns-in_default
returns-in_default c = kind_none (number_of c.args.reason) c.args.names
    (λ e. c.in_default.not-NotScalar (number_once c.args.reason Reason.NotScalar e))
