-- `reply::code_of` meets its contract: past the table the definition answers 0 too. Assumes nothing.
use Rattle.prelude.proofs.Basics.{arith, sym, List·getD-eq-default}
use Rattle.reply.specs.Reply.{codes}
use Rattle.reply.proofs.code_of.Goals as goal

pub returns-then-reason-gt-BODY_TWICE : goal.returns-then-reason-gt-BODY_TWICE
returns-then-reason-gt-BODY_TWICE c = sym (List·getD-eq-default codes 0 {n = c.args.reason} (omega arith))
