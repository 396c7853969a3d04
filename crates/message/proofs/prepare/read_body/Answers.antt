-- A text alone is a body without arguments; anything else goes the long way.
use Rattle.prelude.proofs.Basics.{arith, sym, ◌∙◌}
use Rattle.message.proofs.Names.{told}
use Rattle.message.proofs.BoundLaws.{body_text}
use Rattle.message.proofs.prepare.read_body.Goals as goal

pub overflow_add-at : goal.overflow_add-at
overflow_add-at c = let x = told c.args.s.now
    c.args.at
    c.args.n (sym c.read_text.ensures.answer ∙ c.in-Some.is) in record { fits = omega (arith, x.0) }

pub returns-in-Some : goal.returns-in-Some
returns-in-Some c =
    c.none.ensures
    ∙ body_text c.args.s.now c.args.operation c.args.at c.args.n c.if-operation-eq-STMT_EXECUTE.true
    (sym c.read_text.ensures.answer ∙ c.in-Some.is)
