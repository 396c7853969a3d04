-- A StmtExecute's arguments are found in one pass; of any other body the answer alone counts.
use Rattle.prelude.proofs.Basics.{arith, true, refl, sym, ◌∙◌, []}
use Rattle.message.proofs.Names.{embedded, held_good, bound_found}
use Rattle.message.proofs.MessageLaws.{body_list_bad, body_list}
use Rattle.message.proofs.BoundLaws.{body_lost, body_lacks, body_found}
use Rattle.message.proofs.prepare.long_body.Goals as goal

pub returns-in_default : goal.returns-in_default
returns-in_default c =
    c.bad.ensures
    ∙ body_lost c.args.s.now c.args.operation c.args.at c.args.n c.if-operation-eq-STMT_EXECUTE.true
    (sym c.in_default.is ∙ c.read_bound.ensures.answer)

pub returns-in_default-one : goal.returns-in_default-one
returns-in_default-one c =
    c.bad-in_default-one.ensures
    ∙ body_lacks c.args.s.now c.args.operation c.args.at c.args.n c.if-operation-eq-STMT_EXECUTE.true
    (sym c.in-Some.is ∙ c.read_bound.ensures.answer) c.in_default-one.is

pub overflow_add-at : goal.overflow_add-at
overflow_add-at c =
    let f = bound_found true c.args.s.now c.args.at c.args.n (sym c.in-Some.is ∙ c.read_bound.ensures.answer) in
    record { fits = omega (arith, f.inside) }

pub returns-then-operation-eq-STMT_EXECUTE : goal.returns-then-operation-eq-STMT_EXECUTE
returns-then-operation-eq-STMT_EXECUTE c =
    c.arguments.ensures
    ∙ body_found c.args.s.now c.args.operation c.args.at c.args.n c.if-operation-eq-STMT_EXECUTE.true
    (sym c.in-Some.is ∙ c.read_bound.ensures.answer) c.in-Some-one.is

pub returns-then-not-fill_part : goal.returns-then-not-fill_part
returns-then-not-fill_part c =
    c.bad-then-not-fill_part.ensures
    ∙ body_list_bad c.args.s.now c.args.operation c.args.at c.args.n (embedded [] c.args.s.now c.args.at c.args.n)
    c.if-operation-eq-STMT_EXECUTE.false refl
    (held_good c.fill_part.ensures.holds (c.if-not-fill_part.true))

pub returns : goal.returns
returns c =
    c.none.ensures
    ∙ body_list c.args.s.now c.args.operation c.args.at c.args.n (embedded [] c.args.s.now c.args.at c.args.n)
    c.if-operation-eq-STMT_EXECUTE.false refl
    (held_good c.fill_part.ensures.holds (c.if-not-fill_part.false))
