-- The tests of the definition, by the type.
use Rattle.prelude.proofs.Basics.{ℕ, Bool, ◌&&◌, ◌≡◌, sym, ap, ◌∙◌, [], eq-eqb, ne_eqb}
use Rattle.prelude.proofs.Basics.{yes, no}
use Rattle.message.proofs.Names.{stmt_execute, rows_of, parts_in, merged, arguments_good, bodies_good, stmt_parts}
use Rattle.message.proofs.Names.{body_parts}
use Rattle.message.proofs.prepare.good_bodies.Goals as goal

pub returns-then-operation-ne-STMT_EXECUTE : goal.returns-then-operation-ne-STMT_EXECUTE
unfolding bodies_good
returns-then-operation-ne-STMT_EXECUTE c =
    let chosen : parts_in c.field_of-k.result c.args.s.now
    (stmt_parts c.args.s.now) ≡ body_parts c.args.s.now c.args.operation =
    ap (λ (k : ℕ). parts_in k c.args.s.now (stmt_parts c.args.s.now)) c.field_of-k.ensures.0 in
    c.is_message.ensures
    ∙ ap (λ bs. (merged [] c.args.s.now bs).good) chosen
    ∙ no _ _ (ne_eqb c.args.operation 5 c.if-operation-ne-STMT_EXECUTE.true)

pub returns-then-not-is_message : goal.returns-then-not-is_message
unfolding bodies_good
returns-then-not-is_message c =
    let chosen : parts_in c.field_of-k.result c.args.s.now
    (stmt_parts c.args.s.now) ≡ body_parts c.args.s.now c.args.operation =
    ap (λ (k : ℕ). parts_in k c.args.s.now (stmt_parts c.args.s.now)) c.field_of-k.ensures.0 in
    let judged : c.is_message-2.result ≡ (merged (rows_of stmt_execute) c.args.s.now
    (body_parts c.args.s.now c.args.operation)).good =
    (rw c.stmt_execute_rows-rows.ensures at c.is_message-2.ensures)
    ∙ ap (λ bs. (merged (rows_of stmt_execute) c.args.s.now bs).good) chosen in
    ap (λ (b : Bool). b && arguments_good c.args.s.now (body_parts c.args.s.now c.args.operation))
    (sym (c.if-not-is_message.true) ∙ judged)
    ∙ yes _ _ (eq-eqb c.args.operation 5 c.if-operation-ne-STMT_EXECUTE.false)

pub returns : goal.returns
unfolding bodies_good
returns c =
    let chosen : parts_in c.field_of-k.result c.args.s.now
    (stmt_parts c.args.s.now) ≡ body_parts c.args.s.now c.args.operation =
    ap (λ (k : ℕ). parts_in k c.args.s.now (stmt_parts c.args.s.now)) c.field_of-k.ensures.0 in
    let judged : c.is_message-2.result ≡ (merged (rows_of stmt_execute) c.args.s.now
    (body_parts c.args.s.now c.args.operation)).good =
    (rw c.stmt_execute_rows-rows.ensures at c.is_message-2.ensures)
    ∙ ap (λ bs. (merged (rows_of stmt_execute) c.args.s.now bs).good) chosen in
    c.good_arguments.ensures.answer
    ∙ ap (arguments_good c.args.s.now) chosen
    ∙ ap (λ (b : Bool). b && arguments_good c.args.s.now (body_parts c.args.s.now c.args.operation))
    (sym (c.if-not-is_message.false) ∙ judged)
    ∙ yes _ _ (eq-eqb c.args.operation 5 c.if-operation-ne-STMT_EXECUTE.false)
