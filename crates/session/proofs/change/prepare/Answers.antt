-- The statement's cursor ends, then the statement is stored. Assumes nothing.
use Rattle.prelude.proofs.Basics.{ap, ◌∙◌}
use Rattle.session.proofs.Names.{new_stmt, stored_stmt}
use Rattle.session.proofs.change.prepare.Goals as goal

pub returns : goal.returns
returns c = c.put_stmt.ensures ∙ ap
    (λ s. stored_stmt s c.args.place (new_stmt c.args.id c.args.placeholders)) c.end.ensures
