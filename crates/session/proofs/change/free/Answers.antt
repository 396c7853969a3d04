-- The statement's cursor ends, then its place is emptied. Assumes nothing.
use Rattle.prelude.proofs.Basics.{ap, ◌∙◌}
use Rattle.session.proofs.Names.{no_stmt, stored_stmt}
use Rattle.session.proofs.change.free.Goals as goal

pub returns : goal.returns
returns c = c.put_stmt.ensures ∙ ap
    (λ s. stored_stmt s c.args.place no_stmt) c.end.ensures
