-- The place is the one that the search finds. Assumes nothing.
use Rattle.prelude.proofs.Basics.{ap, ◌∙◌}
use Rattle.session.proofs.Names.{session_of}
use Rattle.session.specs.Tables.{prepared_at}
use Rattle.session.proofs.Session.prepare.Goals as goal

pub returns : goal.returns
returns c = c.prepare.ensures ∙ ap
    (λ p. prepared_at (session_of c.args.self.words) p c.args.id c.args.placeholders) c.stmt_place-place.ensures
