-- The place is the one that the search finds. Assumes nothing.
use Rattle.prelude.proofs.Basics.{ap, ◌∙◌}
use Rattle.session.proofs.Names.{session_of}
use Rattle.session.specs.Tables.{opened_at}
use Rattle.session.proofs.Session.open.Goals as goal

pub returns : goal.returns
returns c = c.open.ensures ∙ ap
    (λ p. opened_at (session_of c.args.self.words) p c.args.id c.args.stmt c.args.rows c.args.sent)
    c.cursor_place-place.ensures
