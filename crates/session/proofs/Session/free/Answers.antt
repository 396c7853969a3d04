-- The place is the one that the search finds. Assumes nothing.
use Rattle.prelude.proofs.Basics.{ap, ◌∙◌}
use Rattle.session.proofs.Names.{session_of}
use Rattle.session.specs.Tables.{freed_at}
use Rattle.session.proofs.Session.free.Goals as goal

pub returns : goal.returns
returns c = c.free.ensures ∙ ap
    (λ p. freed_at (session_of c.args.self.words) p c.args.id) c.find_stmt-place.ensures
