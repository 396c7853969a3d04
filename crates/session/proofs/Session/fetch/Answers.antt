-- The place is the one that the search finds. Assumes nothing.
use Rattle.prelude.proofs.Basics.{ap, ◌∙◌}
use Rattle.session.proofs.Names.{fetched_at, session_of}
use Rattle.session.proofs.Session.fetch.Goals as goal

pub returns : goal.returns
returns c = c.fetch.ensures ∙ ap
    (λ p. fetched_at (session_of c.args.self.words) p c.args.count) c.find_cursor-place.ensures
