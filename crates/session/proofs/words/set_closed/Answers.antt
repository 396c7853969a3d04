-- The last word alone is stored. Assumes nothing.
use Rattle.session.proofs.WordLaws.{closed_stored}
use Rattle.session.proofs.words.set_closed.Goals as goal

pub returns : goal.returns
returns c = closed_stored c.args.words.now 1 c.requires
