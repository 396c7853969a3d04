-- Words that are all 0 hold the fresh session. Assumes nothing.
use Rattle.session.proofs.Names.{word_count}
use Rattle.session.proofs.WordLaws.{holds_fresh}
use Rattle.session.proofs.Session.fresh.Goals as goal

pub returns : goal.returns
returns c = holds_fresh word_count
