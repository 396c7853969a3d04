-- The words before the flag are zeroed, then the flag is set. Assumes nothing.
use Rattle.prelude.proofs.Basics.{ap, ◌∙◌}
use Rattle.session.proofs.Names.{with_closed}
use Rattle.session.proofs.words.close.Goals as goal

pub returns : goal.returns
returns c = c.set_closed.ensures ∙ ap (λ s. with_closed s 1) c.wipe.ensures
