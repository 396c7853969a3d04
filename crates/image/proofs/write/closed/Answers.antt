-- The flag decides. Assumes nothing.
use Rattle.prelude.proofs.Basics.{cond, ap, ◌∙◌}
use Rattle.session.proofs.EntryLaws.{bit_of}
use Rattle.image.proofs.write.closed.Goals as goal

pub returns : goal.returns
returns c = c.from.ensures ∙ bit_of c.is_closed.result ∙ ap (λ b. cond b 1 0) c.is_closed.ensures
