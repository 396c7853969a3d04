-- Closed where the flag is not 0.
use Rattle.prelude.proofs.Basics.{ap, ◌∙◌}
use Rattle.session.specs.Tables.{closed_now}
use Rattle.image.proofs.WholeLaws.{begun_open, begun_shut}
use Rattle.image.proofs.read.begin.Goals as goal

pub returns-then-closed-ne0 : goal.returns-then-closed-ne0
returns-then-closed-ne0 c = c.close.ensures ∙ ap closed_now c.requires ∙ begun_shut _ c.if-closed-ne0.true

pub returns-else-closed-ne0 : goal.returns-else-closed-ne0
returns-else-closed-ne0 c = c.requires ∙ begun_open _ c.if-closed-ne0.false
