-- `layout::found::once_more` meets its contract: one more than none is one, one more than some is two or more. Assumes
-- nothing.
use Rattle.layout.proofs.FieldsLaws.{more_than_none, more_than_some}
use Rattle.layout.proofs.found.once_more.Goals as goal

pub returns-then-times-eq0 : goal.returns-then-times-eq0
returns-then-times-eq0 c = more_than_none c.args.times c.if-times-eq0.true

pub returns-else-times-eq0 : goal.returns-else-times-eq0
returns-else-times-eq0 c = more_than_some c.args.times c.if-times-eq0.false
