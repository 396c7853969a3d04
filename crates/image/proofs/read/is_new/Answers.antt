-- What was not seen is not there; the rest is looked up.
use Rattle.prelude.proofs.Basics.{not, sym, ap, ◌∙◌, is_none}
use Rattle.image_rules.proofs.StoreLaws.{zero_none}
use Rattle.image.proofs.TakeLaws.{not_found}
use Rattle.image.proofs.read.is_new.Goals as goal

pub returns-then-not-seen : goal.returns-then-not-seen
returns-then-not-seen c = ap not c.if-not-seen.true ∙ sym (zero_none _ _ (c.requires c.if-not-seen.true))

pub returns-else-not-seen : goal.returns-else-not-seen
returns-else-not-seen c = not_found _ _ c.is_none.ensures ∙ ap is_none c.first_place.ensures
