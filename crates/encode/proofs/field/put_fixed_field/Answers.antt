-- `encode::field::put_fixed_field` meets its contract: the value stands behind the tag. Assumes nothing.
use Rattle.encode.specs.Field.{fixed_field}
use Rattle.encode.proofs.PutsLaws.{puts_then}
use Rattle.encode.proofs.field.put_fixed_field.Goals as goal

pub returns : goal.returns
unfolding fixed_field
returns c = puts_then c.put_tag-next.ensures c.put_fixed.ensures
