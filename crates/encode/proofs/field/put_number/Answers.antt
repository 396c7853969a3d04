-- `encode::field::put_number` meets its contract: the value stands behind the tag. Assumes nothing.
use Rattle.prelude.proofs.Basics.{◌*◌, add-zero, ap}
use Rattle.varint.specs.Shortest.{varint_bytes}
use Rattle.encode.specs.Field.{number_field}
use Rattle.encode.proofs.PutsLaws.{puts_then, puts_as}
use Rattle.encode.proofs.field.put_number.Goals as goal

pub returns : goal.returns
unfolding number_field
returns c = puts_then (puts_as (ap varint_bytes (add-zero (c.args.num * 8))) c.put_tag-next.ensures) c.put_varint.ensures
