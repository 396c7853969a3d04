-- `encode::field::put_prefix` meets its contract: the count stands behind the tag. Assumes nothing.
use Rattle.encode.proofs.PutsLaws.{puts_then}
use Rattle.encode.proofs.field.put_prefix.Goals as goal

pub returns : goal.returns
returns c = puts_then c.put_tag-next.ensures
    c.put_varint.ensures
