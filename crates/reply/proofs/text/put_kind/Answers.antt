-- `reply::text::put_kind` meets its contract: the type decides which of two words is put. Assumes nothing.
use Rattle.encode.proofs.PutsLaws.{puts_as}
use Rattle.reply.proofs.TextLaws.{kind_array, kind_object}
use Rattle.reply.proofs.text.put_kind.Goals as goal

pub returns-then-kind-eq-ARRAY : goal.returns-then-kind-eq-ARRAY
returns-then-kind-eq-ARRAY c = puts_as
    (kind_array c.args.kind c.if-kind-eq-ARRAY.true) c.put_slice.ensures

pub returns-else-kind-eq-ARRAY : goal.returns-else-kind-eq-ARRAY
returns-else-kind-eq-ARRAY c = puts_as
    (kind_object c.args.kind c.if-kind-eq-ARRAY.false) c.put_slice-else-kind-eq-ARRAY.ensures
