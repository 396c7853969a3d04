-- `reply::text::put_numbered` meets its contract: the three parts stand one behind the other. Assumes nothing.
use Rattle.encode.proofs.PutsLaws.{puts_then}
use Rattle.reply.proofs.text.put_numbered.Goals as goal

pub returns : goal.returns
returns c = puts_then (puts_then c.put_slice-at.ensures c.put_decimal-next.ensures)
    c.put_slice.ensures
