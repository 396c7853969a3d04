-- `reply::text::put_unsupported` meets its contract: its parts stand one behind the other. Assumes nothing.
use Rattle.encode.proofs.PutsLaws.{puts_then}
use Rattle.reply.proofs.text.put_unsupported.Goals as goal

pub returns : goal.returns
returns c = puts_then (puts_then c.put_numbered-at.ensures c.put_kind-next.ensures)
    c.put_slice.ensures
