-- `reply::frame::put_error` meets its contract: the four fields stand one behind the other. Assumes nothing.
use Rattle.encode.proofs.PutsLaws.{puts_then}
use Rattle.reply.specs.Frame.{error_payload}
use Rattle.reply.proofs.frame.put_error.Goals as goal

pub returns : goal.returns
unfolding error_payload
returns c = puts_then (puts_then
    (puts_then c.put_number-code_at.ensures c.put_number-message_at.ensures) c.put_bytes-state_at.ensures)
    c.put_bytes.ensures
