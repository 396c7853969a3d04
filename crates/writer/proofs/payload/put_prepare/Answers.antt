-- The id, and the statement with its length before it. Assumes nothing.
use Rattle.writer.proofs.Names.{puts_then, puts_counted, prepare_stmt_payload, prepare_payload}
use Rattle.writer.proofs.payload.put_prepare.Goals as goal

pub returns : goal.returns
unfolding prepare_payload
returns c =
    puts_then c.put_number-p.ensures
    (puts_counted 2 (prepare_stmt_payload c.args.draft c.args.body.now) c.prepare_stmt_len.ensures
    c.put_prefix-q.ensures
    c.put_prepare_stmt.ensures)
