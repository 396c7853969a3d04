-- The type, and the Execute with its length before it. Assumes nothing.
use Rattle.writer.proofs.Names.{puts_then, puts_counted, execute_payload, open_stmt_payload}
use Rattle.writer.proofs.payload.put_open_stmt.Goals as goal

pub returns : goal.returns
unfolding open_stmt_payload
returns c =
    puts_then c.put_number-p.ensures
    (puts_counted 2 (execute_payload c.args.draft c.args.args.now) c.execute_len.ensures
    c.put_prefix-q.ensures
    c.put_execute.ensures)
