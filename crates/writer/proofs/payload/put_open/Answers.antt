-- The cursor id, the statement with its length before it and fetch_rows, one behind the other. Assumes nothing.
use Rattle.writer.proofs.Names.{optional_told, puts_then, puts_as, puts_counted, open_stmt_payload, open_payload}
use Rattle.writer.proofs.payload.put_open.Goals as goal

pub returns : goal.returns
unfolding open_payload
returns c =
    puts_then
    (puts_then c.put_number-p.ensures
    (puts_counted 4 (open_stmt_payload c.args.draft c.args.args.now) c.open_stmt_len.ensures
    c.put_prefix-q.ensures
    c.put_open_stmt-rows_at.ensures))
    (puts_as (optional_told c.args.draft.hasrows 5 c.args.draft.rows c.rows_of.ensures) c.put_optional.ensures)
