-- The id and fetch_rows, one behind the other. Assumes nothing.
use Rattle.writer.proofs.Names.{optional_told, puts_then, puts_as, fetch_payload}
use Rattle.writer.proofs.payload.put_fetch.Goals as goal

pub returns : goal.returns
unfolding fetch_payload
returns c =
    puts_then c.put_number-p.ensures
    (puts_as (optional_told c.args.draft.hasrows 2 c.args.draft.rows c.rows_of.ensures) c.put_optional.ensures)
