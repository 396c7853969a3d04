-- The id, the stretch of arguments and compact_metadata, one behind the other. Assumes nothing.
use Rattle.prelude.proofs.Basics.{cond}
use Rattle.writer.proofs.Names.{optional_told, puts_then, puts_as, execute_payload}
use Rattle.writer.proofs.payload.put_execute.Goals as goal

pub returns : goal.returns
unfolding execute_payload
returns c =
    let d = c.args.draft in
    puts_then (puts_then c.put_number-p.ensures c.put_slice-q.ensures)
    (puts_as (optional_told d.hascompact 3 (cond d.compact 1 0) c.compact_of.ensures) c.put_optional.ensures)
