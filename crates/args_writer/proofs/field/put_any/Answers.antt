-- `args_writer::field::put_any` meets its contract: what its parts put stands one behind the other. Assumes nothing.
use Rattle.encode.proofs.PutsLaws.{puts_then}
use Rattle.args_writer.proofs.Names.{puts_counted, scalar_bytes, any_bytes}
use Rattle.args_writer.specs.private.Form.{value_in}
use Rattle.args_writer.proofs.field.put_any.Goals as goal

pub returns : goal.returns
unfolding scalar_bytes any_bytes
returns c =
    puts_then c.put_number-p.ensures
    (puts_counted 2 (scalar_bytes c.args.f.kind (value_in c.args.f.value)) c.scalar_len.ensures.count
    c.put_prefix-q.ensures (puts_then c.put_number-value_at.ensures c.put_value.ensures))
