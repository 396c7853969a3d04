-- `args_writer::field::put_field` meets its contract: its prefix counts the Any behind it. Assumes nothing.
use Rattle.args_writer.proofs.Names.{puts_counted, any_bytes}
use Rattle.args_writer.specs.private.Form.{value_in}
use Rattle.args_writer.proofs.field.put_field.Goals as goal

pub returns : goal.returns
returns c =
    puts_counted 2 (any_bytes c.args.f.kind (value_in c.args.f.value)) c.any_len.ensures.count
    c.put_prefix-p.ensures c.put_any.ensures
