-- `args_writer::field::put_message` meets its contract: its prefix counts the bytes field behind it. Assumes nothing.
use Rattle.args_writer.proofs.Names.{bytes_field, puts_counted}
use Rattle.args_writer.proofs.field.put_message.Goals as goal

pub returns : goal.returns
returns c =
    puts_counted c.args.num (bytes_field 1 c.args.bytes.now) c.inner_len.ensures.count c.put_prefix-p.ensures
    c.put_bytes.ensures
