-- `args_writer::field::inner_len` meets its contract: the bytes stand behind their prefix, in field 1. Assumes nothing.
use Rattle.prelude.proofs.Basics.{arith, length}
use Rattle.args_writer.proofs.Names.{prefix_short, bytes_sum}
use Rattle.args_writer.proofs.field.inner_len.Goals as goal

pub overflow_add-result : goal.overflow_add-result
overflow_add-result c = omega (arith, prefix_short 1 (length c.args.bytes.now))

pub returns-clause-short : goal.returns-clause-short
returns-clause-short c = omega (arith, prefix_short 1 (length c.args.bytes.now))

pub returns-clause-count : goal.returns-clause-count
returns-clause-count c = omega (arith, bytes_sum 1 c.args.bytes.now)
