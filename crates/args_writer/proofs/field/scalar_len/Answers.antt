-- `args_writer::field::scalar_len` meets its contract: a scalar is its type and its value. Assumes nothing.
use Rattle.prelude.proofs.Basics.{arith}
use Rattle.args_writer.proofs.Names.{number_short}
use Rattle.args_writer.specs.private.Form.{value_in}
use Rattle.args_writer.proofs.SizeLaws.{scalar_parts}
use Rattle.args_writer.proofs.field.scalar_len.Goals as goal

pub overflow_add-result : goal.overflow_add-result
overflow_add-result c = omega (arith, number_short 1 c.args.f.kind, c.value_len.ensures.short)

pub returns-clause-short : goal.returns-clause-short
returns-clause-short c = omega (arith, number_short 1 c.args.f.kind, c.value_len.ensures.short)

pub returns-clause-count : goal.returns-clause-count
returns-clause-count c = omega (arith, c.value_len.ensures.count, scalar_parts c.args.f.kind (value_in c.args.f.value))
