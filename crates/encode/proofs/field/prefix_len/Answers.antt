-- `encode::field::prefix_len` meets its contract: the lengths of two varints. Assumes nothing.
use Rattle.prelude.proofs.Basics.{◌+◌, ◌*◌, arith}
use Rattle.varint.proofs.VarintLaws.{varint_length}
use Rattle.encode.proofs.FieldLaws.{prefix_parts}
use Rattle.encode.proofs.field.prefix_len.Goals as goal

pub overflow_add-result : goal.overflow_add-result
overflow_add-result c = omega (arith, varint_length (c.args.num * 8 + 2), varint_length c.args.n)

pub returns : goal.returns
returns c = omega (arith, prefix_parts c.args.num c.args.n)
