-- `encode::field::number_len` meets its contract: the lengths of two varints. Assumes nothing.
use Rattle.prelude.proofs.Basics.{◌+◌, ◌*◌, arith, add-zero, length, ◌≡◌}
use Rattle.varint.specs.Shortest.{varint_bytes}
use Rattle.varint.proofs.VarintLaws.{varint_length}
use Rattle.encode.proofs.FieldLaws.{number_parts}
use Rattle.encode.proofs.field.number_len.Goals as goal

pub overflow_add-result : goal.overflow_add-result
overflow_add-result c = omega (arith, varint_length (c.args.num * 8 + 0), varint_length c.args.v)

pub returns : goal.returns
returns c =
    let tag : length (varint_bytes (c.args.num * 8 + 0)) ≡ length (varint_bytes (c.args.num * 8)) =
    rw (add-zero (c.args.num * 8)) in
    omega (arith, tag, number_parts c.args.num c.args.v)
