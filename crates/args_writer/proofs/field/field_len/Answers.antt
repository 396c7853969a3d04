-- `args_writer::field::field_len` meets its contract: a field is its prefix and its Any. Assumes nothing.
use Rattle.prelude.proofs.Basics.{ℕ, arith, ap, length}
use Rattle.args_writer.proofs.Names.{prefix_of, prefix_short, bytes_sum, any_bytes}
use Rattle.args_writer.specs.private.Form.{value_in}
use Rattle.args_writer.proofs.field.field_len.Goals as goal

pub overflow_add-result : goal.overflow_add-result
overflow_add-result c = omega (arith, prefix_short 2 c.any_len-n.result, c.any_len-n.ensures.short)

pub returns : goal.returns
returns c =
    omega (
      arith,
      bytes_sum 2 (any_bytes c.args.f.kind (value_in c.args.f.value)),
      ap (λ (n : ℕ). length (prefix_of 2 n)) c.any_len-n.ensures.count,
      c.any_len-n.ensures.count,
    )
