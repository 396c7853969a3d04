-- `args_writer::field::any_len` meets its contract: an Any is its type, a prefix and its scalar. Assumes nothing.
use Rattle.prelude.proofs.Basics.{ℕ, arith, ap, length}
use Rattle.args_writer.proofs.Names.{prefix_of, number_short, prefix_short}
use Rattle.args_writer.specs.private.Form.{value_in}
use Rattle.args_writer.proofs.SizeLaws.{any_parts}
use Rattle.args_writer.proofs.field.any_len.Goals as goal

pub overflow_add-result : goal.overflow_add-result
overflow_add-result c = omega (arith, number_short 1 1, prefix_short 2 c.scalar_len-n.result)

pub overflow_add-result-2 : goal.overflow_add-result-2
overflow_add-result-2 c =
    omega (arith, number_short 1 1, prefix_short 2 c.scalar_len-n.result, c.scalar_len-n.ensures.short)

pub returns-clause-short : goal.returns-clause-short
returns-clause-short c =
    omega (arith, number_short 1 1, prefix_short 2 c.scalar_len-n.result, c.scalar_len-n.ensures.short)

pub returns-clause-count : goal.returns-clause-count
returns-clause-count c =
    omega (
      arith,
      any_parts c.args.f.kind (value_in c.args.f.value),
      ap (λ (n : ℕ). length (prefix_of 2 n)) c.scalar_len-n.ensures.count,
      c.scalar_len-n.ensures.count,
    )
