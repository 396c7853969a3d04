-- The sum of its fields' lengths.
use Rattle.prelude.proofs.Basics.{ℕ, arith, ap, length}
use Rattle.writer.proofs.Names.{prefix_of, number_short, prefix_short}
use Rattle.writer.proofs.SizeLaws.{prepare-stmt-parts}
use Rattle.writer.proofs.payload.prepare_stmt_len.Goals as goal

pub overflow_add-result : goal.overflow_add-result
overflow_add-result c = omega (
  arith,
  number_short 1 c.args.draft.operation,
  prefix_short c.field_of-body_field.result (length c.args.body.now),
)

pub overflow_add-result-2 : goal.overflow_add-result-2
overflow_add-result-2 c = omega (
  arith,
  number_short 1 c.args.draft.operation,
  prefix_short c.field_of-body_field.result (length c.args.body.now),
)

pub returns : goal.returns
returns c = omega (
  arith,
  prepare-stmt-parts c.args.draft
      c.args.body.now,
  ap (λ (k : ℕ). length (prefix_of k (length c.args.body.now)))
      c.field_of-body_field.ensures.0,
)
