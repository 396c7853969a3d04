-- The sum of its fields' lengths.
use Rattle.prelude.proofs.Basics.{ℕ, arith, ap, length}
use Rattle.writer.proofs.Names.{prefix_of, number_short, prefix_short}
use Rattle.writer.proofs.SizeLaws.{open-stmt-parts, execute_short}
use Rattle.writer.proofs.payload.open_stmt_len.Goals as goal

pub overflow_add-result : goal.overflow_add-result
overflow_add-result c = omega
    (arith, number_short 1 0, prefix_short 2 c.execute_len-n.result)

pub overflow_add-result-2 : goal.overflow_add-result-2
overflow_add-result-2 c = omega (
  arith,
  number_short 1 0,
  prefix_short 2
      c.execute_len-n.result,
  execute_short c.args.draft c.args.args.now,
)

pub returns : goal.returns
returns c = omega (
  arith,
  open-stmt-parts c.args.draft c.args.args.now,
  ap (λ (n : ℕ). length (prefix_of 2 n)) c.execute_len-n.ensures,
)
