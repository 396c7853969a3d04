-- The sum of its fields' lengths.
use Rattle.prelude.proofs.Basics.{ℕ, arith, ap, length}
use Rattle.writer.proofs.Names.{prefix_of, number_short, prefix_short}
use Rattle.writer.proofs.SizeLaws.{prepare-parts, prepare_stmt_short}
use Rattle.writer.proofs.payload.prepare_len.Goals as goal

pub overflow_add-result : goal.overflow_add-result
overflow_add-result c = omega
    (arith, number_short 1 c.args.draft.stmt, prefix_short 2 c.prepare_stmt_len-n.result)

pub overflow_add-result-2 : goal.overflow_add-result-2
overflow_add-result-2 c =
    omega (
      arith,
      number_short 1 c.args.draft.stmt,
      prefix_short 2 c.prepare_stmt_len-n.result,
      prepare_stmt_short
          c.args.draft c.args.body.now,
    )

pub returns : goal.returns
returns c = omega (
  arith,
  prepare-parts c.args.draft
      c.args.body.now,
  ap (λ (n : ℕ). length (prefix_of 2 n)) c.prepare_stmt_len-n.ensures,
)
