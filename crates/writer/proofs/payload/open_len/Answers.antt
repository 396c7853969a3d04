-- The sum of its fields' lengths.
use Rattle.prelude.proofs.Basics.{ℕ, arith, ap, length}
use Rattle.writer.proofs.Names.{prefix_of, number_short, optional_short, optional_told, prefix_short}
use Rattle.writer.proofs.SizeLaws.{open-parts, open_stmt_short}
use Rattle.writer.proofs.payload.open_len.Goals as goal

pub overflow_add-result : goal.overflow_add-result
overflow_add-result c = omega
    (arith, number_short 1 c.args.draft.cursor, prefix_short 4 c.open_stmt_len-n.result)

pub overflow_add-result-2 : goal.overflow_add-result-2
overflow_add-result-2 c = omega (
  arith,
  number_short 1 c.args.draft.cursor,
  prefix_short 4 c.open_stmt_len-n.result,
  open_stmt_short c.args.draft c.args.args.now,
)

pub overflow_add-result-3 : goal.overflow_add-result-3
overflow_add-result-3 c =
    let d = c.args.draft in
    let rows = ap length (optional_told d.hasrows 5 d.rows c.rows_of.ensures) in
    omega (
      arith,
      rows,
      number_short 1 c.args.draft.cursor,
      prefix_short 4 c.open_stmt_len-n.result,
      open_stmt_short
          c.args.draft c.args.args.now,
      optional_short c.args.draft.hasrows 5 c.args.draft.rows,
    )

pub returns : goal.returns
returns c =
    let d = c.args.draft in
    let rows = ap length (optional_told d.hasrows 5 d.rows c.rows_of.ensures) in
    omega (
      arith,
      rows,
      open-parts d c.args.args.now,
      ap (λ (n : ℕ). length (prefix_of 4 n)) c.open_stmt_len-n.ensures,
    )
