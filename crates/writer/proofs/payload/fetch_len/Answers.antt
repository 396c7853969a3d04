-- The sum of its fields' lengths.
use Rattle.prelude.proofs.Basics.{arith, ap, length}
use Rattle.writer.proofs.Names.{number_short, optional_short, optional_told}
use Rattle.writer.proofs.SizeLaws.{fetch_parts}
use Rattle.writer.proofs.payload.fetch_len.Goals as goal

pub overflow_add-result : goal.overflow_add-result
overflow_add-result c =
    let d = c.args.draft in
    let rows = ap length (optional_told d.hasrows 2 d.rows c.rows_of.ensures) in
    omega (arith, rows, number_short 1 d.cursor, optional_short d.hasrows 2 d.rows)

pub returns : goal.returns
returns c =
    let d = c.args.draft in
    let rows = ap length (optional_told d.hasrows 2 d.rows c.rows_of.ensures) in
    omega (arith, rows, fetch_parts d)
