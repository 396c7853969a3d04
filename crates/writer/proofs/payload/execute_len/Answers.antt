-- The sum of its fields' lengths.
use Rattle.prelude.proofs.Basics.{arith, ap, cond, length}
use Rattle.writer.proofs.Names.{number_short, optional_short, optional_told}
use Rattle.writer.proofs.SizeLaws.{execute-parts}
use Rattle.writer.proofs.payload.execute_len.Goals as goal

pub overflow_add-result : goal.overflow_add-result
overflow_add-result c = omega (arith, number_short 1 c.args.draft.stmt)

pub overflow_add-result-2 : goal.overflow_add-result-2
overflow_add-result-2 c =
    let d = c.args.draft in
    let compact = ap length (optional_told d.hascompact 3 (cond d.compact 1 0) c.compact_of.ensures) in
    omega (arith, compact, number_short 1 d.stmt, optional_short d.hascompact 3 (cond d.compact 1 0))

pub returns : goal.returns
returns c =
    let d = c.args.draft in
    let compact = ap length (optional_told d.hascompact 3 (cond d.compact 1 0) c.compact_of.ensures) in
    omega (arith, compact, execute-parts d c.args.args.now)
