-- `trace_line::record::read_frame` meets its contract: a report stands behind it, or none. Assumes nothing.
use Rattle.prelude.proofs.Basics.{arith}
use Rattle.std.proofs.lemmas.Result.{err_from_is_err_and}
use Rattle.trace_line.proofs.RecordLaws.{report_is}
use Rattle.trace_line.proofs.record.read_frame.Goals as goal

pub returns-in_err-told : goal.returns-in_err-told
returns-in_err-told c =
    let p = err_from_is_err_and c.from_residual-in_err-told.result c.from_residual-in_err-told.ensures.1 in
    rw (p.1, p.2)
    (report_is c.args.s.now c.args.len c.args.start c.if-len-gt-MAX_FRAME.false (omega arith) c.in_ok-kind.ensures
    c.in_err-told.ensures)

pub returns : goal.returns
returns c =
    report_is c.args.s.now c.args.len c.args.start c.if-len-gt-MAX_FRAME.false (omega arith) c.in_ok-kind.ensures
    c.in_ok-told.ensures
