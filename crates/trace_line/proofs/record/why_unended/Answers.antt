-- `trace_line::record::why_unended` meets its contract: there are ten bytes, or fewer. Assumes nothing.
use Rattle.prelude.proofs.Basics.{arith}
use Rattle.trace_line.proofs.RecordLaws.{unended_bad}
use Rattle.trace_line.proofs.record.why_unended.Goals as goal

pub returns : goal.returns
returns c = unended_bad c.args.s.now c.args.at (omega arith)
