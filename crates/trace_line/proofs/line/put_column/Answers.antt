-- `trace_line::line::put_column` meets its contract: a decimal, and one byte behind it. Assumes nothing.
use Rattle.trace_line.proofs.Names.{puts_then}
use Rattle.trace_line.proofs.line.put_column.Goals as goal

pub returns : goal.returns
returns c = puts_then c.put_decimal-p.ensures
    c.put_byte.ensures
