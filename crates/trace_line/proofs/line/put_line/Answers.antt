-- `trace_line::line::put_line` meets its contract: its parts stand one behind the other. Assumes nothing.
use Rattle.trace_line.proofs.Names.{puts_then, line_of}
use Rattle.trace_line.proofs.line.put_line.Goals as goal

pub returns : goal.returns
unfolding line_of
returns c = let four =
    puts_then (puts_then (puts_then c.put_column-at.ensures c.put_column-at-2.ensures) c.put_column-at-3.ensures)
    c.put_column-at-4.ensures in
    let mark = puts_then c.put_byte-at.ensures c.put_byte-at-2.ensures in
    puts_then
    (puts_then (puts_then (puts_then (puts_then four mark) c.put_column-at-5.ensures) c.put_column-at-6.ensures)
    c.put_decimal-at.ensures)
    c.put_byte.ensures
