-- `trace_line::line::write_line` meets its contract: the line stands at the front of the array, and what is lent of it
-- is the line. Assumes nothing.
use Rattle.prelude.proofs.Basics.{ℕ, ◌≤◌, arith, length, replicate}
use Rattle.encode.proofs.PutsLaws.{front, equations_as}
use Rattle.trace_line.proofs.Names.{line_of, Line}
use Rattle.trace_line.proofs.LineLaws.{line_within}
use Rattle.trace_line.proofs.line.write_line.Goals as goal

room : (l : Line) → length (line_of l) ≤ length (replicate {A = ℕ} 160 0)
room l = omega (arith, line_within l)

pub returns : goal.returns
returns c = equations_as c.args.buf.now c.args.at (front (room c.args.l) c.put_line-n.ensures)
    c.write_bytes.ensures
