-- `trace_line::printer::put_lines` meets its contract. The loop's invariant is `Walking`; the measure is what is left
-- of the bytes. Assumes nothing.
use Rattle.prelude.proofs.Basics.{◌-◌, length}
use Rattle.trace_line.proofs.Names.{session_of}
use Rattle.trace_line.proofs.WalkLaws.{Walking}
use Rattle.trace_line.proofs.printer.put_lines.Given as goal

abbrev pub invariant-loop-at : goal.invariant-loop-at
invariant-loop-at l = Walking (session_of l.initial.words) l.first l.s l.initial.out
    (session_of l.words) l.n l.at l.to l.out

abbrev pub decreases-loop-at : goal.decreases-loop-at
decreases-loop-at l = length l.s - l.at
