-- A line is no longer than the longest line. Assumes nothing.
use Rattle.prelude.proofs.Basics.{◌≤◌, arith, length, length-append}
use Rattle.reply.proofs.DecimalLaws.{decimal_within}
use Rattle.trace_line.proofs.Names.{line_of, Line}

pub line_within : (l : Line) → length (line_of l) ≤ 149
unfolding line_of
line_within l =
    simp length-append
    (omega (
      arith,
      decimal_within l.n,
      decimal_within l.reason,
      decimal_within l.first,
      decimal_within l.rows,
      decimal_within l.stmts,
      decimal_within l.cursors,
      decimal_within l.owed,
    ))
