-- What was summed, and what is left to sum, is the whole. Assumes nothing.
use Rattle.session.proofs.Names.{owes, max_cursors, cursor_in, max_number}
use Rattle.session.proofs.LoopLaws.{Summing}
use Rattle.session.proofs.count.owed.Given as goal

abbrev pub invariant-loop-i : goal.invariant-loop-i
invariant-loop-i l = Summing owes max_number (cursor_in l.words) max_cursors l.i l.sum
