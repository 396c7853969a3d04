-- The cursors before the place that pass have ended; the others are as they were. Assumes nothing.
use Rattle.session.proofs.Names.{passes}
use Rattle.session.proofs.ChangeLaws.{Ending}
use Rattle.session.proofs.change.end.Given as goal

abbrev pub invariant-loop-i : goal.invariant-loop-i
invariant-loop-i l = Ending (passes l.which) l.initial.words l.i l.words
