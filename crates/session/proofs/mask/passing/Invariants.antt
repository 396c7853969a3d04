-- The bits of the places from here on; a turn puts the one before in front. A table of 64 places fits a
-- number of 64 bits. Assumes nothing.
use Rattle.session.proofs.Names.{passes, max_cursors, cursor_in}
use Rattle.session.proofs.LoopLaws.{Masking}
use Rattle.session.proofs.mask.passing.Given as goal

abbrev pub invariant-loop-i : goal.invariant-loop-i
invariant-loop-i l = Masking (passes l.which) (cursor_in l.words) max_cursors l.i l.mask
