-- One place a turn, each behind the one before, until no live one is left. Assumes nothing.
use Rattle.session.specs.Entry.{is_live_cursor}
use Rattle.session.specs.Tables.{max_cursors}
use Rattle.session.specs.Words.{cursor_in}
use Rattle.image_rules.specs.Image.{most_cursor}
use Rattle.image_rules.specs.private.Parts.{cursor_bytes_at}
use Rattle.image.proofs.WriteLaws.{Filling}
use Rattle.image.proofs.write.put_cursors.Given as goal

abbrev pub invariant-loop-i : goal.invariant-loop-i
invariant-loop-i l = Filling is_live_cursor (cursor_in l.words) (λ k. cursor_bytes_at k
    (cursor_in l.words k)) most_cursor max_cursors
    l.initial.buf l.at l.buf l.p l.i l.left
