-- What was taken, and what is left to take, is the whole; and what was not seen is not live yet.
use Rattle.session.specs.Entry.{is_live_cursor}
use Rattle.session.specs.Words.{session_of}
use Rattle.image_rules.specs.Restore.{cursor_table, entries_at}
use Rattle.image.proofs.SeenLaws.{Unseen}
use Rattle.image.proofs.TakeLaws.{Taking}
use Rattle.image.proofs.read.take_cursors.Given as goal

abbrev pub invariant-loop-i : goal.invariant-loop-i
invariant-loop-i l =
    record {
      taking : Taking cursor_table l.count l.numbers l.end
          (entries_at cursor_table l.count 0 l.image l.at (session_of l.initial.words)) l.i l.next (session_of l.words);
      ids : Unseen is_live_cursor (λ c. c.id) l.ids (session_of l.words).cursors;
      stmts : Unseen is_live_cursor (λ c. c.stmt) l.stmts (session_of l.words).cursors;
    }
