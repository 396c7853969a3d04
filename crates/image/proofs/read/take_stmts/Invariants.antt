-- What was taken, and what is left to take, is the whole; and an id whose slot was not seen is not live yet.
use Rattle.prelude.proofs.Basics.{◌≡◌}
use Rattle.session.specs.Entry.{is_live_stmt}
use Rattle.session.specs.Words.{session_of}
use Rattle.image_rules.specs.Restore.{stmt_table, entries_at}
use Rattle.image.proofs.SeenLaws.{Unseen}
use Rattle.image.proofs.TakeLaws.{Taking}
use Rattle.image.proofs.read.take_stmts.Given as goal

abbrev pub invariant-loop-i : goal.invariant-loop-i
invariant-loop-i l =
    record {
      taking : Taking stmt_table l.count l.numbers l.end
          (entries_at stmt_table l.count 0 l.image l.at (session_of l.initial.words)) l.i l.next (session_of l.words);
      unseen : Unseen is_live_stmt (λ t. t.id) l.seen (session_of l.words).stmts;
      kept : (session_of l.words).cursors ≡ (session_of l.initial.words).cursors;
    }
