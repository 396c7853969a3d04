-- The words read are the entry that the table has there. Assumes nothing.
use Rattle.session.proofs.Names.{no_cursor, max_cursors, cursor_in}
use Rattle.session.proofs.PutLaws.{read_there, read_past}
use Rattle.session.proofs.words.cursor_at.Goals as goal

pub returns-then-i-lt-MAX_CURSORS : goal.returns-then-i-lt-MAX_CURSORS
returns-then-i-lt-MAX_CURSORS c =
    let w = c.args.words.now in
    rw (c.cursor_id.ensures, c.cursor_stmt.ensures, c.cursor_rows.ensures)
    (rw (c.cursor_sent.ensures, c.cursor_live.ensures)
    (read_there (cursor_in w) max_cursors c.args.place _ c.unwrap_or-i.ensures no_cursor c.if-i-lt-MAX_CURSORS.true))

pub returns : goal.returns
returns c = read_past (cursor_in c.args.words.now) max_cursors c.args.place _
    c.unwrap_or-i.ensures no_cursor c.if-i-lt-MAX_CURSORS.false
