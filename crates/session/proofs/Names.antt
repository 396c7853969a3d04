-- The names that more than one proof of this crate needs: its definitions, and those and the laws of the crates below.
-- Assumes nothing.
unfoldable pub use Rattle.session.specs.Lists.{first, put, entry_at, change, changed, sum_by, how_many}
pub use Rattle.session.specs.Session.{Session, with_stmts, with_cursors, with_closed, flag}
pub use Rattle.session.specs.Entry.{no_stmt, no_cursor, new_stmt, is_live_stmt, is_live_cursor, is_stmt, passes, with_sent}
pub use Rattle.session.specs.Entry.{owes}
pub use Rattle.session.specs.Tables.{max_stmts, max_cursors, fresh, ended_by, stored_stmt, fetched_at, reset}
unfoldable pub use Rattle.session.specs.Words.{closed_at, word_count, build, word, stmt_in, cursor_in, cursors_in}
unfoldable pub use Rattle.session.specs.Words.{session_of}
pub use Rattle.session.specs.Sound.{max_number}
pub use Rattle.session.specs.declared.Cursor.{Cursor}
pub use Rattle.session.specs.declared.Stmt.{Stmt}
