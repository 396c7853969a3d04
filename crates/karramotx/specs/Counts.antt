-- The sizes of a session's tables, and the rows owed.
use Rattle.session.specs.Session.{Session}
use Rattle.session.specs.Tables.{owed, stmt_count, cursor_count}
use Rattle.karramotx.specs.declared.Counts.{Counts}

abbrev pub counts_of : Session → Counts
counts_of s = record { stmts = stmt_count s; cursors = cursor_count s; owed = owed s }
