-- What every session that steps and restores reach keeps (S13).
use Rattle.std.specs.Prelude.{ℕ, ◌≤◌, true, false, ◌≡◌, length}
use Rattle.session.specs.declared.Stmt.{Stmt}
use Rattle.session.specs.declared.Cursor.{Cursor}
use Rattle.session.specs.Session.{Session, is_closed}
use Rattle.session.specs.Lists.{All, how_many}
use Rattle.session.specs.Entry.{no_stmt, no_cursor, is_live_stmt, is_live_cursor, is_stmt, is_cursor, on_stmt}
use Rattle.session.specs.Tables.{max_stmts, max_cursors, no_spare, live_stmt, carried, stmt_count, cursor_count}

-- the largest id and count of rows, 2^32 - 1, and of placeholders
abbrev pub max_number : ℕ
max_number = 4294967295

abbrev pub max_placeholders : ℕ
max_placeholders = 65535

-- a free place holds the empty entry, a live one numbers within their limits
pub record ProperStmt (t : Stmt) : Type 0 where
  pub empty : is_live_stmt t ≡ false → t ≡ no_stmt
  pub flagged : t.live ≤ 1
  pub id : t.id ≤ max_number
  pub placeholders : t.placeholders ≤ max_placeholders

pub record ProperCursor (c : Cursor) : Type 0 where
  pub empty : is_live_cursor c ≡ false → c ≡ no_cursor
  pub flagged : c.live ≤ 1
  pub id : c.id ≤ max_number
  pub stmt : c.stmt ≤ max_number
  pub rows : c.rows ≤ max_number
  -- no more rows are sent than were reported
  pub within : c.sent ≤ c.rows

pub record Sound (s : Session) : Type 0 where
  pub stmt_places : length s.stmts ≡ max_stmts
  pub cursor_places : length s.cursors ≡ max_cursors
  pub stmts_proper : All ProperStmt s.stmts
  pub cursors_proper : All ProperCursor s.cursors
  -- a live id stands once in its table
  pub stmt_once : (id : ℕ) → how_many (is_stmt id) s.stmts ≤ 1
  pub cursor_once : (id : ℕ) → how_many (is_cursor id) s.cursors ≤ 1
  -- a cursor's statement is live, and carries no other cursor
  pub carries : (id : ℕ) → how_many (on_stmt id) s.cursors ≤ how_many (is_stmt id) s.stmts
  -- the words of a row past its fields are 0
  pub unused : s.spare ≡ no_spare
  pub flagged : s.closed ≤ 1
  -- a closed session has no live entry
  pub shut : is_closed s ≡ true → (stmt_count s ≡ 0) × (cursor_count s ≡ 0)

-- a cursor of this id may be opened on the statement: it is live, and carries no cursor of another id
pub record Openable (s : Session) (id stmt : ℕ) : Type 0 where
  pub live : is_live_stmt (live_stmt s stmt) ≡ true
  pub sole : is_live_cursor (carried s stmt) ≡ true → (carried s stmt).id ≡ id
