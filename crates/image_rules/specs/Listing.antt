-- What an image lists: whether the session is closed, and the live entries of its two tables in place order (I2).
use Rattle.std.specs.Prelude.{ℕ, suc, Bool, cond, List, [], ◌∷◌}
use Rattle.session.specs.declared.Stmt.{Stmt}
use Rattle.session.specs.declared.Cursor.{Cursor}
use Rattle.session.specs.Session.{Session, is_closed}
use Rattle.session.specs.Entry.{is_live_stmt, is_live_cursor}
use Rattle.image_rules.specs.declared.StmtEntry.{StmtEntry}
use Rattle.image_rules.specs.declared.CursorEntry.{CursorEntry}

pub record Listing : Type 0 where
  pub closed : ℕ
  pub stmts : List StmtEntry
  pub cursors : List CursorEntry

-- ---- of a session

abbrev pub stmt_entry : ℕ → Stmt → StmtEntry
stmt_entry place t = record { place = place; id = t.id; placeholders = t.placeholders }

abbrev pub cursor_entry : ℕ → Cursor → CursorEntry
cursor_entry place c = record { place = place; id = c.id; stmt = c.stmt; rows = c.rows; sent = c.sent }

-- the live entries of a table, each with its place, counted from k
unfoldable pub placed : {A E : Type 0} → (A → Bool) → (ℕ → A → E) → ℕ → List A → List E
placed live entry k [] = []
placed live entry k (x ∷ xs) =
    let rest = placed live entry (suc k) xs in cond (live x) (entry k x ∷ rest) rest

abbrev pub stmts_of : Session → List StmtEntry
stmts_of s = placed is_live_stmt stmt_entry 0 s.stmts

abbrev pub cursors_of : Session → List CursorEntry
cursors_of s = placed is_live_cursor cursor_entry 0 s.cursors

abbrev pub listing_of : Session → Listing
listing_of s = record { closed = cond (is_closed s) 1 0; stmts = stmts_of s; cursors = cursors_of s }
