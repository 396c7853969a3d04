-- The parts of an image: what each table puts behind its count, place by place.
use Rattle.std.specs.Prelude.{ℕ, Bool, cond, List, []}
use Rattle.session.specs.declared.Stmt.{Stmt}
use Rattle.session.specs.declared.Cursor.{Cursor}
use Rattle.session.specs.Session.{Session}
use Rattle.session.specs.Entry.{is_live_stmt, is_live_cursor}
use Rattle.image_rules.specs.Numbers.{bytes_of}
use Rattle.image_rules.specs.Listing.{stmt_entry, cursor_entry, stmts_of, cursors_of}
use Rattle.image_rules.specs.Image.{stmt_numbers, cursor_numbers, joined}

-- the bytes of a place: those of a live entry, none where the place is free
abbrev pub place_bytes : {A E : Type 0} → (A → Bool) → (ℕ → A → E) → (E → List ℕ) → ℕ → A → List ℕ
place_bytes live entry numbers place x = cond (live x) (bytes_of (numbers (entry place x))) []

abbrev pub stmt_bytes_at : ℕ → Stmt → List ℕ
stmt_bytes_at = place_bytes is_live_stmt stmt_entry stmt_numbers

abbrev pub cursor_bytes_at : ℕ → Cursor → List ℕ
cursor_bytes_at = place_bytes is_live_cursor cursor_entry cursor_numbers

-- the bytes of all entries of a table
abbrev pub stmt_bytes : Session → List ℕ
stmt_bytes s = bytes_of (joined stmt_numbers (stmts_of s))

abbrev pub cursor_bytes : Session → List ℕ
cursor_bytes s = bytes_of (joined cursor_numbers (cursors_of s))
