-- The entries of the two tables. `live` is a flag; a free place holds the empty entry: every number 0.
use Rattle.std.specs.Prelude.{ℕ, ◌+◌, ◌-◌, min, Bool, ◌&&◌, not, cond, eqb}
use Rattle.session.specs.declared.Stmt.{Stmt}
use Rattle.session.specs.declared.Cursor.{Cursor}
use Rattle.session.specs.declared.Which.{Which}
use Rattle.session.specs.Session.{flag}

abbrev pub no_stmt : Stmt
no_stmt = record { id = 0; placeholders = 0; live = 0 }

abbrev pub no_cursor : Cursor
no_cursor = record { id = 0; stmt = 0; rows = 0; sent = 0; live = 0 }

abbrev pub new_stmt : ℕ → ℕ → Stmt
new_stmt id placeholders = record { id = id; placeholders = placeholders; live = 1 }

abbrev pub new_cursor : ℕ → ℕ → ℕ → ℕ → Cursor
new_cursor id stmt rows sent = record { id = id; stmt = stmt; rows = rows; sent = sent; live = 1 }

abbrev pub is_live_stmt : Stmt → Bool
is_live_stmt t = flag t.live

abbrev pub is_live_cursor : Cursor → Bool
is_live_cursor c = flag c.live

-- the live statement of an id
abbrev pub is_stmt : ℕ → Stmt → Bool
is_stmt id t = is_live_stmt t && eqb t.id id

abbrev pub free_stmt : Stmt → Bool
free_stmt t = not (is_live_stmt t)

-- the live cursor of an id
abbrev pub is_cursor : ℕ → Cursor → Bool
is_cursor id c = is_live_cursor c && eqb c.id id

-- a live cursor on the statement of an id
abbrev pub on_stmt : ℕ → Cursor → Bool
on_stmt id c = is_live_cursor c && eqb c.stmt id

abbrev pub free_cursor : Cursor → Bool
free_cursor c = not (is_live_cursor c)

-- the test on cursors that a value of Which names
abbrev pub passes : Which → Cursor → Bool
passes (Which.Id id) = is_cursor id
passes (Which.On id) = on_stmt id
passes Which.Live = is_live_cursor

-- a cursor with this many rows sent
abbrev pub with_sent : Cursor → ℕ → Cursor
with_sent c sent = record { id = c.id; stmt = c.stmt; rows = c.rows; sent = sent; live = c.live }

-- "the next min(count, remaining) rows" are sent (S8)
abbrev pub raise : ℕ → Cursor → Cursor
raise count c = with_sent c (c.sent + min count (c.rows - c.sent))

-- "reported less sent", of a live cursor (T8)
abbrev pub owes : Cursor → ℕ
owes c = cond (is_live_cursor c) (c.rows - c.sent) 0
