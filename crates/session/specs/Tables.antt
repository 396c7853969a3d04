-- What an operation does to the tables of a session (S4 to S11, E1). Where a table is full, or an id is not live, that
-- table stays as it is: refusals are decided before.
use Rattle.std.specs.Prelude.{ℕ, ◌-◌, Bool, List, replicate, Option}
use Rattle.std.specs.Option.{option_or}
use Rattle.session.specs.declared.Stmt.{Stmt}
use Rattle.session.specs.declared.Cursor.{Cursor}
use Rattle.session.specs.Session.{Session, with_stmts, with_cursors, with_spare, with_closed}
use Rattle.session.specs.Lists.{first, put, entry_at, changed, always, sum_by, how_many}
use Rattle.session.specs.Entry.{no_stmt, no_cursor, new_stmt, new_cursor, is_stmt, free_stmt, is_cursor, on_stmt}
use Rattle.session.specs.Entry.{free_cursor, raise, owes, is_live_stmt, is_live_cursor}

abbrev pub max_stmts : ℕ
max_stmts = 64

abbrev pub max_cursors : ℕ
max_cursors = 16

-- words of a cursor's row, and how many of them are fields of the cursor: a row may be wider than what it holds
abbrev pub cursor_words : ℕ
cursor_words = 5

abbrev pub cursor_fields : ℕ
cursor_fields = 5

abbrev pub spare_words : ℕ
spare_words = cursor_words - cursor_fields

-- the words past the fields of a row are 0 in a fresh session, and no operation but the two that end everything
-- changes them
abbrev pub no_spare : List (List ℕ)
no_spare = replicate max_cursors (replicate spare_words 0)

abbrev pub fresh : Session
fresh =
    record {
      stmts = replicate max_stmts no_stmt;
      cursors = replicate max_cursors no_cursor;
      spare = no_spare;
      closed = 0;
    }

-- the place of the live statement of an id
abbrev pub stmt_at : Session → ℕ → Option ℕ
stmt_at s id = first (is_stmt id) s.stmts 0

-- the first place whose cursor passes a test: the live cursor of an id, the live cursor on a statement, a free place
abbrev pub place_of : (Cursor → Bool) → Session → Option ℕ
place_of p s = first p s.cursors 0

abbrev pub cursor_at : Session → ℕ → Option ℕ
cursor_at s id = place_of (is_cursor id) s

abbrev pub cursor_on : Session → ℕ → Option ℕ
cursor_on s stmt = place_of (on_stmt stmt) s

-- the live statement, the live cursor of an id, the live cursor on a statement; the empty entry where there is none
abbrev pub live_stmt : Session → ℕ → Stmt
live_stmt s id = entry_at s.stmts (stmt_at s id) no_stmt

abbrev pub live_cursor : Session → ℕ → Cursor
live_cursor s id = entry_at s.cursors (cursor_at s id) no_cursor

abbrev pub carried : Session → ℕ → Cursor
carried s stmt = entry_at s.cursors (cursor_on s stmt) no_cursor

-- "A new entry takes the lowest free place, freed ones included; a replaced id keeps its place." (S3)
abbrev pub stmt_place : Session → ℕ → Option ℕ
stmt_place s id = option_or (stmt_at s id) (first free_stmt s.stmts 0)

abbrev pub cursor_place : Session → ℕ → Option ℕ
cursor_place s id = option_or (cursor_at s id) (place_of free_cursor s)

-- an opening ends: every cursor that passes the test leaves its place empty
abbrev pub ends : (Cursor → Bool) → List Cursor → List Cursor
ends p cs = changed p (λ c. no_cursor) cs

abbrev pub ended_by : (Cursor → Bool) → Session → Session
ended_by p s = with_cursors s (ends p s.cursors)

-- "Close: ends the cursor." (S9)
abbrev pub ended : Session → ℕ → Session
ended s id = ended_by (is_cursor id) s

-- "Execute: ends the statement's cursor." (S5)
abbrev pub ended_on : Session → ℕ → Session
ended_on s stmt = ended_by (on_stmt stmt) s

-- a statement, a cursor stored at a place
abbrev pub stored_stmt : Session → Option ℕ → Stmt → Session
stored_stmt s place t = with_stmts s (put s.stmts place t)

abbrev pub stored_cursor : Session → Option ℕ → Cursor → Session
stored_cursor s place c = with_cursors s (put s.cursors place c)

-- "Prepare: an id in use is replaced, and its cursor ends." At a place, and at the one that the id takes (S4)
abbrev pub prepared_at : Session → Option ℕ → ℕ → ℕ → Session
prepared_at s place id placeholders = stored_stmt (ended_on s id) place (new_stmt id placeholders)

abbrev pub prepared : Session → ℕ → ℕ → Session
prepared s id placeholders = prepared_at s (stmt_place s id) id placeholders

-- "Deallocate: frees the statement, ends its cursor." At a place, and at the one where the statement stands (S6)
abbrev pub freed_at : Session → Option ℕ → ℕ → Session
freed_at s place id = stored_stmt (ended_on s id) place no_stmt

abbrev pub freed : Session → ℕ → Session
freed s id = freed_at s (stmt_at s id) id

-- "Open: a cursor id in use ends first", and the new cursor takes its place. At a place, and at the one that the id
-- takes (S7, S3)
abbrev pub opened_at : Session → Option ℕ → ℕ → ℕ → ℕ → ℕ → Session
opened_at s place id stmt rows sent = stored_cursor s place (new_cursor id stmt rows sent)

abbrev pub opened : Session → ℕ → ℕ → ℕ → ℕ → Session
opened s id stmt rows sent = opened_at s (cursor_place s id) id stmt rows sent

-- "Fetch: the next min(fetch_rows, remaining) rows" of the live cursor of an id. At a place, and where it stands
abbrev pub fetched_at : Session → Option ℕ → ℕ → Session
fetched_at s place count = stored_cursor s place (raise count (entry_at s.cursors place no_cursor))

abbrev pub fetched : Session → ℕ → ℕ → Session
fetched s id count = fetched_at s (cursor_at s id) count

-- "Reset: ends everything." (S10)
abbrev pub reset : Session → Session
reset s =
    with_stmts (with_cursors (with_spare s no_spare) (ends always s.cursors)) (changed always (λ t. no_stmt) s.stmts)

-- "Session close: the same, and the session is closed." (S11)
abbrev pub closed_now : Session → Session
closed_now s = with_closed (reset s) 1

-- "Owed is reported less sent, summed over the cursor table." (T8)
abbrev pub owed : Session → ℕ
owed s = sum_by owes s.cursors

-- how many statements and cursors are live
abbrev pub stmt_count : Session → ℕ
stmt_count s = how_many is_live_stmt s.stmts

abbrev pub cursor_count : Session → ℕ
cursor_count s = how_many is_live_cursor s.cursors
