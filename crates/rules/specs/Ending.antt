-- The endings: "An opening ends at the first later accepted message that is: Prepare, Execute or Deallocate of its
-- statement id, Open or Close of its cursor id, Reset, Session close." (E1)
use Rattle.std.specs.Prelude.{ℕ, Bool, cond, ◌&&◌, ◌||◌, List, eqb}
use Rattle.protocol.specs.Client.{reset, session_close, prepare, execute, deallocate, open', close, fetch}
use Rattle.message.specs.Request.{stmt_of, cursor_of}
use Rattle.message.specs.declared.request.Request.{Request}
use Rattle.session.specs.declared.Cursor.{Cursor}
use Rattle.session.specs.Session.{Session}
use Rattle.session.specs.Lists.{put, changed}
use Rattle.session.specs.Entry.{new_cursor, is_live_cursor, is_cursor, raise}
use Rattle.session.specs.Tables.{cursor_place, ends}
use Rattle.rules.specs.declared.Report.{Report}
use Rattle.rules.specs.Kind.{is_a, one_of, one_of3}
use Rattle.rules.specs.Rows.{row_count}

-- the accepted request ends an opening with these two ids
unfoldable pub ends_it : Request → ℕ → ℕ → Bool
ends_it q cursor stmt =
    (one_of3 prepare execute deallocate q && eqb stmt (stmt_of q))
    || (one_of open' close q && eqb cursor (cursor_of q))
    || one_of reset session_close q

-- the request ends a live cursor
abbrev pub ends_cursor : Request → Cursor → Bool
ends_cursor q c = is_live_cursor c && ends_it q c.id c.stmt

-- the cursor table after an accepted request, by this list alone: endings come first, then an Open adds its cursor, and
-- a Fetch sends rows of its own
abbrev pub cursors_left : Session → Request → List Cursor
cursors_left s q = ends (ends_cursor q) s.cursors

abbrev pub cursors_after : Session → Request → Report → List Cursor
cursors_after s q r =
    cond (is_a open' q)
    (put (cursors_left s q) (cursor_place s (cursor_of q)) (new_cursor (cursor_of q) (stmt_of q) r.rows (row_count s q r)))
    (cond (is_a fetch q) (changed (is_cursor (cursor_of q)) (raise (row_count s q r)) (cursors_left s q)) (cursors_left s q))
