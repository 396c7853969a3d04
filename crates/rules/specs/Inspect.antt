-- What a host is told of a request beside its look, so that it keeps what belongs to an entry of the tables at that
-- entry's place, and frees it when it ends (K14). By session and request alone, refused or not.
use Rattle.std.specs.Prelude.{ℕ, Option, None, unwrap_or}
use Rattle.message.specs.declared.request.Request.{Request}
use Rattle.message.specs.declared.request.Request.TheVariants.{Reset, SessionClose, Prepare, Execute, Deallocate, Open}
use Rattle.message.specs.declared.request.Request.TheVariants.{Close, Fetch}
use Rattle.message.specs.declared.request.Frame.{Frame}
use Rattle.session.specs.Session.{Session}
use Rattle.session.specs.Lists.{mask_of}
use Rattle.session.specs.Tables.{max_stmts, max_cursors, stmt_at, stmt_place, cursor_at, cursor_place}
use Rattle.rules.specs.declared.Touches.{Touches}
use Rattle.rules.specs.Kind.{on_good}
use Rattle.rules.specs.Ending.{ends_cursor}

-- where the request's statement stands; a Prepare's: where it is put (K15)
unfoldable pub own_stmt : Session → Request → Option ℕ
own_stmt s Reset = None
own_stmt s SessionClose = None
own_stmt s (Prepare p) = stmt_place s p.stmt
own_stmt s (Execute x) = stmt_at s x.stmt
own_stmt s (Deallocate stmt) = stmt_at s stmt
own_stmt s (Open o) = stmt_at s o.execute.stmt
own_stmt s (Close cursor) = None
own_stmt s (Fetch f) = None

-- where the request's cursor stands; an Open's: where it is put (K15)
unfoldable pub own_cursor : Session → Request → Option ℕ
own_cursor s Reset = None
own_cursor s SessionClose = None
own_cursor s (Prepare p) = None
own_cursor s (Execute x) = None
own_cursor s (Deallocate stmt) = None
own_cursor s (Open o) = cursor_place s o.cursor
own_cursor s (Close cursor) = cursor_at s cursor
own_cursor s (Fetch f) = cursor_at s f.cursor

-- no place is told as the number of places, which is no index (K15)
abbrev pub no_stmt_place : ℕ
no_stmt_place = max_stmts

abbrev pub no_cursor_place : ℕ
no_cursor_place = max_cursors

-- the places of the cursors that the request ends when it is accepted, as bits (K16)
unfoldable pub ends_at : Session → Request → ℕ
ends_at s q = mask_of (ends_cursor q) s.cursors

-- all three as numbers
abbrev pub touches : Option ℕ → Option ℕ → ℕ → Touches
touches stmt cursor ends =
    record { stmt = unwrap_or stmt no_stmt_place; cursor = unwrap_or cursor no_cursor_place; ends = ends }

abbrev pub touches_of : Session → Request → Touches
touches_of s q = touches (own_stmt s q) (own_cursor s q) (ends_at s q)

-- a frame that holds no request touches nothing
abbrev pub touches_in : Session → Frame → Touches
touches_in s x = on_good (touches None None 0) (touches_of s) x
