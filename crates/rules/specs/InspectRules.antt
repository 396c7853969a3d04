-- What a host may rely on: what the told places and bits are after an accepted step.
use Rattle.std.specs.Prelude.{ℕ, zero, suc, ◌/◌, ◌%◌, Bool, true, false, ◌≡◌, List, get_or, eqb, Some}
use Rattle.protocol.specs.Client.{prepare, execute, deallocate, open', close, fetch}
use Rattle.protocol.specs.Reason as Reason
use Rattle.message.specs.Frame.{frame_of}
use Rattle.message.specs.Request.{stmt_of, cursor_of}
use Rattle.message.specs.declared.request.Request.{Request}
use Rattle.message.specs.declared.request.Frame.{Frame}
use Rattle.session.specs.declared.Stmt.{Stmt}
use Rattle.session.specs.declared.Cursor.{Cursor}
use Rattle.session.specs.Session.{Session}
use Rattle.session.specs.Entry.{no_stmt, no_cursor, is_live_stmt, is_live_cursor, is_stmt, is_cursor}
use Rattle.session.specs.Sound.{Sound}
use Rattle.rules.specs.declared.Report.{Report}
use Rattle.rules.specs.Kind.{is_a, one_of, one_of3}
use Rattle.rules.specs.Ending.{ends_cursor}
use Rattle.rules.specs.Inspect.{own_cursor, ends_at, touches_of}
use Rattle.rules.specs.Step.{step_of}

-- bit i of a number
unfoldable pub bit : ℕ → ℕ → Bool
bit m zero = eqb (m % 2) 1
bit m (suc i) = bit (m / 2) i

-- the entries at a place
abbrev pub stmt_there : Session → ℕ → Stmt
stmt_there s i = get_or s.stmts i no_stmt

abbrev pub cursor_there : Session → ℕ → Cursor
cursor_there s i = get_or s.cursors i no_cursor

-- a bit is set exactly if the cursor at its place is live and the request ends it, by the tally's own definition: of
-- every session, and of every place (K16)
abbrev pub BitsTold : Type 0
BitsTold = (s : Session) (q : Request) (i : ℕ) → bit (ends_at s q) i ≡ ends_cursor q (cursor_there s i)

-- a cursor after a Fetch of it: the same opening
pub record SameOpening (before after : Cursor) : Type 0 where
  pub id : after.id ≡ before.id
  pub stmt : after.stmt ≡ before.stmt
  pub rows : after.rows ≡ before.rows
  pub live : after.live ≡ before.live

-- an accepted step, at any place of the cursors: where the bit is set the cursor is gone, and an Open's own place is
-- the only one that holds another; where it is clear, the entry is as it was, but for what an Open puts at its own
-- place and for the rows that a Fetch sends (K17)
pub record EndsAndKeeps (s : Session) (q : Request) (after : Session) (i : ℕ) : Type 0 where
  pub ended : bit (ends_at s q) i ≡ true → is_a open' q ≡ false → cursor_there after i ≡ no_cursor
  pub replaced : bit (ends_at s q) i ≡ true → is_a open' q ≡ true → own_cursor s q ≡ Some i
  pub kept :
      bit (ends_at s q) i ≡ false → one_of open' fetch q ≡ false → cursor_there after i ≡ cursor_there s i
  pub others :
      bit (ends_at s q) i ≡ false → (own_cursor s q ≡ Some i → ⊥) → cursor_there after i ≡ cursor_there s i
  pub fetched : is_a fetch q ≡ true → SameOpening (cursor_there s i) (cursor_there after i)

abbrev pub EndsTold : Type 0
EndsTold =
    (s : Session) (frame : List ℕ) (r : Report) (buffer : List ℕ) (used : ℕ) (q : Request) → Sound s →
    frame_of frame ≡ Frame.Good used q → (step_of s frame r buffer).answer.reason ≡ Reason.accepted →
    (i : ℕ) → EndsAndKeeps s q (step_of s frame r buffer).session i

-- an accepted step, of every session: at the told place stood the request's statement or cursor, live and of its id;
-- what a Prepare or an Open put stands there after it, and no entry of another id was live there before (K15)
pub record Stands (s : Session) (q : Request) (after : Session) : Type 0 where
  pub stmt : one_of3 execute deallocate open' q ≡ true → is_stmt (stmt_of q) (stmt_there s (touches_of s q).stmt) ≡ true
  pub cursor : one_of close fetch q ≡ true → is_cursor (cursor_of q) (cursor_there s (touches_of s q).cursor) ≡ true
  pub prepared : is_a prepare q ≡ true → is_stmt (stmt_of q) (stmt_there after (touches_of s q).stmt) ≡ true
  pub opened : is_a open' q ≡ true → is_cursor (cursor_of q) (cursor_there after (touches_of s q).cursor) ≡ true
  pub over_stmt :
      is_a prepare q ≡ true → let t = stmt_there s (touches_of s q).stmt in is_live_stmt t ≡ is_stmt (stmt_of q) t
  pub over_cursor :
      is_a open' q ≡ true → let c = cursor_there s (touches_of s q).cursor in is_live_cursor c ≡ is_cursor (cursor_of q) c

abbrev pub PlacesTold : Type 0
PlacesTold =
    (s : Session) (frame : List ℕ) (r : Report) (buffer : List ℕ) (used : ℕ) (q : Request) →
    frame_of frame ≡ Frame.Good used q → (step_of s frame r buffer).answer.reason ≡ Reason.accepted →
    Stands s q (step_of s frame r buffer).session
