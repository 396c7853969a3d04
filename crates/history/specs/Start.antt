-- What the tally starts from: the live cursors of the session before the first step. A fresh session has none, so that
-- its tally starts empty (T1); a restored one has those of its image (I8). From there on the tally takes nothing of the
-- session.
use Rattle.std.specs.Prelude.{◌+◌, ◌-◌, ◌≡◌, [], map}
use Rattle.session.specs.declared.Cursor.{Cursor}
use Rattle.session.specs.Session.{Session}
use Rattle.session.specs.Lists.{All}
use Rattle.session.specs.Entry.{is_live_cursor}
use Rattle.session.specs.Sound.{Sound}
use Rattle.session.specs.Tables.{fresh, owed}
use Rattle.history.specs.Tally.{Opening, Tally, empty, kept, rows_reported}

-- a cursor counts "as an opening of the rows then left, numbered from its rows sent" (I8)
abbrev pub opening_of : Cursor → Opening
opening_of c =
    record { cursor = c.id; stmt = c.stmt; first = c.sent; rows = c.rows - c.sent; segments = [] }

-- one for each live cursor, in place order
abbrev pub start_of : Session → Tally
start_of s = record { live = map opening_of (kept is_live_cursor s.cursors); ended = []; strays = 0 }

abbrev pub StartsEmpty : Type 0
StartsEmpty = start_of fresh ≡ empty

-- a cursor's opening begins at its rows sent and ends at its rows reported
pub record Continues (c : Cursor) : Type 0 where
  pub from : (opening_of c).first ≡ c.sent
  pub to : (opening_of c).first + (opening_of c).rows ≡ c.rows

-- so does each in the tally's start, and the rows reported for them all are what the cursor table owes (T8)
pub record AtCursors (s : Session) : Type 0 where
  pub each : All Continues (kept is_live_cursor s.cursors)
  pub total : rows_reported (start_of s) ≡ owed s

abbrev pub StartsAtCursors : Type 0
StartsAtCursors = (s : Session) → Sound s → AtCursors s
