-- Reading an image back (I5): its entries are taken into a session that has none, one after the other, each where the
-- rules allow it. Where one does not, or anything stands behind the last, the image is refused. This is shaped for the
-- code; what it means is said in ImageRules.
use Rattle.std.specs.Prelude.{Some, is_none, is_some}
use Rattle.std.specs.Prelude.{ℕ, zero, suc, Bool, ◌&&◌, ◌||◌, cond, List, length, get_or, eqb, leb, ltb}
use Rattle.protocol.specs.Reason as Reason
use Rattle.session.specs.Session.{Session}
use Rattle.session.specs.Entry.{new_stmt, new_cursor}
use Rattle.session.specs.Tables.{max_stmts, max_cursors, fresh, closed_now, stmt_at, cursor_at, cursor_on, stored_stmt}
use Rattle.session.specs.Tables.{stored_cursor}
use Rattle.session.specs.Sound.{max_placeholders}
use Rattle.image_rules.specs.Numbers.{Front, front_at}
use Rattle.image_rules.specs.declared.StmtEntry.{StmtEntry}
use Rattle.image_rules.specs.declared.CursorEntry.{CursorEntry}
use Rattle.image_rules.specs.Image.{form, stmt_width, cursor_width}

-- what is read up to a place: the session so far
pub data Reading : Type 0 where
  read : Session → ℕ → Reading
  broken : Reading

abbrev pub on_front : Front → (List ℕ → ℕ → Reading) → Reading
on_front (Front.numbers ns next) f = f ns next
on_front Front.broken f = Reading.broken

abbrev pub on_read : Reading → (Session → ℕ → Reading) → Reading
on_read (Reading.read x at) f = f x at
on_read Reading.broken f = Reading.broken

-- ---- the entries of a table

-- how an entry of a table is read and taken: its count of numbers, the entry that they make and its place; whether a
-- session takes it, behind the places below `next`; the session with it
pub record Table (E : Type 0) : Type 0 where
  pub width : ℕ
  pub entry : List ℕ → E
  pub place : E → ℕ
  pub takes : ℕ → E → Session → Bool
  pub taken : E → Session → Session

-- `count` entries from the place `at` on
unfoldable pub entries_at : {E : Type 0} → Table E → ℕ → ℕ → List ℕ → ℕ → Session → Reading
entries_at t zero next s at x = Reading.read x at
entries_at t (suc count) next s at x =
    on_front (front_at t.width s at) (λ ns after.
    let e = t.entry ns in
    let rest = entries_at t count (suc (t.place e)) s after (t.taken e x) in
    cond (t.takes next e x) rest Reading.broken)

-- the numbers of an entry or of the head, by their order
abbrev pub nth : List ℕ → ℕ → ℕ
nth ns k = get_or ns k 0

abbrev pub stmt_of : List ℕ → StmtEntry
stmt_of ns = record { place = nth ns 0; id = nth ns 1; placeholders = nth ns 2 }

abbrev pub cursor_of : List ℕ → CursorEntry
cursor_of ns = record { place = nth ns 0; id = nth ns 1; stmt = nth ns 2; rows = nth ns 3; sent = nth ns 4 }

abbrev pub form_in : List ℕ → ℕ
form_in ns = nth ns 0

abbrev pub closed_in : List ℕ → ℕ
closed_in ns = nth ns 1

abbrev pub stmts_in : List ℕ → ℕ
stmts_in ns = nth ns 2

-- a place behind those below `next`, and within the limit
abbrev pub rises : ℕ → ℕ → ℕ → Bool
rises limit next place = leb next place && ltb place limit

abbrev pub stmt_table : Table StmtEntry
stmt_table =
    record {
      width = stmt_width;
      entry = stmt_of;
      place = λ e. e.place;
      takes = λ next e x.
          rises max_stmts next e.place && (leb e.placeholders max_placeholders && is_none (stmt_at x e.id));
      taken = λ e x. stored_stmt x (Some e.place) (new_stmt e.id e.placeholders);
    }

abbrev pub cursor_table : Table CursorEntry
cursor_table =
    record {
      width = cursor_width;
      entry = cursor_of;
      place = λ e. e.place;
      takes = λ next e x.
          rises max_cursors next e.place && (leb e.sent e.rows && (is_some (stmt_at x e.stmt)
          && (is_none (cursor_at x e.id) && is_none (cursor_on x e.stmt))));
      taken = λ e x. stored_cursor x (Some e.place) (new_cursor e.id e.stmt e.rows e.sent);
    }

-- ---- the whole

-- a session without entries, closed or not
abbrev pub begun : ℕ → Session
begun closed = cond (eqb closed 0) fresh (closed_now fresh)

-- form, closed or not, and how many statements: none if closed. So no cursor finds its statement then
abbrev pub head_width : ℕ
head_width = 3

abbrev pub head_good : List ℕ → Bool
head_good ns = eqb (form_in ns) form && (leb (closed_in ns) 1 && (eqb (closed_in ns) 0 || eqb (stmts_in ns) 0))

-- the count of cursors, by itself
abbrev pub count_width : ℕ
count_width = 1

-- how many cursors, the cursors, and nothing behind them
unfoldable pub cursors_at : List ℕ → ℕ → Session → Reading
cursors_at s at x =
    on_front (front_at count_width s at) (λ ns after.
    on_read (entries_at cursor_table (nth ns 0) 0 s after x) (λ y end.
    cond (eqb end (length s)) (Reading.read y end) Reading.broken))

unfoldable pub reading_of : List ℕ → Reading
reading_of s =
    on_front (front_at head_width s 0) (λ ns at.
    cond (head_good ns)
    (on_read (entries_at stmt_table (stmts_in ns) 0 s at (begun (closed_in ns))) (λ x after. cursors_at s after x))
    Reading.broken)

-- ---- the answer

pub record Restored : Type 0 where
  pub reason : ℕ
  pub session : Session

-- "18, image not acceptable, the session given back as it was"
abbrev pub restored_by : Session → Reading → Restored
restored_by before (Reading.read x at) = record { reason = Reason.accepted; session = x }
restored_by before Reading.broken = record { reason = Reason.bad_image; session = before }

abbrev pub restore_of : Session → List ℕ → Restored
restore_of before image = restored_by before (reading_of image)
