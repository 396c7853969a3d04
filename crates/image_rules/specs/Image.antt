-- The image of a session: what it lists, as numbers, as shortest varints (I1, I2); and its writing (I3).
use Rattle.std.specs.Prelude.{ℕ, ◌+◌, ◌-◌, ◌*◌, cond, List, [], ◌∷◌, ◌++◌, length}
use Rattle.protocol.specs.Reason as Reason
use Rattle.session.specs.Session.{Session}
use Rattle.session.specs.Tables.{max_stmts, max_cursors}
use Rattle.encode.specs.Put.{fits_at, written}
use Rattle.image_rules.specs.declared.Written.{Written}
use Rattle.image_rules.specs.declared.StmtEntry.{StmtEntry}
use Rattle.image_rules.specs.declared.CursorEntry.{CursorEntry}
use Rattle.image_rules.specs.Numbers.{bytes_of}
use Rattle.image_rules.specs.Listing.{Listing, listing_of}

-- the form number
abbrev pub form : ℕ
form = 1

-- ---- the numbers

-- how many an entry has
abbrev pub stmt_width : ℕ
stmt_width = 3

abbrev pub cursor_width : ℕ
cursor_width = 5

abbrev pub stmt_numbers : StmtEntry → List ℕ
stmt_numbers e = e.place ∷ e.id ∷ e.placeholders ∷ []

abbrev pub cursor_numbers : CursorEntry → List ℕ
cursor_numbers e = e.place ∷ e.id ∷ e.stmt ∷ e.rows ∷ e.sent ∷ []

-- the numbers of all entries, in order
unfoldable pub joined : {E : Type 0} → (E → List ℕ) → List E → List ℕ
joined f [] = []
joined f (e ∷ es) = f e ++ joined f es

-- a table: how many entries it has, and their numbers
abbrev pub table_numbers : {E : Type 0} → (E → List ℕ) → List E → List ℕ
table_numbers f es = length es ∷ joined f es

-- form, closed or not, the statements, the cursors
abbrev pub numbers_in : Listing → List ℕ
numbers_in m = form ∷ m.closed ∷ table_numbers stmt_numbers m.stmts ++ table_numbers cursor_numbers m.cursors

-- ---- the bytes

abbrev pub image_of : Session → List ℕ
image_of s = bytes_of (numbers_in (listing_of s))

-- of a session of 32-bit words: the form, the flag, each count and each place have one byte
abbrev pub one_byte : ℕ
one_byte = 1

-- every other number has at most five
abbrev pub most_number : ℕ
most_number = 5

abbrev pub most_stmt : ℕ
most_stmt = one_byte + (stmt_width - 1) * most_number

abbrev pub most_cursor : ℕ
most_cursor = one_byte + (cursor_width - 1) * most_number

-- so no image is longer than 1,044 bytes
abbrev pub max_image : ℕ
max_image = 4 * one_byte + max_stmts * most_stmt + max_cursors * most_cursor

-- ---- writing one into a lent buffer

abbrev pub answer : ℕ → ℕ → Written
answer reason len = record { reason = reason; len = len }

-- 3 exactly if the buffer is too small
abbrev pub written_of : Session → List ℕ → Written
written_of s buf =
    cond (fits_at buf 0 (image_of s)) (answer Reason.accepted (length (image_of s))) (answer Reason.no_room 0)

-- the buffer afterwards: the image in front and every byte past it as it was; unchanged where it is too small
abbrev pub buffer_with : Session → List ℕ → List ℕ
buffer_with s buf = written buf 0 (image_of s)
