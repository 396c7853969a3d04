-- The words that hold a session: the ids of all statements, a row for all else of each statement, a row for each
-- cursor, and the closed flag. Every list of words is a session, and no two of the right length are the same one.
use Rattle.std.specs.Prelude.{ℕ, zero, suc, ◌+◌, ◌*◌, ◌≡◌, List, [], ◌∷◌, length, get_or}
use Rattle.session.specs.declared.Stmt.{Stmt}
use Rattle.session.specs.declared.Cursor.{Cursor}
use Rattle.session.specs.Session.{Session}
use Rattle.session.specs.Tables.{max_stmts, max_cursors, cursor_words, cursor_fields, spare_words}

-- words of a statement's row
abbrev pub stmt_words : ℕ
stmt_words = 2

-- where the rows and the flag stand; the ids of the statements stand in front
abbrev pub stmt_rows : ℕ
stmt_rows = max_stmts

abbrev pub cursor_rows : ℕ
cursor_rows = stmt_rows + stmt_words * max_stmts

abbrev pub closed_at : ℕ
closed_at = cursor_rows + cursor_words * max_cursors

abbrev pub word_count : ℕ
word_count = closed_at + 1

-- the list f k, f (k + 1), .., of n entries
unfoldable pub build : {A : Type 0} → (ℕ → A) → ℕ → ℕ → List A
build f k zero = []
build f k (suc n) = f k ∷ build f (suc k) n

abbrev pub word : List ℕ → ℕ → ℕ
word w k = get_or w k 0

-- the statement at a place: its id, and its row
abbrev pub stmt_in : List ℕ → ℕ → Stmt
stmt_in w i =
    record {
      id = word w i;
      placeholders = word w (stmt_rows + stmt_words * i);
      live = word w (stmt_rows + stmt_words * i + 1);
    }

abbrev pub cursor_in : List ℕ → ℕ → Cursor
cursor_in w i =
    record {
      id = word w (cursor_rows + cursor_words * i);
      stmt = word w (cursor_rows + cursor_words * i + 1);
      rows = word w (cursor_rows + cursor_words * i + 2);
      sent = word w (cursor_rows + cursor_words * i + 3);
      live = word w (cursor_rows + cursor_words * i + 4);
    }

abbrev pub stmts_in : List ℕ → List Stmt
stmts_in w = build (stmt_in w) 0 max_stmts

abbrev pub cursors_in : List ℕ → List Cursor
cursors_in w = build (cursor_in w) 0 max_cursors

-- the words of a cursor's row past its fields
abbrev pub spare_in : List ℕ → ℕ → List ℕ
spare_in w i = build (λ p. word w (cursor_rows + cursor_words * i + cursor_fields + p)) 0 spare_words

abbrev pub spares_in : List ℕ → List (List ℕ)
spares_in w = build (spare_in w) 0 max_cursors

abbrev pub session_of : List ℕ → Session
session_of w = record { stmts = stmts_in w; cursors = cursors_in w; spare = spares_in w; closed = word w closed_at }

-- the words are determined by the session that they hold
abbrev pub NothingLost : Type 0
NothingLost =
    (w w' : List ℕ) → length w ≡ word_count → length w' ≡ word_count → session_of w ≡ session_of w' → w ≡ w'
