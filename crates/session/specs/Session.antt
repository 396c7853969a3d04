-- A session: the two tables, the words of each cursor's row that no field of it has (`spare`), and whether it is closed
-- (0: it is not). A new part of it is one line here.
use Rattle.std.specs.Prelude.{ℕ, Bool, not, List, eqb}
use Rattle.session.specs.declared.Stmt.{Stmt}
use Rattle.session.specs.declared.Cursor.{Cursor}

pub record Session : Type 0 where
  pub stmts : List Stmt
  pub cursors : List Cursor
  pub spare : List (List ℕ)
  pub closed : ℕ

abbrev pub with_stmts : Session → List Stmt → Session
with_stmts s ts = record { stmts = ts; cursors = s.cursors; spare = s.spare; closed = s.closed }

abbrev pub with_cursors : Session → List Cursor → Session
with_cursors s cs = record { stmts = s.stmts; cursors = cs; spare = s.spare; closed = s.closed }

abbrev pub with_spare : Session → List (List ℕ) → Session
with_spare s rows = record { stmts = s.stmts; cursors = s.cursors; spare = rows; closed = s.closed }

abbrev pub with_closed : Session → ℕ → Session
with_closed s closed = record { stmts = s.stmts; cursors = s.cursors; spare = s.spare; closed = closed }

-- a flag is a number: 0 is no, any other yes
abbrev pub flag : ℕ → Bool
flag n = not (eqb n 0)

abbrev pub is_closed : Session → Bool
is_closed s = flag s.closed
