-- A line of the trace (X2): `n reason first rows mark stmts cursors owed`.
use Rattle.std.specs.Prelude.{ℕ, cond, List, [], ◌∷◌, ◌++◌, ◌==◌, slice_index}
use Prim.Native.Char.{code}
use Rattle.protocol.specs.Server as Server
use Rattle.message.specs.Head.{length_bytes}
use Rattle.reply.specs.Decimal.{decimal}
use Rattle.trace_line.specs.declared.line.Line.{Line}

-- by the type of the reply's first frame; no other is written
abbrev pub letter_of : ℕ → ℕ
letter_of type =
    cond (type == Server.ok) (code "O")
    (cond (type == Server.fetch_suspended) (code "S")
    (cond (type == Server.fetch_done) (code "D")
    (cond (type == Server.stmt_execute_ok) (code "X") (cond (type == Server.error) (code "E") (code "N")))))

-- "mark is O Ok, S suspended, D done, X execute-ok alone, E error, N nothing", of the reply of n bytes at the front of
-- a buffer: its first frame has its type behind the bytes of its length
unfoldable pub mark_of : List ℕ → ℕ → ℕ
mark_of buffer n = cond (n == 0) (code "N") (letter_of (slice_index buffer length_bytes))

-- a number and the space behind it
abbrev pub column : ℕ → List ℕ
column n = decimal n ++ (code " " ∷ [])

unfoldable pub line_of : Line → List ℕ
line_of l =
    column l.n ++ column l.reason ++ column l.first ++ column l.rows ++ (l.mark ∷ code " " ∷ [])
    ++ column l.stmts ++ column l.cursors ++ decimal l.owed ++ (code "\n" ∷ [])
