-- The frames of a reply (P1 to P5).
use Rattle.std.specs.Prelude.{ℕ, List, [], ◌++◌}
use Rattle.protocol.specs.Server as Server
use Rattle.encode.specs.Frame.{frame}
use Rattle.encode.specs.Field.{number_field, bytes_field}
use Rattle.reply.specs.Text.{ascii}

abbrev pub ok_frame : List ℕ
ok_frame = frame Server.ok []

abbrev pub fetch_done : List ℕ
fetch_done = frame Server.fetch_done []

abbrev pub fetch_suspended : List ℕ
fetch_suspended = frame Server.fetch_suspended []

abbrev pub stmt_execute_ok : List ℕ
stmt_execute_ok = frame Server.stmt_execute_ok []

-- fields 1 severity (0), 2 code, 3 message, 4 "HY000", in that order (P5)
unfoldable pub error_payload : ℕ → List ℕ → List ℕ
error_payload code message =
    number_field 1 0 ++ number_field 2 code ++ bytes_field 3 message ++ bytes_field 4 (ascii "HY000")

abbrev pub error_frame : ℕ → List ℕ → List ℕ
error_frame code message = frame Server.error (error_payload code message)
