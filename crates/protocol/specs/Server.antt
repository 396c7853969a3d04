-- The types of the server's messages that are written here.
use Rattle.std.specs.Prelude.{ℕ}

abbrev pub ok : ℕ
ok = 0

abbrev pub error : ℕ
error = 1

abbrev pub fetch_done : ℕ
fetch_done = 14

abbrev pub fetch_suspended : ℕ
fetch_suspended = 15

abbrev pub stmt_execute_ok : ℕ
stmt_execute_ok = 17
