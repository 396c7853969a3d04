-- The field numbers of the messages that the definitions name (L1). The id stands first in each message of the client,
-- the type in each statement, Any and Scalar.
use Rattle.std.specs.Prelude.{ℕ}

abbrev pub id : ℕ
id = 1

abbrev pub type : ℕ
type = 1

-- of an Execute and a StmtExecute
abbrev pub args : ℕ
args = 2

abbrev pub compact : ℕ
compact = 3

abbrev pub prepare_stmt : ℕ
prepare_stmt = 2

abbrev pub open_stmt : ℕ
open_stmt = 4

abbrev pub open_rows : ℕ
open_rows = 5

-- of an Open's statement
abbrev pub open_execute : ℕ
open_execute = 2

abbrev pub fetch_rows : ℕ
fetch_rows = 2

-- of an octets or a string
abbrev pub bytes : ℕ
bytes = 1
