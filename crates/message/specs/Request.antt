-- What each client message has: its type, ids, optional fields, body and arguments. What a message does not have is 0,
-- absent or none.
use Rattle.std.specs.Prelude.{ℕ, Option, None}
use Rattle.protocol.specs.Client as Client
use Rattle.args.specs.Arguments.{no_arguments}
use Rattle.layout.specs.declared.part.Part.{Part}
use Rattle.args.specs.declared.arguments.Arguments.{Arguments}
use Rattle.message.specs.declared.request.Request.{Request}
use Rattle.message.specs.declared.request.Request.TheVariants.{Reset, SessionClose, Prepare, Execute}
use Rattle.message.specs.declared.request.Request.TheVariants.{Deallocate, Open, Close, Fetch}

abbrev pub no_optional : Option ℕ
no_optional = None

abbrev pub no_part : Part
no_part = record { start = 0; len = 0 }

-- the message type
abbrev pub kind_of : Request → ℕ
kind_of Reset = Client.reset
kind_of SessionClose = Client.session_close
kind_of (Prepare p) = Client.prepare
kind_of (Execute x) = Client.execute
kind_of (Deallocate stmt) = Client.deallocate
kind_of (Open o) = Client.open'
kind_of (Close cursor) = Client.close
kind_of (Fetch f) = Client.fetch

-- the statement id
abbrev pub stmt_of : Request → ℕ
stmt_of Reset = 0
stmt_of SessionClose = 0
stmt_of (Prepare p) = p.stmt
stmt_of (Execute x) = x.stmt
stmt_of (Deallocate stmt) = stmt
stmt_of (Open o) = o.execute.stmt
stmt_of (Close cursor) = 0
stmt_of (Fetch f) = 0

-- the cursor id
abbrev pub cursor_of : Request → ℕ
cursor_of Reset = 0
cursor_of SessionClose = 0
cursor_of (Prepare p) = 0
cursor_of (Execute x) = 0
cursor_of (Deallocate stmt) = 0
cursor_of (Open o) = o.cursor
cursor_of (Close cursor) = cursor
cursor_of (Fetch f) = f.cursor

-- fetch_rows
abbrev pub rows_of : Request → Option ℕ
rows_of Reset = no_optional
rows_of SessionClose = no_optional
rows_of (Prepare p) = no_optional
rows_of (Execute x) = no_optional
rows_of (Deallocate stmt) = no_optional
rows_of (Open o) = o.rows
rows_of (Close cursor) = no_optional
rows_of (Fetch f) = f.rows

-- compact_metadata
abbrev pub compact_of : Request → Option ℕ
compact_of Reset = no_optional
compact_of SessionClose = no_optional
compact_of (Prepare p) = no_optional
compact_of (Execute x) = x.compact
compact_of (Deallocate stmt) = no_optional
compact_of (Open o) = o.execute.compact
compact_of (Close cursor) = no_optional
compact_of (Fetch f) = no_optional

-- the type of a Prepare's body
abbrev pub operation_of : Request → ℕ
operation_of Reset = 0
operation_of SessionClose = 0
operation_of (Prepare p) = p.operation
operation_of (Execute x) = 0
operation_of (Deallocate stmt) = 0
operation_of (Open o) = 0
operation_of (Close cursor) = 0
operation_of (Fetch f) = 0

-- the chosen body: a Prepare's body, an Open's Execute
abbrev pub body_of : Request → Part
body_of Reset = no_part
body_of SessionClose = no_part
body_of (Prepare p) = p.body
body_of (Execute x) = no_part
body_of (Deallocate stmt) = no_part
body_of (Open o) = o.body
body_of (Close cursor) = no_part
body_of (Fetch f) = no_part

abbrev pub args_of : Request → Arguments
args_of Reset = no_arguments 0 0
args_of SessionClose = no_arguments 0 0
args_of (Prepare p) = p.args
args_of (Execute x) = x.args
args_of (Deallocate stmt) = no_arguments 0 0
args_of (Open o) = o.execute.args
args_of (Close cursor) = no_arguments 0 0
args_of (Fetch f) = no_arguments 0 0
