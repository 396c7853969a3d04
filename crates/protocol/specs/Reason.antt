-- Why something is refused, by number. 0 is accepted.
use Rattle.std.specs.Prelude.{ℕ, Result, Ok, Err}
use Rattle.protocol.specs.declared.reason.Reason.{Reason}

abbrev pub accepted : ℕ
accepted = 0

-- the frame is not all there
abbrev pub not_all_there : ℕ
not_all_there = 1

-- its length is 0 or above the limit
abbrev pub bad_length : ℕ
bad_length = 2

-- a lent buffer is too small
abbrev pub no_room : ℕ
no_room = 3

-- the session is closed
abbrev pub closed : ℕ
closed = 4

abbrev pub unknown_type : ℕ
unknown_type = 5

abbrev pub bad_payload : ℕ
bad_payload = 6

-- the statement id is not live
abbrev pub no_stmt : ℕ
no_stmt = 7

-- an argument is an object or an array
abbrev pub not_scalar : ℕ
not_scalar = 8

-- fewer arguments than placeholders; past the last argument
abbrev pub few_arguments : ℕ
few_arguments = 9

-- the cursor id is not live
abbrev pub no_cursor : ℕ
no_cursor = 10

-- all rows are already sent
abbrev pub all_sent : ℕ
all_sent = 11

-- the statement carries a cursor of another id
abbrev pub other_cursor : ℕ
other_cursor = 12

-- the statement table is full, and the id not in it
abbrev pub stmts_full : ℕ
stmts_full = 13

-- the cursor table is full, and the id not in it
abbrev pub cursors_full : ℕ
cursors_full = 14

-- the engine report is of the wrong kind or outside its limits
abbrev pub bad_report : ℕ
bad_report = 15

abbrev pub engine_failed : ℕ
engine_failed = 16

-- the chosen body, or an Open's Execute, occurs more than once; told behind 6 and before 7
abbrev pub body_twice : ℕ
body_twice = 17

-- an image of a session is not acceptable; no frame is refused so
abbrev pub bad_image : ℕ
bad_image = 18

-- the number of each
abbrev pub number_of : Reason → ℕ
number_of Reason.NotAllThere = not_all_there
number_of Reason.BadLength = bad_length
number_of Reason.NoRoom = no_room
number_of Reason.Closed = closed
number_of Reason.UnknownType = unknown_type
number_of Reason.BadPayload = bad_payload
number_of Reason.NoStmt = no_stmt
number_of Reason.NotScalar = not_scalar
number_of Reason.FewArguments = few_arguments
number_of Reason.NoCursor = no_cursor
number_of Reason.AllSent = all_sent
number_of Reason.OtherCursor = other_cursor
number_of Reason.StmtsFull = stmts_full
number_of Reason.CursorsFull = cursors_full
number_of Reason.BadReport = bad_report
number_of Reason.EngineFailed = engine_failed
number_of Reason.BodyTwice = body_twice
number_of Reason.BadImage = bad_image

-- the number told of what is accepted, or refused for a reason
abbrev pub outcome_number : {A : Type 0} → Result A Reason → ℕ
outcome_number (Ok found) = accepted
outcome_number (Err reason) = number_of reason
