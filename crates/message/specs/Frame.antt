-- What a frame means by itself: the request it holds, or the refusal 1, 2, 5, 6 or 17 that it earns; its chosen body;
-- its arguments.
use Rattle.std.specs.Prelude.{ℕ, cond, List, length, take, drop, eqb, Ok, Err}
use Rattle.protocol.specs.Client as Client
use Rattle.protocol.specs.Reason as Reason
use Rattle.protocol.specs.declared.reason.Reason as Declared
use Rattle.scalar.specs.declared.argument.Argument.{Argument}
use Rattle.scalar.specs.declared.argument.Argument.TheVariants as Va
use Rattle.args.specs.Arguments.{nth_argument}
use Rattle.layout.specs.declared.part.Part.{Part}
use Rattle.args.specs.declared.arguments.Arguments.{Arguments}
use Rattle.message.specs.Head.{HeadResult, head_of}
use Rattle.message.specs.Request as Request
use Rattle.message.specs.Simple.{reset_frame, session_close_frame, deallocate_frame, close_frame, fetch_frame}
use Rattle.message.specs.Execute.{execute_frame, open_frame}
use Rattle.message.specs.Prepare.{prepare_frame}
use Rattle.message.specs.declared.request.Frame.{Frame}
use Rattle.message.specs.declared.request.Frame.TheVariants.{NotAllThere, BadLength, UnknownType, BadPayload}
use Rattle.message.specs.declared.request.Frame.TheVariants.{BodyTwice, Good}

-- ---- reading

-- the frame s, whole and with nothing behind it, by its message type
unfoldable pub frame_in : List ℕ → ℕ → Frame
frame_in s kind =
    cond (eqb kind Client.reset) (reset_frame s)
    (cond (eqb kind Client.session_close) (session_close_frame s)
    (cond (eqb kind Client.prepare) (prepare_frame s)
    (cond (eqb kind Client.execute) (execute_frame s)
    (cond (eqb kind Client.deallocate) (deallocate_frame s)
    (cond (eqb kind Client.open') (open_frame s)
    (cond (eqb kind Client.close) (close_frame s)
    (cond (eqb kind Client.fetch) (fetch_frame s) (UnknownType (length s)))))))))

-- a head that is refused
abbrev pub refused_head : Declared.Reason → Frame
refused_head reason = cond (eqb (Reason.number_of reason) Reason.bad_length) BadLength NotAllThere

-- the frame that a byte string begins with; bytes past it are not read (F3)
abbrev pub of_head : List ℕ → HeadResult → Frame
of_head s (Ok head) = frame_in (take head.end s) head.kind
of_head s (Err reason) = refused_head reason

unfoldable pub frame_of : List ℕ → Frame
frame_of s = of_head s (head_of s)

-- ---- its number and values

-- the refusal by itself, or 0
abbrev pub reason_of : Frame → ℕ
reason_of NotAllThere = Reason.not_all_there
reason_of BadLength = Reason.bad_length
reason_of (UnknownType used) = Reason.unknown_type
reason_of (BadPayload used kind) = Reason.bad_payload
reason_of (BodyTwice used kind) = Reason.body_twice
reason_of (Good used q) = Reason.accepted

-- the frame's length, 0 where it is refused 1 or 2
abbrev pub used_of : Frame → ℕ
used_of NotAllThere = 0
used_of BadLength = 0
used_of (UnknownType used) = used
used_of (BadPayload used kind) = used
used_of (BodyTwice used kind) = used
used_of (Good used q) = used

-- ---- parts of a frame

-- the chosen body; empty where the frame is refused or has none
abbrev pub part_of : Frame → Part
part_of NotAllThere = Request.no_part
part_of BadLength = Request.no_part
part_of (UnknownType used) = Request.no_part
part_of (BadPayload used kind) = Request.no_part
part_of (BodyTwice used kind) = Request.no_part
part_of (Good used q) = Request.body_of q

-- where it stands in the bytes s: its start and its length (A1, A2)
abbrev pub chosen_part : List ℕ → Part
chosen_part s = part_of (frame_of s)

abbrev pub body_in : List ℕ → Part → List ℕ
body_in s body = take body.len (drop body.start s)

abbrev pub body_of : List ℕ → List ℕ
body_of s = body_in s (chosen_part s)

-- one argument by its index from 0: refused as the frame is by itself, 9 past the last, 8 for an object or array (A4,
-- A5, A6)
abbrev pub argument_at : List ℕ → ℕ → Arguments → Argument
argument_at s index args = nth_argument (take args.end s) args.start index

abbrev pub argument_in : List ℕ → ℕ → Frame → Argument
argument_in s index NotAllThere = Va.Refused Reason.not_all_there
argument_in s index BadLength = Va.Refused Reason.bad_length
argument_in s index (UnknownType used) = Va.Refused Reason.unknown_type
argument_in s index (BadPayload used kind) = Va.Refused Reason.bad_payload
argument_in s index (BodyTwice used kind) = Va.Refused Reason.body_twice
argument_in s index (Good used q) = argument_at s index (Request.args_of q)

abbrev pub argument_of : List ℕ → ℕ → Argument
argument_of s index = argument_in s index (frame_of s)
