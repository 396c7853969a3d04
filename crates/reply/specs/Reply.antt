-- What bytes a reply is (P8, P9; the codes R4 to R17).
use Rattle.std.specs.Prelude.{ℕ, List, [], ◌∷◌, ◌++◌, get_or}
use Rattle.protocol.specs.Server as Server
use Rattle.reply.specs.declared.Refusal.{Refusal}
use Rattle.reply.specs.declared.Reply.{Reply}
use Rattle.reply.specs.declared.Reply.TheVariants.{Nothing, Ok, Suspended, Done, Executed, Error}
use Rattle.reply.specs.Text.{text}
use Rattle.encode.specs.Frame.{frame}
use Rattle.reply.specs.Frame.{error_frame}

-- the wire codes of the refusals 0 to 17; 0 to 3 send none, and 16 has the engine's own
abbrev pub codes : List ℕ
codes =
    0 ∷ 0 ∷ 0 ∷ 0 ∷ 6004 ∷ 6005 ∷ 5000 ∷ 5110 ∷ 6008 ∷ 6009 ∷ 5111 ∷ 6011 ∷ 6012 ∷ 6013 ∷ 6014 ∷ 6015 ∷ 0 ∷ 6017 ∷ []

abbrev pub code_of : ℕ → ℕ
code_of reason = get_or codes reason 0

-- the message of an Error
abbrev pub message_of : Refusal → List ℕ
message_of e = text e.reason e.number e.kind

-- the types of a reply's frames, in order
abbrev pub types_of : Reply → List ℕ
types_of Nothing = []
types_of Ok = Server.ok ∷ []
types_of Suspended = Server.fetch_suspended ∷ Server.stmt_execute_ok ∷ []
types_of Done = Server.fetch_done ∷ Server.stmt_execute_ok ∷ []
types_of Executed = Server.stmt_execute_ok ∷ []
types_of (Error e) = Server.error ∷ []

-- frames without payload, one behind the other
abbrev pub empty_frames : List ℕ → List ℕ
empty_frames [] = []
empty_frames (t ∷ ts) = frame t [] ++ empty_frames ts

-- all but an Error have no payload
unfoldable pub reply_bytes : Reply → List ℕ
reply_bytes Nothing = empty_frames (types_of Nothing)
reply_bytes Ok = empty_frames (types_of Ok)
reply_bytes Suspended = empty_frames (types_of Suspended)
reply_bytes Done = empty_frames (types_of Done)
reply_bytes Executed = empty_frames (types_of Executed)
reply_bytes (Error e) = error_frame e.code (message_of e)
