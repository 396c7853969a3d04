-- What a line's mark tells.
use Rattle.std.specs.Prelude.{◌≡◌, ℕ, List}
use Prim.Native.Char.{code}
use Rattle.message.specs.Frame.{frame_of}
use Rattle.session.specs.Session.{Session}
use Rattle.reply.specs.declared.Reply.{Reply}
use Rattle.reply.specs.declared.Reply.TheVariants.{Nothing, Ok, Suspended, Done, Executed, Error}
use Rattle.rules.specs.declared.Report.{Report}
use Rattle.rules.specs.Decision.{decision_of}
use Rattle.rules.specs.Step.{step_of}
use Rattle.trace_line.specs.Trace.{line_after, reply_buffer}

-- by the reply
abbrev pub letter_for : Reply → ℕ
letter_for Nothing = code "N"
letter_for Ok = code "O"
letter_for Suspended = code "S"
letter_for Done = code "D"
letter_for Executed = code "X"
letter_for (Error e) = code "E"

-- the mark read off a step's reply bytes is that of the reply that was decided
abbrev pub MarksTell : Type 0
MarksTell =
    (n : ℕ) (session : Session) (frame : List ℕ) (report : Report) →
    (line_after n (step_of session frame report reply_buffer)).mark
    ≡ letter_for (decision_of session (frame_of frame) report).reply
