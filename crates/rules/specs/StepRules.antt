-- What holds of every look and step, whatever the session, frame, report and reply buffer.
use Rattle.std.specs.Prelude.{ℕ, ◌≤◌, ◌<◌, true, false, ◌≡◌, List, [], ◌∷◌, ◌++◌, length, drop, get_or, Some, None}
use Rattle.protocol.specs.Reason as Reason
use Rattle.message.specs.Frame.{used_of, frame_of}
use Rattle.message.specs.Request.{stmt_of, cursor_of}
use Rattle.message.specs.declared.request.Open.{Open}
use Rattle.message.specs.declared.request.Fetch.{Fetch}
use Rattle.message.specs.declared.request.Request.{Request}
use Rattle.message.specs.declared.request.Frame.{Frame}
use Rattle.session.specs.Session.{Session, is_closed}
use Rattle.session.specs.Entry.{is_live_stmt, is_live_cursor, no_stmt, no_cursor}
use Rattle.session.specs.Tables.{live_stmt, live_cursor, stmt_at, cursor_at, stmt_place, cursor_place}
use Rattle.session.specs.Sound.{Sound}
use Rattle.reply.specs.Reply.{message_of}
use Rattle.reply.specs.ReplyRules.{min_buffer}
use Rattle.reply.specs.Frame.{error_frame}
use Rattle.reply.specs.Frames.{among}
use Rattle.rules.specs.declared.Report.{Report}
use Rattle.rules.specs.declared.Answer.{Answer}
use Rattle.rules.specs.Ending.{cursors_after}
use Rattle.rules.specs.Report.{no_work}
use Rattle.rules.specs.Refusal.{stmts_full, cursors_full}
use Rattle.rules.specs.Rows.{remaining, row_count}
use Rattle.rules.specs.Decision.{session_after, refusal_of}
use Rattle.rules.specs.Step.{Step, reply_of, look_at, step_of}

-- "leaves both tables unchanged, sends no rows" (O5, D1)
pub record Unchanged (s : Session) (after : Step) : Type 0 where
  pub session : after.session ≡ s
  pub columns : after.answer.columns ≡ false
  pub first : after.answer.first ≡ 0
  pub count : after.answer.count ≡ 0

-- "Refusals 1 to 3 use 0 bytes and write none" (O3)
pub record Silent (buffer : List ℕ) (after : Step) : Type 0 where
  pub used : after.answer.used ≡ 0
  pub reply : after.answer.reply ≡ 0
  pub kept : after.buffer ≡ buffer

-- the reply is these bytes; "Bytes past the reply stay as they were" (P11)
pub record Replies (bytes buffer : List ℕ) (after : Step) : Type 0 where
  pub reply : after.answer.reply ≡ length bytes
  pub written : after.buffer ≡ bytes ++ drop (length bytes) buffer

abbrev pub error_bytes : Frame → Report → ℕ → List ℕ
error_bytes x r reason = error_frame (refusal_of x r reason).code (message_of (refusal_of x r reason))

-- demand 1: "A refused step leaves both tables unchanged, sends no rows, and writes only its Error frame, or nothing
-- for reasons 1 to 3"; those use no byte, and others use the frame (D1, O3, O4)
pub record Refused (s : Session) (x : Frame) (r : Report) (buffer : List ℕ) (after : Step) : Type 0 where
  pub unchanged : Unchanged s after
  pub silent : after.answer.reason ≤ Reason.no_room → Silent buffer after
  pub error : Reason.closed ≤ after.answer.reason → Replies (error_bytes x r after.answer.reason) buffer after
  pub used : Reason.closed ≤ after.answer.reason → after.answer.used ≡ used_of x

abbrev pub RefusedChangesNothing : Type 0
RefusedChangesNothing =
    (s : Session) (frame : List ℕ) (r : Report) (buffer : List ℕ) →
    ((step_of s frame r buffer).answer.reason ≡ Reason.accepted → ⊥) →
    Refused s (frame_of frame) r buffer (step_of s frame r buffer)

-- "If it [a look] refuses, the step refuses alike under every report, unless reason 3 comes first." (K6)
abbrev pub RefusesAlike : Type 0
RefusesAlike =
    (s : Session) (frame : List ℕ) (r : Report) (buffer : List ℕ) → ((look_at s frame).reason ≡ Reason.accepted → ⊥) →
    min_buffer ≤ length buffer → (step_of s frame r buffer).answer.reason ≡ (look_at s frame).reason

-- "If it doesn't, the step gives no refusal but 3, 15 or 16." (K7)
abbrev pub RefusesFew : Type 0
RefusesFew =
    (s : Session) (frame : List ℕ) (r : Report) (buffer : List ℕ) → (look_at s frame).reason ≡ Reason.accepted →
    among (step_of s frame r buffer).answer.reason
    (Reason.accepted ∷ Reason.no_room ∷ Reason.bad_report ∷ Reason.engine_failed ∷ [])
    ≡ true

-- 3 comes first, and is given exactly where the buffer is short (R3, O1)
abbrev pub ShortFirst : Type 0
ShortFirst =
    (s : Session) (frame : List ℕ) (r : Report) (buffer : List ℕ) →
    (length buffer < min_buffer → (step_of s frame r buffer).answer.reason ≡ Reason.no_room)
    × ((step_of s frame r buffer).answer.reason ≡ Reason.no_room → length buffer < min_buffer)

-- "With work "none" the report is not consulted." (K9)
abbrev pub ReportNotConsulted : Type 0
ReportNotConsulted =
    (s : Session) (frame : List ℕ) (r other : Report) (buffer : List ℕ) → (look_at s frame).work ≡ no_work →
    step_of s frame r buffer ≡ step_of s frame other buffer

-- 4 comes before all that is said of a message: a closed session refuses so every frame that is there and of a good
-- length
abbrev pub ClosedFirst : Type 0
ClosedFirst =
    (s : Session) (frame : List ℕ) → is_closed s ≡ true →
    ((look_at s frame).reason ≡ Reason.not_all_there → ⊥) → ((look_at s frame).reason ≡ Reason.bad_length → ⊥) →
    (look_at s frame).reason ≡ Reason.closed

-- and one that is not closed refuses no Reset and no Session close
abbrev pub UnclosedAccepts : Type 0
UnclosedAccepts =
    (s : Session) (frame : List ℕ) (used : ℕ) → is_closed s ≡ false →
    (frame_of frame ≡ Frame.Good used Request.Reset → (look_at s frame).reason ≡ Reason.accepted)
    × (frame_of frame ≡ Frame.Good used Request.SessionClose → (look_at s frame).reason ≡ Reason.accepted)

-- 13 and 14 are for an id that is "not among them": one that is live finds its place, however full the table is
abbrev pub OwnPlace : Type 0
OwnPlace =
    (s : Session) (q : Request) →
    (is_live_stmt (live_stmt s (stmt_of q)) ≡ true → stmts_full s q ≡ false)
    × (is_live_cursor (live_cursor s (cursor_of q)) ≡ true → cursors_full s q ≡ false)

-- an id that is not live takes the lowest free place of the table: the entry there is free, and all before it are live
-- (S3)
abbrev pub LowestPlace : Type 0
LowestPlace =
    (s : Session) (id i : ℕ) →
    (stmt_at s id ≡ None → stmt_place s id ≡ Some i →
    (i < length s.stmts) × (is_live_stmt (get_or s.stmts i no_stmt) ≡ false)
    × ((j : ℕ) → j < i → is_live_stmt (get_or s.stmts j no_stmt) ≡ true))
    × (cursor_at s id ≡ None → cursor_place s id ≡ Some i →
    (i < length s.cursors) × (is_live_cursor (get_or s.cursors i no_cursor) ≡ false)
    × ((j : ℕ) → j < i → is_live_cursor (get_or s.cursors j no_cursor) ≡ true))

-- without fetch_rows an Open sends no row ("absent means 0") and a Fetch all that remain ("absent meaning all") (S7,
-- S8)
abbrev pub SendsUnasked : Type 0
SendsUnasked =
    (s : Session) (r : Report) →
    ((o : Open) → o.rows ≡ None → row_count s (Request.Open o) r ≡ 0)
    × ((f : Fetch) → f.rows ≡ None → row_count s (Request.Fetch f) r ≡ remaining (live_cursor s f.cursor))

-- every step hands back a session that keeps the rules of the tables (S13)
abbrev pub KeepsSound : Type 0
KeepsSound =
    (s : Session) (frame : List ℕ) (r : Report) (buffer : List ℕ) → Sound s →
    Sound (step_of s frame r buffer).session

-- the tables go by the list of endings that the tally goes by (E4)
abbrev pub EndsAsListed : Type 0
EndsAsListed =
    (s : Session) (q : Request) (r : Report) → Sound s → (session_after s q r).cursors ≡ cursors_after s q r

-- what a host has of a step: the answer, the session and the reply
pub record Outcome : Type 0 where
  pub answer : Answer
  pub session : Session
  pub reply : List ℕ

abbrev pub outcome : Step → Outcome
outcome after = record { answer = after.answer; session = after.session; reply = reply_of after }

-- with 128 bytes or more, neither the length of a reply buffer nor what it held before makes a difference (K12)
abbrev pub BufferMakesNoDifference : Type 0
BufferMakesNoDifference =
    (s : Session) (frame : List ℕ) (r : Report) (buffer other : List ℕ) →
    min_buffer ≤ length buffer → min_buffer ≤ length other →
    outcome (step_of s frame r buffer) ≡ outcome (step_of s frame r other)
