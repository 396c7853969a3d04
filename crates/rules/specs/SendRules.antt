-- What an accepted step sends, how many bytes a step uses, and what it writes.
use Rattle.std.specs.Prelude.{ℕ, ◌+◌, ◌-◌, ◌≤◌, min, true, false, ◌≡◌, List, ◌++◌, length, drop}
use Rattle.protocol.specs.Reason as Reason
use Rattle.message.specs.Head.{length_bytes, length_of}
use Rattle.message.specs.Frame.{frame_of}
use Rattle.message.specs.declared.request.Request.{Request}
use Rattle.message.specs.declared.request.Request.TheVariants.{Reset, SessionClose, Prepare, Execute, Deallocate, Open}
use Rattle.message.specs.declared.request.Request.TheVariants.{Close, Fetch}
use Rattle.message.specs.declared.request.Frame.{Frame}
use Rattle.session.specs.Session.{Session}
use Rattle.session.specs.Tables.{live_cursor}
use Rattle.reply.specs.ReplyRules.{min_buffer}
use Rattle.rules.specs.declared.Report.{Report}
use Rattle.rules.specs.declared.Answer.{Answer}
use Rattle.rules.specs.Report.{no_work, to_fetch}
use Rattle.rules.specs.Rows.{asked}
use Rattle.rules.specs.Step.{Step, reply_of, look_at, step_of}

-- a look that does not refuse and wants no work: the step is accepted, given room
abbrev pub AcceptsIdle : Type 0
AcceptsIdle =
    (s : Session) (frame : List ℕ) (r : Report) (buffer : List ℕ) → (look_at s frame).reason ≡ Reason.accepted →
    (look_at s frame).work ≡ no_work → min_buffer ≤ length buffer →
    (step_of s frame r buffer).answer.reason ≡ Reason.accepted

-- the rows that a look at a Fetch tells are those that the accepted step sends
pub record SameRows (s : Session) (frame : List ℕ) (a : Answer) : Type 0 where
  pub first : a.first ≡ (look_at s frame).first
  pub count : a.count ≡ (look_at s frame).count

abbrev pub SendsAsLooked : Type 0
SendsAsLooked =
    (s : Session) (frame : List ℕ) (r : Report) (buffer : List ℕ) → (look_at s frame).work ≡ to_fetch →
    (step_of s frame r buffer).answer.reason ≡ Reason.accepted → SameRows s frame (step_of s frame r buffer).answer

-- the rows of an answer: so many, from this one on
pub record Rows (first count : ℕ) (a : Answer) : Type 0 where
  pub from : a.first ≡ first
  pub many : a.count ≡ count

-- all rows of an Execute; of an Open and a Fetch the lesser of what was asked and what is there; none of another
abbrev pub AsAsked : Session → Request → Report → Answer → Type 0
AsAsked s Reset r = Rows 0 0
AsAsked s SessionClose r = Rows 0 0
AsAsked s (Prepare p) r = Rows 0 0
AsAsked s (Execute x) r = Rows 0 r.rows
AsAsked s (Deallocate stmt) r = Rows 0 0
AsAsked s (Open o) r = Rows 0 (min (asked o.rows 0) r.rows)
AsAsked s (Close cursor) r = Rows 0 0
AsAsked s (Fetch f) r =
    let c = live_cursor s f.cursor in
    Rows c.sent (min (asked f.rows (c.rows - c.sent)) (c.rows - c.sent))

abbrev pub SendsAsAsked : Type 0
SendsAsAsked =
    (s : Session) (frame : List ℕ) (r : Report) (buffer : List ℕ) (used : ℕ) (q : Request) →
    frame_of frame ≡ Frame.Good used q →
    (step_of s frame r buffer).answer.reason ≡ Reason.accepted → AsAsked s q r (step_of s frame r buffer).answer

-- the report has a column exactly when columns go out
abbrev pub WithAny : Report → Answer → Type 0
WithAny r a = (a.columns ≡ true → 1 ≤ r.columns) × (1 ≤ r.columns → a.columns ≡ true)

-- "whether columns go out (Execute or Open with any)": no other message sends any (K5)
abbrev pub AsReported : Request → Report → Answer → Type 0
AsReported Reset r a = a.columns ≡ false
AsReported SessionClose r a = a.columns ≡ false
AsReported (Prepare p) r a = a.columns ≡ false
AsReported (Execute x) r a = WithAny r a
AsReported (Deallocate stmt) r a = a.columns ≡ false
AsReported (Open o) r a = WithAny r a
AsReported (Close cursor) r a = a.columns ≡ false
AsReported (Fetch f) r a = a.columns ≡ false

abbrev pub SendsColumns : Type 0
SendsColumns =
    (s : Session) (frame : List ℕ) (r : Report) (buffer : List ℕ) (used : ℕ) (q : Request) →
    frame_of frame ≡ Frame.Good used q →
    (step_of s frame r buffer).answer.reason ≡ Reason.accepted → AsReported q r (step_of s frame r buffer).answer

-- the bytes used: the frame's length by its own four bytes, and no more than were given
pub record Uses (frame : List ℕ) (a : Answer) : Type 0 where
  pub own : a.used ≡ length_bytes + length_of frame
  pub within : a.used ≤ length frame

-- 1 to 3 use none
abbrev pub UsesFrame : Type 0
UsesFrame =
    (s : Session) (frame : List ℕ) (r : Report) (buffer : List ℕ) →
    ((step_of s frame r buffer).answer.reason ≡ Reason.not_all_there → ⊥) →
    ((step_of s frame r buffer).answer.reason ≡ Reason.bad_length → ⊥) →
    ((step_of s frame r buffer).answer.reason ≡ Reason.no_room → ⊥) → Uses frame (step_of s frame r buffer).answer

-- with room every reply is written whole: it has at most 128 bytes, and the rest of the buffer is as it was
pub record Writes (buffer : List ℕ) (after : Step) : Type 0 where
  pub fits : after.answer.reply ≤ min_buffer
  pub long : length (reply_of after) ≡ after.answer.reply
  pub rest : after.buffer ≡ reply_of after ++ drop after.answer.reply buffer

abbrev pub WritesWhole : Type 0
WritesWhole =
    (s : Session) (frame : List ℕ) (r : Report) (buffer : List ℕ) → min_buffer ≤ length buffer →
    Writes buffer (step_of s frame r buffer)
