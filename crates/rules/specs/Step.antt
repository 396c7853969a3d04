-- A look at a frame, and a step: a frame, an engine report and a lent reply buffer (K3, K5). What is decided of the
-- frame says nothing of padding; that comes from its bytes (K18).
use Rattle.std.specs.Prelude.{ℕ, Bool, false, cond, ◌&&◌, List, length, take, leb, ltb}
use Rattle.protocol.specs.Reason as Reason
use Rattle.encode.specs.Put.{written}
use Rattle.message.specs.Frame.{used_of, frame_of}
use Rattle.message.specs.Padded.{padded_of}
use Rattle.message.specs.declared.request.Frame.{Frame}
use Rattle.session.specs.Session.{Session}
use Rattle.reply.specs.Reply.{reply_bytes}
use Rattle.reply.specs.ReplyRules.{min_buffer}
use Rattle.rules.specs.declared.Report.{Report}
use Rattle.rules.specs.declared.Look.{Look}
use Rattle.rules.specs.declared.Answer.{Answer}
use Rattle.rules.specs.Decision.{Decision, session_refused, decision_of, look_of}

-- what a step leaves: its answer, the session, and the reply buffer
pub record Step : Type 0 where
  pub answer : Answer
  pub session : Session
  pub buffer : List ℕ

-- the reply: as many bytes of the buffer after the step as the answer says
abbrev pub reply_of : Step → List ℕ
reply_of x = take x.answer.reply x.buffer

-- 3 "reply buffer below 128 bytes" (R3)
abbrev pub short : List ℕ → Bool
short buffer = ltb (length buffer) min_buffer

-- "Refusals 1 to 3 use 0 bytes and write none" (O3)
abbrev pub silent : ℕ → Answer
silent reason =
    record { reason = reason; used = 0; reply = 0; columns = false; padded = false; first = 0; count = 0 }

abbrev pub too_short : Session → List ℕ → Step
too_short s buffer =
    record {
      answer = silent Reason.no_room;
      session = session_refused s;
      buffer = buffer;
    }

abbrev pub answer_of : Frame → Decision → Answer
answer_of x d =
    record {
      reason = d.reason;
      used = used_of x;
      reply = length (reply_bytes d.reply);
      columns = d.columns;
      padded = false;
      first = d.first;
      count = d.count;
    }

-- the reply stands at the front of the buffer; "Bytes past the reply stay as they were" (K5, P11)
abbrev pub step_by : Frame → List ℕ → Decision → Step
step_by x buffer d =
    record { answer = answer_of x d; session = d.session; buffer = written buffer 0 (reply_bytes d.reply) }

unfoldable pub step_on : Session → Frame → Report → List ℕ → Step
step_on s x r buffer = cond (short buffer) (too_short s buffer) (step_by x buffer (decision_of s x r))

-- ---- what is said of padding

-- "A frame refused 1 to 6 says no": the first and the last of these
abbrev pub first_no : ℕ
first_no = Reason.not_all_there

abbrev pub last_no : ℕ
last_no = Reason.bad_payload

abbrev pub says_no : ℕ → Bool
says_no reason = leb first_no reason && leb reason last_no

abbrev pub said : ℕ → Bool → Bool
said reason padded = cond (says_no reason) false padded

abbrev pub look_says : Bool → Look → Look
look_says padded l =
    record {
      reason = l.reason;
      work = l.work;
      first = l.first;
      count = l.count;
      padded = said l.reason padded;
    }

abbrev pub answer_says : Bool → Answer → Answer
answer_says padded a =
    record {
      reason = a.reason;
      used = a.used;
      reply = a.reply;
      columns = a.columns;
      padded = said a.reason padded;
      first = a.first;
      count = a.count;
    }

abbrev pub step_says : Bool → Step → Step
step_says padded x =
    record { answer = answer_says padded x.answer; session = x.session; buffer = x.buffer }

-- ---- both, of a frame's bytes

unfoldable pub look_at : Session → List ℕ → Look
look_at s frame = look_says (padded_of frame) (look_of s (frame_of frame))

abbrev pub step_of : Session → List ℕ → Report → List ℕ → Step
step_of s frame r buffer = step_says (padded_of frame) (step_on s (frame_of frame) r buffer)
