-- What a part of a step comes to. For private contracts: what is promised does not cite it.
use Rattle.std.specs.Prelude.{ℕ, ◌+◌, ◌-◌, ◌≤◌, false, cond, not, ◌||◌, ◌≡◌, List, length, eqb, unwrap_or, Result, Ok, Err}
use Rattle.protocol.specs.Reason as Reasons
use Rattle.protocol.specs.Reason.{number_of}
use Rattle.protocol.specs.declared.reason.Reason.{Reason}
use Rattle.encode.specs.Put.{put_at, written}
use Rattle.args.specs.declared.arguments.Arguments.{Arguments}
use Rattle.message.specs.Request.{stmt_of, cursor_of, args_of}
use Rattle.message.specs.declared.request.Frame.{Frame}
use Rattle.message.specs.declared.request.Request.{Request}
use Rattle.session.specs.Session.{Session}
use Rattle.session.specs.declared.Cursor.{Cursor}
use Rattle.session.specs.Words.{session_of}
use Rattle.reply.specs.declared.Refusal.{Refusal}
use Rattle.reply.specs.declared.Reply.{Reply}
use Rattle.reply.specs.Reply.{reply_bytes}
use Rattle.reply.specs.ReplyRules.{min_buffer}
use Rattle.rules.specs.declared.Answer.{Answer}
use Rattle.rules.specs.declared.Report.{Report}
use Rattle.rules.specs.Rows.{first_row, row_count, sends_columns}
use Rattle.rules.specs.Decision.{end_of, reply_to, session_after, wire_code}
use Rattle.rules.specs.Refusal.{step_reason}
use Rattle.rules.specs.Read.{Read}
use Rattle.rules.specs.Step.{Step, step_on}
use Rattle.keeper.specs.declared.answer.Names.{Names}
use Rattle.keeper.specs.declared.answer.Sends.{Sends}
use Rattle.keeper.specs.declared.report.ResultSet.{ResultSet}

-- a step's answer, session and buffer
pub record Does (step : Step) (answer : Answer) (session : Session) (buffer : List ℕ) : Type 0 where
  pub answered : answer ≡ step.answer
  pub kept : session ≡ step.session
  pub replied : buffer ≡ step.buffer

-- the step on a request, from the words and the buffer before to those after
abbrev pub Steps : ℕ → Request → Report → Answer → List ℕ → List ℕ → List ℕ → List ℕ → Type 0
Steps used q report answer words buffer words' buffer' =
    Does (step_on (session_of words) (Frame.Good used q) report buffer) answer (session_of words') buffer'

-- the length told of a reply: 0 where it does not fit
abbrev pub length_in : List ℕ → Reply → ℕ
length_in buffer reply = unwrap_or (put_at buffer 0 (reply_bytes reply)) 0

-- a reply put at the front of the buffer, and its length told
pub record Replies (reply : Reply) (before : List ℕ) (n : ℕ) (after : List ℕ) : Type 0 where
  pub long : n ≡ length_in before reply
  pub stored : after ≡ written before 0 (reply_bytes reply)

-- an answer but for the reply's length
abbrev pub with_length : ℕ → Answer → Answer
with_length n a =
    record {
      reason = a.reason;
      used = a.used;
      reply = n;
      columns = a.columns;
      padded = a.padded;
      first = a.first;
      count = a.count;
    }

abbrev pub accepting : ℕ → Sends → Answer
accepting used x =
    record {
      reason = Reasons.accepted;
      used = used;
      reply = 0;
      columns = x.columns;
      padded = false;
      first = x.first;
      count = x.count;
    }

abbrev pub refusing : ℕ → ℕ → Answer
refusing used reason =
    record { reason = reason; used = used; reply = 0; columns = false; padded = false; first = 0; count = 0 }

-- the answer with the length of its reply, which stands at the front of the buffer
pub record Answers (answer : Answer) (reply : Reply) (before : List ℕ) (r : Answer) (after : List ℕ) : Type 0 where
  pub answered : r ≡ with_length (length_in before reply) answer
  pub stored : after ≡ written before 0 (reply_bytes reply)

-- what an Error names, of a request and of a frame that holds none
abbrev pub names_by : ℕ → ℕ → Arguments → Names
names_by stmt cursor args =
    record { stmt = stmt; cursor = cursor; index = args.index; count = args.count; kind = args.kind }

abbrev pub names_of : Request → Names
names_of q = names_by (stmt_of q) (cursor_of q) (args_of q)

abbrev pub no_names : Names
no_names = record { stmt = 0; cursor = 0; index = 0; count = 0; kind = 0 }

unfoldable pub number_named : ℕ → Names → ℕ
number_named reason x =
    cond (eqb reason Reasons.no_stmt) x.stmt
    (cond (eqb reason Reasons.not_scalar) x.index
    (cond (eqb reason Reasons.few_arguments) x.count
    (cond (eqb reason Reasons.no_cursor || eqb reason Reasons.all_sent) x.cursor 0)))

unfoldable pub kind_named : ℕ → Names → ℕ
kind_named reason x = cond (eqb reason Reasons.not_scalar) x.kind 0

abbrev pub error_of : ℕ → Names → Report → Refusal
error_of reason x r =
    record { reason = reason; code = wire_code r reason; number = number_named reason x; kind = kind_named reason x }

-- what holds when a request is stepped on: it was read, and there is room
pub record Readable (q : Request) (buffer : List ℕ) : Type 0 where
  pub room : min_buffer ≤ length buffer
  pub read : Read q

-- what an accepted request sends
abbrev pub sends_of : Session → Request → Report → Sends
sends_of s q r =
    record {
      columns = sends_columns q r;
      first = first_row s q;
      count = row_count s q r;
      reply = reply_to s q r;
    }

-- by the numbers that it depends on: all rows of a result; the first rows of one; the next rows of a cursor
abbrev pub sends_all : ResultSet → Sends
sends_all x =
    record { columns = x.columns; first = 0; count = x.rows; reply = cond x.columns Reply.Done Reply.Executed }

abbrev pub sends_first : ResultSet → ℕ → Sends
sends_first x count =
    record { columns = x.columns; first = 0; count = count; reply = end_of (x.rows - (0 + count)) }

abbrev pub sends_next : Cursor → ℕ → Sends
sends_next c count =
    record { columns = false; first = c.sent; count = count; reply = end_of (c.rows - (c.sent + count)) }

-- what a report says of a statement that was run
abbrev pub result_set : Report → ResultSet
result_set r = record { columns = not (eqb r.columns 0); rows = r.rows }

-- what is decided on a request, and the session after it: accepted, with what is sent
pub record Accepts (s : Session) (q : Request) (r : Report) (sends : Sends) (after : Session) : Type 0 where
  pub passes : Reasons.accepted ≡ step_reason s (Frame.Good 0 q) r
  pub sent : sends ≡ sends_of s q r
  pub changed : after ≡ session_after s q r

-- or refused
pub record Refuses (s : Session) (q : Request) (r : Report) (reason : Reason) (after : Session) : Type 0 where
  pub fails : number_of reason ≡ step_reason s (Frame.Good 0 q) r
  pub kept : after ≡ s

abbrev pub Decides : Session → Request → Report → Result Sends Reason → Session → Type 0
Decides s q r (Ok sends) after = Accepts s q r sends after
Decides s q r (Err reason) after = Refuses s q r reason after
