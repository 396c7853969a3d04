-- What a step decides on a frame: refused, or accepted with the session after it, the rows and the reply.
use Rattle.std.specs.Prelude.{ℕ, Bool, false, cond, ◌||◌, eqb, leb}
use Rattle.protocol.specs.Client.{fetch}
use Rattle.protocol.specs.Reason as Reason
use Rattle.message.specs.Request.{stmt_of, cursor_of, rows_of, args_of}
use Rattle.message.specs.declared.request.Request.{Request}
use Rattle.message.specs.declared.request.Request.TheVariants.{Reset, SessionClose, Prepare, Execute, Deallocate, Open}
use Rattle.message.specs.declared.request.Request.TheVariants.{Close, Fetch}
use Rattle.message.specs.declared.request.Frame.{Frame}
use Rattle.session.specs.Session.{Session}
use Rattle.session.specs.Tables as Tables
use Rattle.reply.specs.declared.Refusal.{Refusal}
use Rattle.reply.specs.declared.Reply.{Reply}
use Rattle.reply.specs.Reply.{code_of}
use Rattle.rules.specs.declared.Report.{Report}
use Rattle.rules.specs.declared.Look.{Look}
use Rattle.rules.specs.Kind.{is_a, on_good}
use Rattle.rules.specs.Report.{no_work, work_of}
use Rattle.rules.specs.Refusal.{look_reason, step_reason}
use Rattle.rules.specs.Rows.{first_row, row_count, fetch_count, sends_columns, left_after}

-- ---- an accepted request

-- the session after it
unfoldable pub session_after : Session → Request → Report → Session
session_after s Reset r = Tables.reset s
session_after s SessionClose r = Tables.closed_now s
session_after s (Prepare p) r = Tables.prepared s p.stmt r.placeholders
session_after s (Execute x) r = Tables.ended_on s x.stmt
session_after s (Deallocate stmt) r = Tables.freed s stmt
session_after s (Open o) r = Tables.opened s o.cursor o.execute.stmt r.rows (row_count s (Open o) r)
session_after s (Close cursor) r = Tables.ended s cursor
session_after s (Fetch f) r = Tables.fetched s f.cursor (row_count s (Fetch f) r)

-- "FetchDone if none remain, else FetchSuspended"
abbrev pub end_of : ℕ → Reply
end_of left = cond (eqb left 0) Reply.Done Reply.Suspended

-- Execute: "FetchDone, StmtExecuteOk; with no columns StmtExecuteOk alone". All but Execute, Open and Fetch "Ok"
unfoldable pub reply_to : Session → Request → Report → Reply
reply_to s Reset r = Reply.Ok
reply_to s SessionClose r = Reply.Ok
reply_to s (Prepare p) r = Reply.Ok
reply_to s (Execute x) r = cond (sends_columns (Execute x) r) Reply.Done Reply.Executed
reply_to s (Deallocate stmt) r = Reply.Ok
reply_to s (Open o) r = end_of (left_after s (Open o) r)
reply_to s (Close cursor) r = Reply.Ok
reply_to s (Fetch f) r = end_of (left_after s (Fetch f) r)

pub record Decision : Type 0 where
  pub reason : ℕ
  pub session : Session
  pub columns : Bool
  pub first : ℕ
  pub count : ℕ
  pub reply : Reply

abbrev pub accepted : Session → Report → Request → Decision
accepted s r q =
    record {
      reason = Reason.accepted;
      session = session_after s q r;
      columns = sends_columns q r;
      first = first_row s q;
      count = row_count s q r;
      reply = reply_to s q r;
    }

-- ---- a refused frame

-- what an Error's text names: 7 the statement id, 8 the index of the first unsupported argument, 9 the argument count,
-- 10 and 11 the cursor id (P6)
unfoldable pub named : ℕ → Request → ℕ
named reason q =
    cond (eqb reason Reason.no_stmt) (stmt_of q)
    (cond (eqb reason Reason.not_scalar) (args_of q).index
    (cond (eqb reason Reason.few_arguments) (args_of q).count
    (cond (eqb reason Reason.no_cursor || eqb reason Reason.all_sent) (cursor_of q) 0)))

-- of 8 also the type of that argument
unfoldable pub named_kind : ℕ → Request → ℕ
named_kind reason q = cond (eqb reason Reason.not_scalar) (args_of q).kind 0

-- the wire code: for 16 the engine's own (R16)
unfoldable pub wire_code : Report → ℕ → ℕ
wire_code r reason = cond (eqb reason Reason.engine_failed) r.code (code_of reason)

abbrev pub refusal_of : Frame → Report → ℕ → Refusal
refusal_of x r reason =
    record {
      reason = reason;
      code = wire_code r reason;
      number = on_good 0 (named reason) x;
      kind = on_good 0 (named_kind reason) x;
    }

-- "writes only its Error frame, or nothing for reasons 1 to 3" (O3, O4, D1)
unfoldable pub refused_reply : Frame → Report → ℕ → Reply
refused_reply x r reason = cond (leb reason Reason.no_room) Reply.Nothing (Reply.Error (refusal_of x r reason))

-- the session after a refusal
abbrev pub session_refused : Session → Session
session_refused s = s

-- "All send no rows, give first row and count 0, and leave the session as it was." (O5)
abbrev pub refused : Session → ℕ → Reply → Decision
refused s reason reply =
    record { reason = reason; session = session_refused s; columns = false; first = 0; count = 0; reply = reply }

-- ---- both

-- a frame that holds no request is refused before: it comes to nothing here
abbrev pub decided_by : Session → Frame → Report → ℕ → Decision
decided_by s x r reason =
    cond (eqb reason Reason.accepted) (on_good (refused s reason Reply.Nothing) (accepted s r) x)
    (refused s reason (refused_reply x r reason))

unfoldable pub decision_of : Session → Frame → Report → Decision
decision_of s x r = decided_by s x r (step_reason s x r)

-- "A look at a frame answers a refusal, or the work wanted"; "of a Fetch also the first row and count to send" (K3,
-- K4). What the bytes say of padding comes behind (specs/Step.antt)
abbrev pub looked : Session → Request → Look
looked s q =
    record {
      reason = Reason.accepted;
      work = work_of q;
      first = first_row s q;
      count = cond (is_a fetch q) (fetch_count (Tables.live_cursor s (cursor_of q)) (rows_of q)) 0;
      padded = false;
    }

abbrev pub look_refused : ℕ → Look
look_refused reason = record { reason = reason; work = no_work; first = 0; count = 0; padded = false }

abbrev pub look_by : Session → Frame → ℕ → Look
look_by s x reason = cond (eqb reason Reason.accepted) (on_good (look_refused reason) (looked s) x) (look_refused reason)

unfoldable pub look_of : Session → Frame → Look
look_of s x = look_by s x (look_reason s x)
