-- A record in, a line out (X2, X4).
use Rattle.std.specs.Prelude.{ℕ, List, take, drop, replicate, Result, Ok, Err}
use Rattle.encode.specs.Put.{put_at, written}
use Rattle.session.specs.Session.{Session}
use Rattle.session.specs.Tables.{owed, stmt_count, cursor_count}
use Rattle.reply.specs.ReplyRules.{min_buffer}
use Rattle.rules.specs.Step.{Step, step_of}
use Rattle.trace_line.specs.declared.Traced.{Traced}
use Rattle.trace_line.specs.declared.line.Line.{Line}
use Rattle.trace_line.specs.declared.record.Record.{Record}
use Rattle.trace_line.specs.declared.record.RecordError.{RecordError}
use Rattle.trace_line.specs.Line.{mark_of, line_of}
use Rattle.trace_line.specs.Record.{RecordResult, record_at}

-- the line of the n-th record, from the step taken on it: its answer, its reply, and the session after it
abbrev pub line_after : ℕ → Step → Line
line_after n t =
    record {
      n = n;
      reason = t.answer.reason;
      first = t.answer.first;
      rows = t.answer.count;
      mark = mark_of t.buffer t.answer.reply;
      stmts = stmt_count t.session;
      cursors = cursor_count t.session;
      owed = owed t.session;
    }

-- "Each record starts on a reply buffer of 128 bytes." (X5)
abbrev pub reply_buffer : List ℕ
reply_buffer = replicate min_buffer 0

-- what is handed back, and the session and the output buffer after it
pub record Trace : Type 0 where
  pub back : Result Traced RecordError
  pub session : Session
  pub out : List ℕ

-- the line put at the place `to` of the output buffer, where it fits
abbrev pub line_to : ℕ → ℕ → List ℕ → ℕ → Step → Trace
line_to n next out to t =
    record {
      back = Ok (record { next = next; put = put_at out to (line_of (line_after n t)) });
      session = t.session;
      out = written out to (line_of (line_after n t));
    }

-- no whole record: nothing is put, and the session stays as it was
abbrev pub nothing : Session → RecordError → List ℕ → Trace
nothing session e out = record { back = Err e; session = session; out = out }

abbrev pub trace_of : Session → ℕ → List ℕ → List ℕ → ℕ → RecordResult → Trace
trace_of session n s out to (Ok r) =
    line_to n r.next out to (step_of session (take r.len (drop r.start s)) r.report reply_buffer)
trace_of session n s out to (Err e) = nothing session e out

-- the n-th record, at the place `at` of the input s
unfoldable pub trace_at : Session → ℕ → List ℕ → ℕ → List ℕ → ℕ → Trace
trace_at session n s at out to = trace_of session n s out to (record_at s at)
