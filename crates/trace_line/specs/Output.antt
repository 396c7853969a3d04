-- The whole output of the trace printer, as a definition of the whole input (X2, X4 to X7).
use Rattle.std.specs.Prelude.{ℕ, zero, suc, ◌+◌, ◌%◌, ◌^◌, List, [], ◌++◌, length, take, drop, Result, Ok, Err}
use Rattle.session.specs.Session.{Session}
use Rattle.session.specs.Tables.{fresh}
use Rattle.reply.specs.Text.{ascii}
use Rattle.rules.specs.Step.{Step, step_of}
use Rattle.trace_line.specs.declared.record.Record.{Record}
use Rattle.trace_line.specs.declared.record.RecordError.{RecordError}
use Rattle.trace_line.specs.Line.{line_of}
use Rattle.trace_line.specs.Record.{RecordResult, record_at}
use Rattle.trace_line.specs.Trace.{line_after, reply_buffer}
use Rattle.trace_line.specs.End.{end_text}

-- "It prints the header and a line each" (X2)
unfoldable pub header : List ℕ
header = ascii "n reason first rows mark stmts cursors owed\n"

-- What bytes come to: the lines of the whole records that stand one behind the other at their front; the session and
-- the number of the next record then; and the bytes left, at whose front no whole record stands.
pub record Lines : Type 0 where
  pub lines : List ℕ
  pub session : Session
  pub n : ℕ
  pub left : List ℕ

abbrev pub no_line : Session → ℕ → List ℕ → Lines
no_line session n s = record { lines = []; session = session; n = n; left = s }

abbrev pub also : List ℕ → Lines → Lines
also line x = record { lines = line ++ x.lines; session = x.session; n = x.n; left = x.left }

-- records are counted in 64 bits, from 1 (X2)
abbrev pub first_number : ℕ
first_number = 1

abbrev pub number_behind : ℕ → ℕ
number_behind n = (n + 1) % 2 ^ 64

-- what comes behind a line: of the line, the session, the number of the next record and the bytes behind this one
abbrev pub Behind : Type 0
Behind = List ℕ → Session → ℕ → List ℕ → Lines

-- a step's line, and what comes behind it, on the session after it (X4)
abbrev pub line_then : Behind → ℕ → List ℕ → Step → Lines
line_then rest n behind t =
    let line = line_of (line_after n t) in also line (rest line t.session (number_behind n) behind)

abbrev pub on_record : Behind → Session → ℕ → List ℕ → RecordResult → Lines
on_record rest session n s (Ok r) =
    line_then rest n (drop r.next s) (step_of session (take r.len (drop r.start s)) r.report reply_buffer)
on_record rest session n s (Err e) = no_line session n s

-- at most so many records
unfoldable pub lines_from : ℕ → Session → ℕ → List ℕ → Lines
lines_from zero session n s = no_line session n s
lines_from (suc most) session n s = on_record (λ line. lines_from most) session n s (record_at s 0)

-- all records, from a fresh session on (X4); there are no more of them than bytes
abbrev pub lines_of : List ℕ → Lines
lines_of input = lines_from (length input) fresh first_number input

abbrev pub output_of : List ℕ → List ℕ
output_of input = header ++ (lines_of input).lines ++ end_text (length (lines_of input).left)
