-- A record of the trace printer's input (X1): "a frame's length, the frame, a report kind (0 none, 1 prepared, 2
-- result, 3 done, 4 failed) and its numbers, all numbers in groups of seven bits".
use Rattle.std.specs.Prelude.{ℕ, ◌+◌, cond, List, length, ◌==◌, nat_lt, Option, Some, None, Result, Ok, Err}
use Rattle.varint.specs.declared.Number.{Number}
use Rattle.varint.specs.Varint.{varint_at}
use Rattle.rules.specs.declared.Report.{Report}
use Rattle.rules.specs.Report.{prepared, result, failed}
use Rattle.trace_line.specs.declared.record.Record.{Record}
use Rattle.trace_line.specs.declared.record.RecordError.{RecordError}
use Rattle.trace_line.specs.declared.record.RecordError.TheVariants.{Short, Bad}

-- a number, a whole record, or why there is none
abbrev pub NumberResult : Type 0
NumberResult = Result Number RecordError

abbrev pub RecordResult : Type 0
RecordResult = Result Record RecordError

-- where no varint stands: the bytes end before ten of them, and more may complete it, or ten stand there and all go
-- on
abbrev pub unended : List ℕ → ℕ → NumberResult
unended s at = cond (nat_lt (length s) (at + 10)) (Err Short) (Err Bad)

abbrev pub number_of : List ℕ → ℕ → Option Number → NumberResult
number_of s at (Some r) = Ok (record { value = r.value; next = r.next })
number_of s at None = unended s at

-- the number at a place
unfoldable pub number_at : List ℕ → ℕ → NumberResult
number_at s at = number_of s at (varint_at s at)

-- a number, and what its value and the place behind it lead to
abbrev pub and_then : NumberResult → (ℕ → ℕ → RecordResult) → RecordResult
and_then (Ok n) more = more n.value n.next
and_then (Err e) more = Err e

-- "a frame length above 65,536 or a kind above 4" is bad (X6)
abbrev pub max_frame : ℕ
max_frame = 65536

abbrev pub max_kind : ℕ
max_kind = failed

-- the reports: none and done have no numbers
abbrev pub bare_report : ℕ → Report
bare_report kind = record { kind = kind; placeholders = 0; columns = 0; rows = 0; code = 0 }

abbrev pub prepared_report : ℕ → Report
prepared_report placeholders =
    record { kind = prepared; placeholders = placeholders; columns = 0; rows = 0; code = 0 }

abbrev pub result_report : ℕ → ℕ → Report
result_report columns rows = record { kind = result; placeholders = 0; columns = columns; rows = rows; code = 0 }

abbrev pub failed_report : ℕ → Report
failed_report code = record { kind = failed; placeholders = 0; columns = 0; rows = 0; code = code }

-- a record whose frame has `len` bytes from `start` on
abbrev pub whole_record : ℕ → ℕ → Report → ℕ → RecordResult
whole_record start len report next = Ok (record { start = start; len = len; report = report; next = next })

-- the number of a prepared, of a failed
unfoldable pub prepared_at : List ℕ → ℕ → ℕ → ℕ → RecordResult
prepared_at s start len at =
    and_then (number_at s at) (λ placeholders next. whole_record start len (prepared_report placeholders) next)

unfoldable pub failed_at : List ℕ → ℕ → ℕ → ℕ → RecordResult
failed_at s start len at = and_then (number_at s at) (λ code next. whole_record start len (failed_report code) next)

-- a result has its columns, and behind them its rows
unfoldable pub rows_at : List ℕ → ℕ → ℕ → ℕ → ℕ → RecordResult
rows_at s start len columns at =
    and_then (number_at s at) (λ rows next. whole_record start len (result_report columns rows) next)

unfoldable pub result_at : List ℕ → ℕ → ℕ → ℕ → RecordResult
result_at s start len at = and_then (number_at s at) (λ columns p. rows_at s start len columns p)

-- the numbers of a report of this kind
unfoldable pub report_at : List ℕ → ℕ → ℕ → ℕ → ℕ → RecordResult
report_at s start len kind at =
    cond (nat_lt max_kind kind) (Err Bad)
    (cond (kind == prepared) (prepared_at s start len at)
    (cond (kind == result) (result_at s start len at)
    (cond (kind == failed) (failed_at s start len at) (whole_record start len (bare_report kind) at))))

-- the report behind the frame
unfoldable pub kind_at : List ℕ → ℕ → ℕ → RecordResult
kind_at s start len = and_then (number_at s (start + len)) (λ kind at. report_at s start len kind at)

-- a frame of this length, all there, and the report
unfoldable pub frame_at : List ℕ → ℕ → ℕ → RecordResult
frame_at s len start =
    cond (nat_lt max_frame len) (Err Bad) (cond (nat_lt (length s) (start + len)) (Err Short) (kind_at s start len))

-- the record at a place; or its bytes end before it does, or it has a bad number
unfoldable pub record_at : List ℕ → ℕ → RecordResult
record_at s at = and_then (number_at s at) (λ len start. frame_at s len start)
