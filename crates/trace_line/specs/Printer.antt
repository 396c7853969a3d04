-- A printer takes the input in chunks: what it has not printed yet stands at the front of a lent store, and lines go to
-- the front of a lent buffer (X8).
use Rattle.std.specs.Prelude.{ℕ, zero, suc, ◌-◌, min, cond, List, ◌++◌, length, take, nat_le, Result, Ok, Err}
use Rattle.encode.specs.Put.{written}
use Rattle.session.specs.Session.{Session}
use Rattle.trace_line.specs.declared.record.Record.{Record}
use Rattle.trace_line.specs.declared.record.RecordError.{RecordError}
use Rattle.trace_line.specs.declared.printer.Printer.{Printer}
use Rattle.trace_line.specs.declared.printer.Printed.{Printed}
use Rattle.trace_line.specs.Record.{RecordResult, record_at}
use Rattle.trace_line.specs.Output.{Lines, no_line, first_number, on_record}

-- whether a whole record stands first among some bytes, or why none does
abbrev pub first_of : RecordResult → Result (Unit {0}) RecordError
first_of (Ok r) = Ok tt
first_of (Err e) = Err e

unfoldable pub stands_first : List ℕ → Result (Unit {0}) RecordError
stands_first bytes = first_of (record_at bytes 0)

-- ---- lines, as far as there is room

-- seven numbers of at most 20 digits, with a space or the end of the line behind each, the mark and its space
abbrev pub max_line : ℕ
max_line = 149

-- a line is begun where the longest fits
unfoldable pub lines_within : ℕ → ℕ → Session → ℕ → List ℕ → Lines
lines_within zero room session n s = no_line session n s
lines_within (suc most) room session n s =
    cond (nat_le max_line room)
    (on_record (λ line. lines_within most (room - length line)) session n s (record_at s 0))
    (no_line session n s)

-- ---- the printer

abbrev pub from_start : Printer
from_start = record { n = first_number; held = 0 }

abbrev pub held_by : List ℕ → Printer → List ℕ
held_by store p = take p.held store

-- a chunk is taken as far as there is room in the store behind what is held
abbrev pub taken_count : ℕ → ℕ → List ℕ → ℕ
taken_count size have chunk = min (length chunk) (size - have)

-- what a call answers; the session, the store and the lines after it
pub record Print : Type 0 where
  pub answer : Printed
  pub session : Session
  pub store : List ℕ
  pub lines : List ℕ

-- what is left goes to the front of the store
abbrev pub printed_as : ℕ → List ℕ → Lines → Print
printed_as count store x =
    record {
      answer =
          record {
            printer = record { n = x.n; held = length x.left };
            taken = count;
            put = length x.lines;
            first = stands_first x.left;
          };
      session = x.session;
      store = written store 0 x.left;
      lines = x.lines;
    }

-- the bytes held and `more` of a chunk behind them
abbrev pub print_on : Printer → Session → List ℕ → List ℕ → List ℕ → ℕ → Print
print_on p session store have more room =
    printed_as (length more) (written store (length have) more)
    (lines_within (length (have ++ more)) room session p.n (have ++ more))

unfoldable pub print_of : Printer → Session → List ℕ → List ℕ → ℕ → Print
print_of p session store chunk room =
    let have = held_by store p in
    print_on p session store have (take (taken_count (length store) (length have) chunk) chunk) room
