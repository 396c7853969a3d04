-- "How the input is cut into pieces makes no difference" (X8): every list of calls of a printer writes the whole output
-- of the bytes that it took.
use Rattle.std.specs.Prelude.{◌≡◌, ℕ, ◌+◌, ◌≤◌, ◌⊎◌, List, [], ◌∷◌, ◌++◌, length, take, Ok, Err}
use Rattle.session.specs.Session.{Session}
use Rattle.session.specs.Tables.{fresh}
use Rattle.trace_line.specs.declared.record.RecordError.TheVariants.{Short, Bad}
use Rattle.trace_line.specs.declared.printer.Printer.{Printer}
use Rattle.trace_line.specs.End.{end_text}
use Rattle.trace_line.specs.Output.{header, output_of}
use Rattle.trace_line.specs.Printer.{stands_first, max_line, from_start, held_by, Print, print_of}

-- a call has a chunk, and a buffer with so much room for lines
pub record Call : Type 0 where
  pub chunk : List ℕ
  pub room : ℕ

-- a printer, its session and its store; the bytes taken and the lines put so far
pub record Printing : Type 0 where
  pub printer : Printer
  pub session : Session
  pub store : List ℕ
  pub taken : List ℕ
  pub lines : List ℕ

abbrev pub called_as : Printing → List ℕ → Print → Printing
called_as x chunk p =
    record {
      printer = p.answer.printer;
      session = p.session;
      store = p.store;
      taken = x.taken ++ take p.answer.taken chunk;
      lines = x.lines ++ p.lines;
    }

unfoldable pub called : Call → Printing → Printing
called c x = called_as x c.chunk (print_of x.printer x.session x.store c.chunk c.room)

-- each call on what the one before left
unfoldable pub calls : List Call → Printing → Printing
calls [] x = x
calls (c ∷ cs) x = calls cs (called c x)

-- from the beginning, whatever the store has in it
abbrev pub begun : List ℕ → Printing
begun store = record { printer = from_start; session = fresh; store = store; taken = []; lines = [] }

abbrev pub printing : List ℕ → List Call → Printing
printing store cs = calls cs (begun store)

-- what was written, the header first and the end's text last
abbrev pub written_by : Printing → List ℕ
written_by x = header ++ x.lines ++ end_text x.printer.held

abbrev pub held_then : Printing → List ℕ
held_then x = held_by x.store x.printer

-- the input is at its end: all of it was taken and no whole record is held, or a bad record stands first, and then it
-- does not matter what was not taken
abbrev pub Ended : Printing → List ℕ → Type 0
Ended x untaken =
    ((stands_first (held_then x) ≡ Err Short) × (untaken ≡ [])) ⊎ (stands_first (held_then x) ≡ Err Bad)

abbrev pub AnyChunks : Type 0
AnyChunks =
    (store : List ℕ) (cs : List Call) (untaken : List ℕ) →
    let x = printing store cs in Ended x untaken → written_by x ≡ output_of (x.taken ++ untaken)

-- ---- a caller's loop ends

-- a frame and four numbers
abbrev pub max_record : ℕ
max_record = 65576

-- one call, with room for a record in the store and for a line in the buffer
pub record Goes (p : Printer) (store chunk : List ℕ) (after : Print) : Type 0 where
  -- a whole record that stands first is printed
  pub prints : stands_first (held_by store p) ≡ Ok tt → 1 ≤ length after.lines
  -- where one is cut short, more of the chunk is taken: all of it, if there is room for that beside a record
  pub takes : stands_first (held_by store p) ≡ Err Short → 1 ≤ length chunk → 1 ≤ after.answer.taken
  pub takes_all : stands_first (held_by store p) ≡ Err Short → length chunk + max_record ≤ length store →
      after.answer.taken ≡ length chunk

abbrev pub GoesOn : Type 0
GoesOn =
    (p : Printer) (session : Session) (store chunk : List ℕ) (room : ℕ) →
    max_record ≤ length store → max_line ≤ room → Goes p store chunk (print_of p session store chunk room)
