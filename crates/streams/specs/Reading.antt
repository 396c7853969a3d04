-- A list of operations on a reader, and what their answers told since the last start over ("the beginning counts as
-- one") (N8).
use Rattle.std.specs.Prelude.{ℕ, cond, List, [], ◌∷◌, ◌++◌, take, eqb}
use Rattle.protocol.specs.Reason as Reason
use Rattle.streams.specs.declared.Reader.{Reader}
use Rattle.streams.specs.declared.NextFrame.{NextFrame}
use Rattle.streams.specs.Reader.{Push, start_over, held, push_of, next_of}
use Rattle.streams.specs.ReaderRules.{frame_at}

-- a push of an arrival, a next_frame, a start_over
pub data Operation : Type 0 where
  push : List ℕ → Operation
  next_frame : Operation
  restart : Operation

-- the reader and its store, and what the answers told
pub record Reading : Type 0 where
  pub reader : Reader
  pub store : List ℕ
  -- since the last start over: the bytes taken, and the frames handed out (N8)
  pub taken : List ℕ
  pub frames : List (List ℕ)
  -- the frames handed out before it
  pub earlier : List (List ℕ)

-- the bytes left
abbrev pub left : Reading → List ℕ
left x = held x.store x.reader

-- all frames handed out, in order
abbrev pub handed_out : Reading → List (List ℕ)
handed_out x = x.earlier ++ x.frames

-- ---- one operation

abbrev pub pushed_by : Reading → List ℕ → Push → Reading
pushed_by x arrival after =
    record {
      reader = after.answer.reader;
      store = after.store;
      taken = x.taken ++ take after.answer.count arrival;
      frames = x.frames;
      earlier = x.earlier;
    }

abbrev pub handed_by : Reading → NextFrame → Reading
handed_by x next =
    record {
      reader = next.reader;
      store = x.store;
      taken = x.taken;
      frames = cond (eqb next.reason Reason.accepted) (x.frames ++ (frame_at x.store next ∷ [])) x.frames;
      earlier = x.earlier;
    }

abbrev pub restarted : Reading → Reading
restarted x = record { reader = start_over; store = x.store; taken = []; frames = []; earlier = handed_out x }

unfoldable pub operate : Operation → Reading → Reading
operate (push arrival) x = pushed_by x arrival (push_of x.reader arrival x.store)
operate next_frame x = handed_by x (next_of x.reader x.store)
operate restart x = restarted x

-- ---- a list of operations

unfoldable pub operated : List Operation → Reading → Reading
operated [] x = x
operated (o ∷ os) x = operated os (operate o x)

-- from the beginning, whatever the store has in it
abbrev pub from_start : List ℕ → Reading
from_start store = record { reader = start_over; store = store; taken = []; frames = []; earlier = [] }

abbrev pub reading : List ℕ → List Operation → Reading
reading store os = operated os (from_start store)
