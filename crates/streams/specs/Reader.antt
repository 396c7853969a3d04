-- Frames as they arrive (N1, N2, N5): a reader "keeps what it has not handed out in a lent 65,536-byte store that only
-- it writes, takes the next arrival as far as there is room beside that, tells the count taken, and hands out whole
-- frames".
use Rattle.std.specs.Prelude.{ℕ, ◌+◌, ◌-◌, min, Bool, cond, ◌&&◌, List, length, take, drop, eqb, leb, Ok, Err}
use Rattle.protocol.specs.Reason as Reason
use Rattle.encode.specs.Put.{written}
use Rattle.message.specs.Head.{HeadResult, length_bytes, head_of, head_reason}
use Rattle.streams.specs.declared.Reader.{Reader}
use Rattle.streams.specs.declared.Pushed.{Pushed}
use Rattle.streams.specs.declared.NextFrame.{NextFrame}

abbrev pub store_size : ℕ
store_size = 65536

-- ---- what stands first among some bytes

-- the number of the head that the bytes begin with: 0 for a whole frame, "1 means "wait for more"", "2 once a bad
-- length stands first"
unfoldable pub stands_first : List ℕ → ℕ
stands_first bytes = head_reason (head_of bytes)

abbrev pub bad_first : List ℕ → Bool
bad_first bytes = eqb (stands_first bytes) Reason.bad_length

-- ---- the bytes held

abbrev pub reader : ℕ → ℕ → Reader
reader start end = record { start = start; end = end }

-- "start over, which empties it" (N12)
abbrev pub start_over : Reader
start_over = reader 0 0

-- the bytes of a store from one place up to another
abbrev pub between : List ℕ → ℕ → ℕ → List ℕ
between store start end = take (end - start) (drop start store)

abbrev pub part : List ℕ → Reader → List ℕ
part store r = between store r.start r.end

-- any two numbers are a reader: two that are no part of a store of this size hold nothing (N16)
abbrev pub is_part : ℕ → Reader → Bool
is_part size r = leb r.start r.end && leb r.end size

abbrev pub usable : ℕ → Reader → Reader
usable size r = cond (is_part size r) r start_over

unfoldable pub held : List ℕ → Reader → List ℕ
held store r = part store (usable (length store) r)

-- "then the store keeps only its four bytes": of a bad length that stands first (N10)
abbrev pub settled : List ℕ → Reader → Reader
settled store r = cond (bad_first (part store r)) (reader r.start (r.start + length_bytes)) r

-- ---- an arrival

-- "takes the next arrival as far as there is room beside that"; behind a bad length it "takes 0" (N2, N11)
abbrev pub taken_count : ℕ → List ℕ → List ℕ → ℕ
taken_count size bytes arrival = cond (bad_first bytes) 0 (min (length arrival) (size - length bytes))

-- the bytes held stay where they are if n more fit behind them, and else are moved to the front (N18)
abbrev pub fits_behind : List ℕ → Reader → ℕ → Bool
fits_behind store r n = leb (r.end + n) (length store)

abbrev pub reader_for : List ℕ → Reader → ℕ → Reader
reader_for store r n = cond (fits_behind store r n) r (reader 0 (r.end - r.start))

abbrev pub store_for : List ℕ → Reader → ℕ → List ℕ
store_for store r n = cond (fits_behind store r n) store (written store 0 (part store r))

-- what a push answers, and the store after it
pub record Push : Type 0 where
  pub answer : Pushed
  pub store : List ℕ

-- the answer where the bytes held, the new ones among them, are those of r
abbrev pub pushed_to : List ℕ → Reader → ℕ → Push
pushed_to store r count =
    record {
      answer = record { reader = settled store r; reason = stands_first (part store r); count = count };
      store = store;
    }

-- bytes put behind those of r
abbrev pub behind : List ℕ → Reader → List ℕ → Push
behind store r bytes =
    pushed_to (written store r.end bytes) (reader r.start (r.end + length bytes)) (length bytes)

-- n bytes of the arrival, the bytes held being those of r
abbrev pub push_on : List ℕ → Reader → List ℕ → ℕ → Push
push_on store r arrival n = behind (store_for store r n) (reader_for store r n) (take n arrival)

unfoldable pub push_at : List ℕ → Reader → List ℕ → Push
push_at store r arrival = push_on store r arrival (taken_count (length store) (part store r) arrival)

unfoldable pub push_of : Reader → List ℕ → List ℕ → Push
push_of r arrival store = push_at store (usable (length store) r) arrival

-- ---- the next frame

-- a whole frame that stands first is handed out: its place, its length and its type; else there is none
abbrev pub next_by : List ℕ → Reader → HeadResult → NextFrame
next_by store r (Ok head) =
    record {
      reader = settled store (reader (r.start + head.end) r.end);
      reason = head_reason (Ok head);
      start = r.start;
      len = head.end;
      kind = head.kind;
    }
next_by store r (Err reason) =
    record { reader = settled store r; reason = head_reason (Err reason); start = 0; len = 0; kind = 0 }

abbrev pub next_at : List ℕ → Reader → NextFrame
next_at store r = next_by store r (head_of (part store r))

unfoldable pub next_of : Reader → List ℕ → NextFrame
next_of r store = next_at store (usable (length store) r)
