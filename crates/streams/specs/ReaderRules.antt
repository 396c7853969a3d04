-- What holds of one push and of one next_frame, for every reader, store and arrival, also of a reader that nobody
-- made: the bytes held decide everything, and they are what the reader has not handed out.
use Rattle.std.specs.Prelude.{ℕ, ◌+◌, ◌≤◌, ◌<◌, false, cond, ◌≡◌, List, ◌++◌, ◌⊎◌, length, get_or, take, drop, Ok, Err}
use Rattle.protocol.specs.Reason as Reason
use Rattle.message.specs.Head.{HeadResult, framed, length_bytes, head_of, length_of, max_length}
use Rattle.streams.specs.declared.Reader.{Reader}
use Rattle.streams.specs.declared.NextFrame.{NextFrame}
use Rattle.streams.specs.Reader.{Push, store_size, stands_first}
use Rattle.streams.specs.Reader.{bad_first}
use Rattle.streams.specs.Reader.{held, taken_count, push_of, next_of}

-- of a bad length that stands first only its four bytes are kept (N10)
abbrev pub kept : List ℕ → List ℕ
kept bytes = cond (bad_first bytes) (take length_bytes bytes) bytes

-- ---- a push

pub record Pushes (r : Reader) (arrival store : List ℕ) (after : Push) : Type 0 where
  -- "tells the count taken" (N2)
  pub count : after.answer.count ≡ taken_count (length store) (held store r) arrival
  -- what was held is held, and behind it what was taken
  pub bytes : held after.store after.answer.reader ≡ kept (held store r ++ take after.answer.count arrival)
  -- the reason is that of what is held then
  pub reason : after.answer.reason ≡ stands_first (held after.store after.answer.reader)
  pub size : length after.store ≡ length store

abbrev pub PushesBehind : Type 0
PushesBehind = (r : Reader) (arrival store : List ℕ) → Pushes r arrival store (push_of r arrival store)

-- ---- the next frame

-- a frame and nothing else: its own length says so
abbrev pub Whole : List ℕ → Type 0
Whole frame = head_of frame ≡ framed (get_or frame length_bytes 0) (length frame)

-- the bytes of the store that an answer names
abbrev pub frame_at : List ℕ → NextFrame → List ℕ
frame_at store x = take x.len (drop x.start store)

-- the first bytes held are handed out, and the others are held
pub record HandsOut (r : Reader) (store : List ℕ) (type long : ℕ) (x : NextFrame) : Type 0 where
  pub reason : x.reason ≡ Reason.accepted
  pub frame : frame_at store x ≡ take long (held store r)
  pub within : x.start + x.len ≤ length store
  pub len : x.len ≡ long
  pub kind : x.kind ≡ type
  pub left : held store x.reader ≡ kept (drop long (held store r))

-- nothing is handed out
pub record HandsNone (r : Reader) (store : List ℕ) (why : ℕ) (x : NextFrame) : Type 0 where
  pub reason : x.reason ≡ why
  pub len : x.len ≡ 0
  pub kind : x.kind ≡ 0
  pub left : held store x.reader ≡ kept (held store r)

abbrev pub Hands : Reader → List ℕ → NextFrame → HeadResult → Type 0
Hands r store x (Ok head) = HandsOut r store head.kind head.end x
Hands r store x (Err reason) = HandsNone r store (Reason.number_of reason) x

abbrev pub HandsFirst : Type 0
HandsFirst = (r : Reader) (store : List ℕ) → Hands r store (next_of r store) (head_of (held store r))

-- ---- only the bytes held matter, not where they stand or what else the store has

pub record Alike (r r' : Reader) (store store' : List ℕ) : Type 0 where
  pub size : length store ≡ length store'
  pub bytes : held store r ≡ held store' r'

pub record PushesAlike (x y : Push) : Type 0 where
  pub count : x.answer.count ≡ y.answer.count
  pub reason : x.answer.reason ≡ y.answer.reason
  pub after : Alike x.answer.reader y.answer.reader x.store y.store

pub record HandsAlike (store store' : List ℕ) (x y : NextFrame) : Type 0 where
  pub reason : x.reason ≡ y.reason
  pub frame : frame_at store x ≡ frame_at store' y
  pub kind : x.kind ≡ y.kind
  pub after : Alike x.reader y.reader store store'

pub record HeldDecides : Type 0 where
  pub push : (r r' : Reader) (arrival store store' : List ℕ) → Alike r r' store store' →
      PushesAlike (push_of r arrival store) (push_of r' arrival store')
  pub next : (r r' : Reader) (store store' : List ℕ) → Alike r r' store store' →
      HandsAlike store store' (next_of r store) (next_of r' store')

-- ---- the three reasons

-- a whole frame stands first: its length is good and it is all there (N3)
pub record WholeFirst (bytes : List ℕ) : Type 0 where
  pub known : length_bytes ≤ length bytes
  pub some : 1 ≤ length_of bytes
  pub small : length_of bytes ≤ max_length
  pub there : length_bytes + length_of bytes ≤ length bytes

-- a bad length stands first (N3)
pub record BadFirst (bytes : List ℕ) : Type 0 where
  pub known : length_bytes ≤ length bytes
  pub bad : (length_of bytes ≡ 0) ⊎ (max_length < length_of bytes)

abbrev pub Exactly : Type 0 → Type 0 → Type 0
Exactly P Q = (P → Q) × (Q → P)

-- "2 once a bad length stands first"; "1 .. exactly when neither it nor a whole frame stands first" (N3 to N6)
pub record Reasons (bytes : List ℕ) : Type 0 where
  pub whole : Exactly (stands_first bytes ≡ Reason.accepted) (WholeFirst bytes)
  pub bad : Exactly (stands_first bytes ≡ Reason.bad_length) (BadFirst bytes)
  pub wait : Exactly (stands_first bytes ≡ Reason.not_all_there) ((WholeFirst bytes → ⊥) × (BadFirst bytes → ⊥))

abbrev pub WaitsExactly : Type 0
WaitsExactly = (bytes : List ℕ) → Reasons bytes

-- ---- room

-- "as far as there is room beside that": all of the arrival is taken, or the store is full then (N2)
abbrev pub TakesAll : Type 0
TakesAll =
    (r : Reader) (arrival store : List ℕ) → bad_first (held store r) ≡ false →
    ((push_of r arrival store).answer.count ≡ length arrival)
    ⊎ (length (held store r) + (push_of r arrival store).answer.count ≡ length store)

-- "wait for more" leaves room: of the next arrival at least one byte is taken (N6)
abbrev pub WaitHasRoom : Type 0
WaitHasRoom =
    (r : Reader) (arrival store : List ℕ) → length store ≡ store_size → stands_first (held store r) ≡ Reason.not_all_there →
    1 ≤ length arrival → 1 ≤ (push_of r arrival store).answer.count
