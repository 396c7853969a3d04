-- What is written is padded only where a stretch of arguments was handed in so (W20, C14): every varint that the writer
-- makes is the shortest.
use Rattle.std.specs.Prelude.{ℕ, ◌≡◌, Bool, true, false, cond, List, [], ◌∷◌, ◌++◌, length}
use Rattle.protocol.specs.Reason as Reason
use Rattle.args.specs.Padded.{bound_padded}
use Rattle.message.specs.Padded.{padded_of}
use Rattle.writer.specs.declared.Draft.{Draft}
use Rattle.writer.specs.Judge.{good_stretch}
use Rattle.writer.specs.RoundTrip.{Sized, has_args}
use Rattle.writer.specs.Write.{frame_bytes, draft_reason, write_reason, left_of}

-- a stretch by itself: its args fields, and all arguments in them
abbrev pub stretch_padded : List ℕ → Bool
stretch_padded args = bound_padded args 0

-- a stretch may be good and padded: an object whose args field has its tag in two bytes, or whose type is
abbrev pub GoodPadded : List ℕ → Type 0
GoodPadded args = (good_stretch args ≡ true) × (stretch_padded args ≡ true)

abbrev pub SomePadded : Type 0
SomePadded = GoodPadded (146 ∷ 0 ∷ 2 ∷ 8 ∷ 2 ∷ []) × GoodPadded (18 ∷ 3 ∷ 8 ∷ 130 ∷ 0 ∷ [])

-- an Execute and an Open are padded exactly where their stretch is; the other messages never are, a Prepare with
-- whatever body too
abbrev pub padded_as : Draft → List ℕ → Bool
padded_as d args = cond (has_args d.kind) (stretch_padded args) false

-- the frame of a draft, whatever bytes stand behind it
abbrev pub frame_padded : Draft → List ℕ → List ℕ → List ℕ → Bool
frame_padded d body args rest = padded_of (frame_bytes d body args ++ rest)

-- so of every draft that is not refused 6 or 2
abbrev pub WrittenPadded : Type 0
WrittenPadded =
    (d : Draft) (body args rest : List ℕ) → Sized d → draft_reason d body args ≡ Reason.accepted →
    frame_padded d body args rest ≡ padded_as d args

-- and of the buffer that it was written to
abbrev pub LeftPadded : Type 0
LeftPadded =
    (d : Draft) (body args buf : List ℕ) → Sized d → write_reason d body args (length buf) ≡ Reason.accepted →
    padded_of (left_of d body args buf) ≡ padded_as d args
