-- Padded frames (W20): of each message the varints that are read of it. A Prepare's own fields and those of its
-- statement count, and nothing of its body; an Open's own fields, those of its statement, its Execute and the
-- arguments; of what comes in parts every part that is read.
use Rattle.std.specs.Prelude.{ℕ, ◌-◌, Bool, false, cond, ◌||◌, List, [], ◌∷◌, length, take, eqb, Ok, Err}
use Rattle.protocol.specs.Client as Client
use Rattle.protocol.specs.Fields as Fields
use Rattle.layout.specs.Merged.{parts_in}
use Rattle.layout.specs.Padded.{list_padded, parts_padded}
use Rattle.layout.specs.declared.part.Part.{Part}
use Rattle.args.specs.Padded.{execute_padded}
use Rattle.message.specs.Head.{HeadResult, head_of}
use Rattle.message.specs.Payload.{payload}
use Rattle.message.specs.Execute.{open_parts}
use Rattle.message.specs.Prepare.{stmt_parts}
use Rattle.message.specs.Frame.{frame_of}
use Rattle.message.specs.declared.request.Frame.{Frame}
use Rattle.message.specs.declared.request.Frame.TheVariants.{NotAllThere, BadLength, UnknownType, BadPayload}
use Rattle.message.specs.declared.request.Frame.TheVariants.{BodyTwice, Good}

-- a payload with no message inside
abbrev pub own_padded : List ℕ → Bool
own_padded s = list_padded s payload

abbrev pub prepare_padded : List ℕ → Bool
prepare_padded s = own_padded s || parts_padded s (stmt_parts s)

-- the Executes in these parts, each with its arguments
unfoldable pub executes_padded : List ℕ → List Part → Bool
executes_padded s [] = false
executes_padded s (p ∷ ps) = execute_padded s p.start p.len || executes_padded s ps

-- an Open's statement in these parts of s
unfoldable pub open_stmt_padded : List ℕ → List Part → Bool
open_stmt_padded s ps = parts_padded s ps || executes_padded s (parts_in Fields.open_execute s ps)

abbrev pub open_padded : List ℕ → Bool
open_padded s = own_padded s || open_stmt_padded s (open_parts s)

-- the frame s, whole and with nothing behind it, by its message type
unfoldable pub kind_padded : List ℕ → ℕ → Bool
kind_padded s kind =
    cond (eqb kind Client.prepare) (prepare_padded s)
    (cond (eqb kind Client.execute) (execute_padded s payload (length s - payload))
    (cond (eqb kind Client.open') (open_padded s) (own_padded s)))

-- a frame that is bad, or not there, is not padded; one whose body occurs twice is read, and says what was read
abbrev pub where_read : Frame → Bool → Bool
where_read NotAllThere padded = false
where_read BadLength padded = false
where_read (UnknownType used) padded = false
where_read (BadPayload used kind) padded = false
where_read (BodyTwice used kind) padded = padded
where_read (Good used q) padded = padded

abbrev pub head_padded : List ℕ → HeadResult → Bool
head_padded s (Ok head) = kind_padded (take head.end s) head.kind
head_padded s (Err reason) = false

-- the frame that a byte string begins with
unfoldable pub padded_of : List ℕ → Bool
padded_of s = where_read (frame_of s) (head_padded s (head_of s))
