-- What every payload comes to: a request, or a bad payload.
use Rattle.std.specs.Prelude.{ℕ, Bool, cond, List, length, eqb, Option, Some, None}
use Rattle.layout.specs.declared.slots.Slots.{Slots}
use Rattle.layout.specs.Part.{count_of, value_of}
use Rattle.message.specs.declared.request.Request.{Request}
use Rattle.message.specs.declared.request.Frame.{Frame}

-- the payload stands behind the length and the type
abbrev pub payload : ℕ
payload = 5

-- the frame s of a type holds a request, if its payload is good
abbrev pub if_good : List ℕ → ℕ → Bool → Request → Frame
if_good s kind good q = cond good (Frame.Good (length s) q) (Frame.BadPayload (length s) kind)

-- a frame of this type and length whose chosen body occurs more than once: it is refused for that (17), if it is good
abbrev pub twice : ℕ → ℕ → Bool → Frame
twice used kind good = cond good (Frame.BodyTwice used kind) (Frame.BadPayload used kind)

-- an optional field: its value, if it occurs
abbrev pub optional : ℕ → ℕ → Option ℕ
optional count value = cond (eqb count 0) None (Some value)

abbrev pub optional_of : Slots → ℕ → Option ℕ
optional_of x k = optional (count_of x k) (value_of x k)

-- a bool is true, 1 here, for any number but 0 (W4)
abbrev pub truth_of : Option ℕ → Option ℕ
truth_of (Some value) = Some (cond (eqb value 0) 0 1)
truth_of None = None
