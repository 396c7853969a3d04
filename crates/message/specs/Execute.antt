-- Execute, and Open with the Execute in it (L1, L6, L11, L12). An Open's statement may come in parts, its Execute not.
use Rattle.std.specs.Prelude.{ℕ, ◌+◌, ◌-◌, Bool, true, cond, ◌&&◌, List, [], ◌∷◌, length, take, leb, Option}
use Rattle.protocol.specs.Client as Client
use Rattle.protocol.specs.Fields as Fields
use Rattle.layout.specs.Table.{rows_of, open_stmt}
use Rattle.layout.specs.Fields.{fields_at}
use Rattle.layout.specs.declared.slots.Slots.{Slots}
use Rattle.layout.specs.Part.{embedded, value_of, low32}
use Rattle.layout.specs.Merged.{parts_of, parts_in, merged}
use Rattle.args.specs.Arguments.{bad_arguments, arguments_in}
use Rattle.layout.specs.declared.part.Part.{Part}
use Rattle.args.specs.declared.arguments.Arguments.{Arguments}
use Rattle.message.specs.Request.{no_optional}
use Rattle.message.specs.Payload.{payload, if_good, twice, optional_of, truth_of}
use Rattle.message.specs.declared.request.Execute.{Execute}
use Rattle.message.specs.declared.request.Request.{Request}
use Rattle.message.specs.declared.request.Frame.{Frame}

-- an Execute that is not good has bad arguments
abbrev pub bad_execute : Execute
bad_execute = record { stmt = 0; compact = no_optional; args = bad_arguments }

-- the arguments in n bytes of s from the place `at` on
unfoldable pub arguments_within : List ℕ → ℕ → ℕ → Arguments
arguments_within s at n = cond (leb (at + n) (length s)) (arguments_in (take (at + n) s) at) bad_arguments

-- an Execute in n bytes of s from the place `at` on
abbrev pub execute_of : Slots → Arguments → Execute
execute_of x a =
    cond x.good
    (cond a.good
    (record { stmt = low32 (value_of x Fields.id); compact = truth_of (optional_of x Fields.compact); args = a })
    bad_execute)
    bad_execute

unfoldable pub execute_in : List ℕ → ℕ → ℕ → Execute
execute_in s at n = execute_of (embedded (rows_of Client.execute) s at n) (arguments_within s at n)

abbrev pub execute_from : List ℕ → Execute → Frame
execute_from s x = if_good s Client.execute x.args.good (Request.Execute x)

unfoldable pub execute_frame : List ℕ → Frame
execute_frame s = execute_from s (execute_in s payload (length s - payload))

-- an Open of a cursor with fetch_rows, and with the Execute that is its statement's body
abbrev pub open_from : List ℕ → ℕ → Option ℕ → Part → Execute → Frame
open_from s id rows body x =
    if_good s Client.open' x.args.good
    (Request.Open (record { cursor = low32 id; rows = rows; body = body; execute = x }))

-- the arguments in these parts are all good
unfoldable pub arguments_good : List ℕ → List Part → Bool
arguments_good s [] = true
arguments_good s (p ∷ ps) = (arguments_within s p.start p.len).good && arguments_good s ps

-- an Execute that occurs more than once is read all the same: as a message in parts, and every argument
abbrev pub executes_good : List ℕ → List Part → Bool
executes_good s es = (merged (rows_of Client.execute) s es).good && arguments_good s es

-- its statement must be an Execute (type 0), which must be present, and once (L6, R17)
abbrev pub open_by : List ℕ → ℕ → Option ℕ → List Part → Frame
open_by s id rows [] = Frame.BadPayload (length s) Client.open'
open_by s id rows (e ∷ []) = open_from s id rows e (execute_in s e.start e.len)
open_by s id rows (e ∷ (f ∷ es)) = twice (length s) Client.open' (executes_good s (e ∷ (f ∷ es)))

-- the statement stands in these parts
abbrev pub open_inside : List ℕ → ℕ → Option ℕ → List Part → Frame
open_inside s id rows ps =
    cond (merged (rows_of open_stmt) s ps).good (open_by s id rows (parts_in Fields.open_execute s ps))
    (Frame.BadPayload (length s) Client.open')

-- the parts of an Open's statement, and of its Execute
abbrev pub open_parts : List ℕ → List Part
open_parts s = parts_of Fields.open_stmt s payload

abbrev pub execute_parts : List ℕ → List Part
execute_parts s = parts_in Fields.open_execute s (open_parts s)

abbrev pub open_of : List ℕ → Slots → Frame
open_of s x =
    cond x.good (open_inside s (value_of x Fields.id) (optional_of x Fields.open_rows) (open_parts s))
    (Frame.BadPayload (length s) Client.open')

unfoldable pub open_frame : List ℕ → Frame
open_frame s = open_of s (fields_at (rows_of Client.open') s payload)
