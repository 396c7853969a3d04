-- The messages with no message inside (L1).
use Rattle.std.specs.Prelude.{ℕ, cond, List, [], Option, Some, None}
use Rattle.protocol.specs.Client as Client
use Rattle.protocol.specs.Fields as Fields
use Rattle.layout.specs.Table.{rows_of}
use Rattle.layout.specs.Fields.{fields_at}
use Rattle.layout.specs.declared.slots.Slots.{Slots}
use Rattle.layout.specs.Part.{value_of, low32}
use Rattle.message.specs.Payload.{payload, if_good, optional_of}
use Rattle.message.specs.declared.request.Request.{Request}
use Rattle.message.specs.declared.request.Frame.{Frame}

-- Reset and Session close have no fields of their own (L2)
abbrev pub plain_in : List ℕ → ℕ → Request → Slots → Frame
plain_in s kind q x = if_good s kind x.good q

unfoldable pub reset_frame : List ℕ → Frame
reset_frame s = plain_in s Client.reset Request.Reset (fields_at [] s payload)

unfoldable pub session_close_frame : List ℕ → Frame
session_close_frame s = plain_in s Client.session_close Request.SessionClose (fields_at [] s payload)

-- the id of a message that has no other field
abbrev pub id_in : Slots → Option ℕ
id_in x = cond x.good (Some (low32 (value_of x Fields.id))) None

abbrev pub deallocate_in : List ℕ → Slots → Frame
deallocate_in s x = if_good s Client.deallocate x.good (Request.Deallocate (low32 (value_of x Fields.id)))

unfoldable pub deallocate_frame : List ℕ → Frame
deallocate_frame s = deallocate_in s (fields_at (rows_of Client.deallocate) s payload)

abbrev pub close_in : List ℕ → Slots → Frame
close_in s x = if_good s Client.close x.good (Request.Close (low32 (value_of x Fields.id)))

unfoldable pub close_frame : List ℕ → Frame
close_frame s = close_in s (fields_at (rows_of Client.close) s payload)

-- a Fetch may name fetch_rows
abbrev pub fetch_in : List ℕ → Slots → Frame
fetch_in s x =
    if_good s Client.fetch x.good
    (Request.Fetch (record { cursor = low32 (value_of x Fields.id); rows = optional_of x Fields.fetch_rows }))

unfoldable pub fetch_frame : List ℕ → Frame
fetch_frame s = fetch_in s (fields_at (rows_of Client.fetch) s payload)
