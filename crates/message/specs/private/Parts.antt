-- The frames that the parts found of a Fetch, a Prepare or an Open come to. For contracts inside the library.
use Rattle.std.specs.Prelude.{ℕ, cond, ◌≡◌, List, [], ◌∷◌, length, eqb, Option, Some, None}
use Rattle.protocol.specs.Client as Client
use Rattle.protocol.specs.Fields as Fields
use Rattle.layout.specs.Part.{low32}
use Rattle.layout.specs.Merged.{parts_of, parts_in}
use Rattle.layout.specs.private.Found.{slot_at}
use Rattle.layout.specs.declared.found.Slot.{Slot}
use Rattle.layout.specs.declared.found.Found.{Found}
use Rattle.layout.specs.declared.part.Part.{Part}
use Rattle.args.specs.private.Bound.{args_of}
use Rattle.args.specs.declared.bound.Bound.{Bound}
use Rattle.message.specs.Operation.{field_of}
use Rattle.message.specs.Payload.{payload, truth_of, twice}
use Rattle.message.specs.Prepare.{body_in, bodies_good, prepare_from, prepare_inside, stmt_parts, prepare_frame}
use Rattle.message.specs.Execute.{execute_in, executes_good, open_from, open_inside, open_parts, open_frame}
use Rattle.message.specs.declared.prepare.Stmt.{Stmt}
use Rattle.message.specs.declared.prepare.Chosen.{Chosen}
use Rattle.message.specs.declared.execute.Opening.{Opening}
use Rattle.message.specs.declared.execute.Inner.{Inner}
use Rattle.message.specs.declared.request.Execute.{Execute}
use Rattle.message.specs.declared.request.Request.{Request}
use Rattle.message.specs.declared.request.Frame.{Frame}

-- a Fetch in n bytes
abbrev pub fetch_of : ℕ → ℕ → Option ℕ → Frame
fetch_of n id rows = Frame.Good n (Request.Fetch (record { cursor = low32 id; rows = rows }))

-- where the message in a field stands, if it comes once
abbrev pub once : Slot → Option Part
once slot = cond (eqb slot.times 1) (Some (record { start = slot.start; len = slot.value })) None

-- the message in field k of the payload comes once and stands here, where a part is named
abbrev pub Whole : ℕ → List ℕ → Option Part → Type 0
Whole k s (Some part) = parts_of k s payload ≡ part ∷ []
Whole k s None = Unit {0}

-- a Prepare is of this id; where its statement stands
abbrev pub FindsStmt : List ℕ → Option Stmt → Type 0
FindsStmt s (Some stmt) =
    (prepare_inside s stmt.id (stmt_parts s) ≡ prepare_frame s) × Whole Fields.prepare_stmt s stmt.part
FindsStmt s None = Frame.BadPayload (length s) Client.prepare ≡ prepare_frame s

-- by what was found of a good statement
abbrev pub chosen_at : ℕ → Option Part → Chosen
chosen_at operation (Some body) = Chosen.Once operation body
chosen_at operation None = Chosen.Twice operation

abbrev pub chosen_by : ℕ → Slot → Option Chosen
chosen_by operation slot = cond (eqb slot.times 0) None (Some (chosen_at operation (once slot)))

abbrev pub chosen_in : ℕ → Found → Option Chosen
chosen_in operation found = chosen_by operation (slot_at found (field_of operation))

abbrev pub chosen_of : Found → Option Chosen
chosen_of found = chosen_in (low32 (slot_at found Fields.type).value) found

abbrev pub of_chosen : List ℕ → List Part → ℕ → Option Chosen → Frame
of_chosen s ps id (Some (Chosen.Once operation body)) =
    prepare_from s id operation body (body_in s operation body.start body.len)
of_chosen s ps id (Some (Chosen.Twice operation)) =
    twice (length s) Client.prepare (bodies_good s operation (parts_in (field_of operation) s ps))
of_chosen s ps id None = Frame.BadPayload (length s) Client.prepare

-- the statement stands in these parts of s, of a Prepare with whatever id
abbrev pub Chooses : List ℕ → List Part → Option Chosen → Type 0
Chooses s ps r = (id : ℕ) → of_chosen s ps id r ≡ prepare_inside s id ps

-- the same of an Open
abbrev pub FindsOpening : List ℕ → Option Opening → Type 0
FindsOpening s (Some opening) =
    (open_inside s opening.id opening.rows (open_parts s) ≡ open_frame s) × Whole Fields.open_stmt s opening.part
FindsOpening s None = Frame.BadPayload (length s) Client.open' ≡ open_frame s

abbrev pub inner_at : Option Part → Inner
inner_at (Some body) = Inner.Once body
inner_at None = Inner.Twice

abbrev pub inner_by : Slot → Option Inner
inner_by slot = cond (eqb slot.times 0) None (Some (inner_at (once slot)))

abbrev pub inner_of : Found → Option Inner
inner_of found = inner_by (slot_at found Fields.open_execute)

abbrev pub of_inner : List ℕ → List Part → ℕ → Option ℕ → Option Inner → Frame
of_inner s ps id rows (Some (Inner.Once body)) = open_from s id rows body (execute_in s body.start body.len)
of_inner s ps id rows (Some Inner.Twice) =
    twice (length s) Client.open' (executes_good s (parts_in Fields.open_execute s ps))
of_inner s ps id rows None = Frame.BadPayload (length s) Client.open'

-- with whatever id and fetch_rows
abbrev pub Runs : List ℕ → List Part → Option Inner → Type 0
Runs s ps r = (id : ℕ) (rows : Option ℕ) → of_inner s ps id rows r ≡ open_inside s id rows ps

-- a good Execute, by what one pass over its bytes finds
abbrev pub execute_by : Bound → ℕ → ℕ → ℕ → Execute
execute_by b stmt start end =
    record {
      stmt = low32 stmt;
      compact = truth_of b.three;
      args = args_of b start end;
    }
