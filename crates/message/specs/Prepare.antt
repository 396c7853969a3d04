-- Prepare (L3, L4, L10): the last listed type chooses the body, which must be present; bodies that it does not choose
-- are skipped unread. The statement may come in parts, the chosen body not.
use Rattle.std.specs.Prelude.{ℕ, Bool, cond, ◌&&◌, List, [], ◌∷◌, length, eqb}
use Rattle.protocol.specs.Client as Client
use Rattle.protocol.specs.Fields as Fields
use Rattle.layout.specs.Table.{rows_of, prepare_stmt, stmt_execute}
use Rattle.layout.specs.Fields.{fields_at}
use Rattle.layout.specs.declared.slots.Slots.{Slots}
use Rattle.layout.specs.Part.{embedded, value_of, low32}
use Rattle.layout.specs.Merged.{parts_of, parts_in, merged}
use Rattle.args.specs.Arguments.{no_arguments, bad_arguments}
use Rattle.layout.specs.declared.part.Part.{Part}
use Rattle.args.specs.declared.arguments.Arguments.{Arguments}
use Rattle.message.specs.Operation as Operation
use Rattle.message.specs.Payload.{payload, if_good, twice}
use Rattle.message.specs.Execute.{arguments_within, arguments_good}
use Rattle.message.specs.declared.request.Request.{Request}
use Rattle.message.specs.declared.request.Frame.{Frame}

-- a StmtExecute's body has arguments; any other need only be a good field list
unfoldable pub body_in : List ℕ → ℕ → ℕ → ℕ → Arguments
body_in s operation at n =
    cond (eqb operation Operation.stmt_execute)
    (cond (embedded (rows_of stmt_execute) s at n).good (arguments_within s at n) bad_arguments)
    (cond (embedded [] s at n).good (no_arguments 0 0) bad_arguments)

abbrev pub prepare_from : List ℕ → ℕ → ℕ → Part → Arguments → Frame
prepare_from s id operation body args =
    if_good s Client.prepare args.good
    (Request.Prepare (record { stmt = low32 id; operation = operation; body = body; args = args }))

-- a body that occurs more than once is read all the same: as a message in parts, and every argument
unfoldable pub bodies_good : List ℕ → ℕ → List Part → Bool
bodies_good s operation bs =
    cond (eqb operation Operation.stmt_execute) ((merged (rows_of stmt_execute) s bs).good && arguments_good s bs)
    (merged [] s bs).good

-- the chosen body must be present, and once (L4, R17)
abbrev pub prepare_by : List ℕ → ℕ → ℕ → List Part → Frame
prepare_by s id operation [] = Frame.BadPayload (length s) Client.prepare
prepare_by s id operation (b ∷ []) = prepare_from s id operation b (body_in s operation b.start b.len)
prepare_by s id operation (b ∷ (c ∷ bs)) = twice (length s) Client.prepare (bodies_good s operation (b ∷ (c ∷ bs)))

-- the type chooses a field of the statement, in all its parts
abbrev pub prepare_typed : List ℕ → ℕ → List Part → ℕ → Frame
prepare_typed s id ps operation = prepare_by s id operation (parts_in (Operation.field_of operation) s ps)

-- by what these parts of the statement hold
abbrev pub prepare_read : List ℕ → ℕ → List Part → Slots → Frame
prepare_read s id ps y =
    cond y.good (prepare_typed s id ps (low32 (value_of y Fields.type)))
    (Frame.BadPayload (length s) Client.prepare)

abbrev pub prepare_inside : List ℕ → ℕ → List Part → Frame
prepare_inside s id ps = prepare_read s id ps (merged (rows_of prepare_stmt) s ps)

-- the parts of a Prepare's statement, and of the body that a type chooses
abbrev pub stmt_parts : List ℕ → List Part
stmt_parts s = parts_of Fields.prepare_stmt s payload

abbrev pub body_parts : List ℕ → ℕ → List Part
body_parts s operation = parts_in (Operation.field_of operation) s (stmt_parts s)

abbrev pub prepare_of : List ℕ → Slots → Frame
prepare_of s x =
    cond x.good (prepare_inside s (value_of x Fields.id) (stmt_parts s)) (Frame.BadPayload (length s) Client.prepare)

unfoldable pub prepare_frame : List ℕ → Frame
prepare_frame s = prepare_of s (fields_at (rows_of Client.prepare) s payload)
