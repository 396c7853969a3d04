-- The payload of each message as it is written (C2, L1): known fields in number order, shortest varints, absent
-- optionals left out.
use Rattle.std.specs.Prelude.{ℕ, cond, List, [], ◌++◌, eqb}
use Rattle.encode.specs.Field.{number_field, optional_field, bytes_field}
use Rattle.protocol.specs.Client as Client
use Rattle.protocol.specs.Fields as Fields
use Rattle.message.specs.Operation.{field_of}
use Rattle.writer.specs.declared.Draft.{Draft}

-- stmt_id, args, compact_metadata
unfoldable pub execute_payload : Draft → List ℕ → List ℕ
execute_payload d args =
    number_field Fields.id d.stmt ++ args ++ optional_field d.hascompact Fields.compact (cond d.compact 1 0)

-- stmt_id, and the statement: its type and the body that it chooses
unfoldable pub prepare_stmt_payload : Draft → List ℕ → List ℕ
prepare_stmt_payload d body = number_field Fields.type d.operation ++ bytes_field (field_of d.operation) body

unfoldable pub prepare_payload : Draft → List ℕ → List ℕ
prepare_payload d body = number_field Fields.id d.stmt ++ bytes_field Fields.prepare_stmt (prepare_stmt_payload d body)

-- cursor_id, the statement (type 0 and an Execute), fetch_rows
unfoldable pub open_stmt_payload : Draft → List ℕ → List ℕ
open_stmt_payload d args = number_field Fields.type 0 ++ bytes_field Fields.open_execute (execute_payload d args)

unfoldable pub open_payload : Draft → List ℕ → List ℕ
open_payload d args =
    number_field Fields.id d.cursor ++ bytes_field Fields.open_stmt (open_stmt_payload d args)
    ++ optional_field d.hasrows Fields.open_rows d.rows

-- cursor_id, fetch_rows
unfoldable pub fetch_payload : Draft → List ℕ
fetch_payload d = number_field Fields.id d.cursor ++ optional_field d.hasrows Fields.fetch_rows d.rows

-- Reset and Session close have no fields (L2)
unfoldable pub payload_as : ℕ → Draft → List ℕ → List ℕ → List ℕ
payload_as kind d body args =
    cond (eqb kind Client.prepare) (prepare_payload d body)
    (cond (eqb kind Client.execute) (execute_payload d args)
    (cond (eqb kind Client.deallocate) (number_field Fields.id d.stmt)
    (cond (eqb kind Client.open') (open_payload d args)
    (cond (eqb kind Client.close) (number_field Fields.id d.cursor)
    (cond (eqb kind Client.fetch) (fetch_payload d) [])))))

abbrev pub payload_of : Draft → List ℕ → List ℕ → List ℕ
payload_of d body args = payload_as d.kind d body args
