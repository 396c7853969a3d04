-- How long fields and payloads are, by their parts. Assumes nothing.
use Rattle.prelude.proofs.Basics.{ℕ, ◌+◌, ◌≤◌, arith, cond, ◌≡◌, List, ◌++◌, length, length-append}
use Rattle.writer.proofs.Names.{field_of, prefix_of, number_field, optional_field, bytes_field, number_short}
use Rattle.writer.proofs.Names.{optional_short, prefix_short, bytes_sum, execute_payload, prepare_stmt_payload}
use Rattle.writer.proofs.Names.{prepare_payload, open_stmt_payload, open_payload, fetch_payload, Draft}

module _ (d : Draft) (bs : List ℕ) where
  pub execute-parts :
      length (execute_payload d bs)
      ≡ length (number_field 1 d.stmt) + length bs + length (optional_field d.hascompact 3 (cond d.compact 1 0))
  unfolding execute_payload
  execute-parts = simp length-append (omega arith)

  pub prepare-stmt-parts :
      length (prepare_stmt_payload d bs)
      ≡ length (number_field 1 d.operation) + length (prefix_of (field_of d.operation) (length bs)) + length bs
  unfolding prepare_stmt_payload
  prepare-stmt-parts =
      omega (
        arith,
        length-append (number_field 1 d.operation) (bytes_field (field_of d.operation) bs),
        bytes_sum (field_of d.operation) bs,
      )

  pub prepare-parts :
      length (prepare_payload d bs)
      ≡ length (number_field 1 d.stmt) + length (prefix_of 2 (length (prepare_stmt_payload d bs))) + length
      (prepare_stmt_payload d bs)
  unfolding prepare_payload
  prepare-parts =
      omega (
        arith,
        length-append (number_field 1 d.stmt) (bytes_field 2 (prepare_stmt_payload d bs)),
        bytes_sum 2 (prepare_stmt_payload d bs),
      )

  pub open-stmt-parts :
      length (open_stmt_payload d bs)
      ≡ length (number_field 1 0) + length (prefix_of 2 (length (execute_payload d bs))) + length (execute_payload d bs)
  unfolding open_stmt_payload
  open-stmt-parts =
      omega (
        arith,
        length-append (number_field 1 0) (bytes_field 2 (execute_payload d bs)),
        bytes_sum 2 (execute_payload d bs),
      )

  pub open-parts :
      length (open_payload d bs)
      ≡ length (number_field 1 d.cursor) + length (prefix_of 4 (length (open_stmt_payload d bs))) + length
      (open_stmt_payload d bs)
      + length (optional_field d.hasrows 5 d.rows)
  unfolding open_payload
  open-parts =
      omega (
        arith,
        length-append (number_field 1 d.cursor ++ bytes_field 4 (open_stmt_payload d bs))
            (optional_field d.hasrows 5 d.rows),
        length-append (number_field 1 d.cursor) (bytes_field 4 (open_stmt_payload d bs)),
        bytes_sum 4 (open_stmt_payload d bs),
      )

  -- what stands around the arguments or the body is short
  pub execute_short : length (execute_payload d bs) ≤ length bs + 40
  execute_short =
      omega (arith, execute-parts, number_short 1 d.stmt, optional_short d.hascompact 3 (cond d.compact 1 0))

  pub open_stmt_short : length (open_stmt_payload d bs) ≤ length bs + 80
  open_stmt_short =
      omega (arith, open-stmt-parts, execute_short, number_short 1 0, prefix_short 2 (length (execute_payload d bs)))

  pub prepare_stmt_short : length (prepare_stmt_payload d bs) ≤ length bs + 40
  prepare_stmt_short =
      omega (
        arith,
        prepare-stmt-parts,
        number_short 1 d.operation,
        prefix_short (field_of d.operation) (length bs),
      )

pub fetch_parts : (d : Draft) →
    length (fetch_payload d) ≡ length (number_field 1 d.cursor) + length (optional_field d.hasrows 2 d.rows)
unfolding fetch_payload
fetch_parts d = length-append (number_field 1 d.cursor) (optional_field d.hasrows 2 d.rows)
