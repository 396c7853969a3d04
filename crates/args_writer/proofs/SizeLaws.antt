-- The parts of an args field, and their lengths. Assumes nothing.
use Rattle.prelude.proofs.Basics.{ℕ, ◌+◌, arith, ◌≡◌, List, length, length-append}
use Rattle.args_writer.proofs.Names.{prefix_of, number_field, bytes_field}
use Rattle.args_writer.proofs.Names.{bytes_sum, scalar_bytes, any_bytes}

-- ---- around the value

module _ (t : ℕ) (value : List ℕ) where
  pub scalar_parts : length (scalar_bytes t value) ≡ length (number_field 1 t) + length value
  unfolding scalar_bytes
  scalar_parts = length-append (number_field 1 t) value

  pub any_parts :
      length (any_bytes t value)
      ≡ length (number_field 1 1) + length (prefix_of 2 (length (scalar_bytes t value))) + length (scalar_bytes t value)
  unfolding any_bytes
  any_parts =
      omega (
        arith,
        length-append (number_field 1 1) (bytes_field 2 (scalar_bytes t value)),
        bytes_sum 2 (scalar_bytes t value),
      )
