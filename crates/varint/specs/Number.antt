-- A number that was read.
use Rattle.std.specs.Prelude.{ℕ, Option, Some}
use Rattle.varint.specs.declared.Number.{Number}

-- the number v, and the place behind it
abbrev pub some_number : ℕ → ℕ → Option Number
some_number v next = Some (record { value = v; next = next })
