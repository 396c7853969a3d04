-- The value behind a tag (W8, W7): lengths may not pass the end of their message, the end of s here.
use Rattle.std.specs.Prelude.{ℕ, ◌+◌, ◌-◌, cond, List, length, ltb, eqb}
use Rattle.protocol.specs.WireType as WireType
use Rattle.varint.specs.Varint.{varint_at}
use Rattle.varint.specs.declared.Number.{Number}
use Rattle.scalar.specs.Fixed.{fixed_at}
use Rattle.wire.specs.declared.value.Value.{Value}
use Rattle.std.specs.Prelude.{Option, Some, None}

-- a value, the place and length of its bytes, and the place behind them
abbrev pub some_value : ℕ → ℕ → ℕ → ℕ → Option Value
some_value number start len next = Some (record { number = number; start = start; len = len; next = next })

-- wire type 0: a varint
abbrev pub of_varint : ℕ → Option Number → Option Value
of_varint at (Some r) = some_value r.value at (r.next - at) r.next
of_varint at None = None

abbrev pub as_number : List ℕ → ℕ → Option Value
as_number s at = of_varint at (varint_at s at)

-- wire types 1 and 5: eight or four bytes
abbrev pub of_fixed : ℕ → ℕ → Option Number → Option Value
of_fixed width at (Some r) = some_value r.value at width r.next
of_fixed width at None = None

abbrev pub as_fixed : ℕ → List ℕ → ℕ → Option Value
as_fixed width s at = of_fixed width at (fixed_at width s at)

-- wire type 2: a length and as many bytes
abbrev pub of_length : List ℕ → Option Number → Option Value
of_length s (Some r) =
    cond (ltb (length s - r.next) r.value) None (some_value r.value r.next r.value (r.next + r.value))
of_length s None = None

abbrev pub as_length : List ℕ → ℕ → Option Value
as_length s at = of_length s (varint_at s at)

-- by wire type; the others, 3 and 4, are a group's start and end
abbrev pub value_at : List ℕ → ℕ → ℕ → Option Value
value_at s wire at =
    cond (eqb wire WireType.varint) (as_number s at)
    (cond (eqb wire WireType.i64) (as_fixed 8 s at)
    (cond (eqb wire WireType.len) (as_length s at) (cond (eqb wire WireType.i32) (as_fixed 4 s at) None)))
