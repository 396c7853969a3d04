-- Padded arguments (W20): an Any's own fields, those of its scalar where its type chooses it, and those of the octets
-- or the string where the Scalar's type chooses one, in every part of each. What a type does not choose is not read,
-- and does not count.
use Rattle.std.specs.Prelude.{ℕ, ◌+◌, Bool, false, cond, ◌||◌, List, length, take, leb, eqb}
use Rattle.protocol.specs.Anys as Anys
use Rattle.protocol.specs.Fields as Fields
use Rattle.protocol.specs.Scalars as Scalars
use Rattle.wire.specs.declared.field.Field.{Field}
use Rattle.layout.specs.Table.{rows_of, any, scalar}
use Rattle.layout.specs.Padded.{padded_list, part_padded, parts_padded}
use Rattle.layout.specs.declared.part.Part.{Part}
use Rattle.layout.specs.declared.slots.Slots.{Slots}
use Rattle.layout.specs.Part.{embedded, value_of, low32}
use Rattle.layout.specs.Merged.{parts_in, merged}
use Rattle.args.specs.Value.{scalar_parts}
use Rattle.args.specs.Arguments.{is_args}
use Rattle.std.specs.Prelude.{Option, Some, None}

-- inside a Scalar in these parts: the octets or the string, if its type chooses one
abbrev pub bytes_padded : List ℕ → List Part → ℕ → Bool
bytes_padded s ps t =
    cond (eqb t Scalars.octets) (parts_padded s (parts_in Scalars.octets_field s ps))
    (cond (eqb t Scalars.string) (parts_padded s (parts_in Scalars.string_field s ps)) false)

unfoldable pub inside_scalar : List ℕ → List Part → Slots → Bool
inside_scalar s ps x = cond x.good (bytes_padded s ps (low32 (value_of x Fields.type))) false

-- the Scalar in these parts of s
unfoldable pub scalar_padded : List ℕ → List Part → Bool
scalar_padded s ps = parts_padded s ps || inside_scalar s ps (merged (rows_of scalar) s ps)

-- inside an Any: its scalar, which stands in these parts, if its type chooses it
unfoldable pub inside_any : List ℕ → List Part → Slots → Bool
inside_any s ps x =
    cond x.good (cond (eqb (low32 (value_of x Fields.type)) Anys.scalar) (scalar_padded s ps) false) false

-- the argument whose Any stands in n bytes of s from the place `at` on
unfoldable pub argument_padded : List ℕ → ℕ → ℕ → Bool
argument_padded s at n = part_padded s at n || inside_any s (scalar_parts s at n) (embedded (rows_of any) s at n)

-- inside a field of a message with arguments
abbrev pub inside_args : List ℕ → Option Field → Bool
inside_args s (Some r) =
    cond (is_args r.number r.wire r.value) (argument_padded s r.start r.len) false
inside_args s None = false

-- a message with arguments, from the place `from` to the end of s: its own fields, and all of its arguments
abbrev pub bound_padded : List ℕ → ℕ → Bool
bound_padded s from = padded_list (inside_args s) s from

-- the same in n bytes of s from the place `at` on
unfoldable pub execute_padded : List ℕ → ℕ → ℕ → Bool
execute_padded s at n = cond (leb (at + n) (length s)) (bound_padded (take (at + n) s) at) false
